-- The state that bytes count as.
use Rattle.std.specs.Prelude.{ℕ, Bool, cond, ◌&&◌, List, leb, length, take, replicate}
use Rattle.wire.specs.Bytes.{are_same_bytes}
use Rattle.state.specs.declared.fields.Coordinator.{Coordinator}
use Rattle.state_bytes.specs.Description.{coordinator_form}
use Rattle.state_bytes.specs.Saved.{state_length, saved}

-- what bytes say, at the places where a save puts each field
unfoldable pub state_at : List ℕ → Coordinator
state_at s = coordinator_form.load s 0

-- the state of zeros: uncommissioned
abbrev pub unsaved : Coordinator
unsaved = state_at (replicate state_length 0)

-- whether a save left these bytes: saving the state that they say gives just them; what stands after them does not count
unfoldable pub is_saved : List ℕ → Bool
is_saved b = leb state_length (length b) && are_same_bytes (saved (state_at b)) (take state_length b)

-- "bytes that no save left count as uncommissioned"
unfoldable pub loaded : List ℕ → Coordinator
loaded b = cond (is_saved b) (state_at b) unsaved
