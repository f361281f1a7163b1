-- The bytes of a coordinator's state, as it is described.
use Rattle.std.specs.Prelude.{ℕ, List}
use Rattle.state.specs.declared.fields.Coordinator.{Coordinator}
use Rattle.state_bytes.specs.Description.{coordinator_form}

-- the width of the description (`coordinator-long`, proofs)
abbrev pub state_length : ℕ
state_length = 3520

unfoldable pub saved : Coordinator → List ℕ
saved s = coordinator_form.save s

-- What a state's type says of its numbers and arrays: that each number fits its bytes, and each array has its length. `all_saves` (proofs)
-- shows it of every value of the struct's type.
unfoldable pub Saves : Coordinator → Type 0
Saves s = coordinator_form.Fits s
