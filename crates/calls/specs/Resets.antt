-- `reset`: a round is abandoned, then key generation's end is forgotten. The records' bytes stay in the store, where nobody looks at them.
use Rattle.std.specs.Prelude.{ℕ, false, List, length, replicate, None}
use Rattle.layout.specs.Limits.{signer_limit}
use Rattle.state_table.specs.declared.State.TheVariants.{Idle}
use Rattle.step_definition.specs.Calls as A
use Rattle.state.specs.declared.answers.Asks.{Asks}
use Rattle.state.specs.declared.fields.Coordinator.{Coordinator}
use Rattle.state.specs.Setters.{set_job, set_clocks, set_shares, set_records, set_position, set_marks}
use Rattle.state.specs.Turns.{Turn, turn, asked, unless}
use Rattle.state.specs.Replaced.{none_held}

-- reset, in two steps
unfoldable pub abandoned : Coordinator → Coordinator
abandoned s =
    set_job false
    (set_clocks (record { nonce_start = None; sign_start = None })
    (set_shares none_held
    (set_records (record { rows = s.records.rows; count = 0 })
    (set_position (record { state = Idle; root = s.position.root }) s))))

unfoldable pub forgotten : Coordinator → Coordinator
forgotten s = set_marks (record { ended = replicate signer_limit false; malicious = s.marks.malicious }) s

abbrev pub asks_nothing : Asks
asks_nothing = record { no_job = false; a_job = false; room = false }

unfoldable pub reset_turn : Coordinator → List ℕ → Turn
reset_turn s store = unless (asked asks_nothing (length store) 0 s) s store (turn A.plain (forgotten (abandoned s)) store)
