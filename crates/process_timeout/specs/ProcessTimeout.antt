-- `process_timeout`: 4, 5 and 7, then the timeout that fires, or nothing.
use Rattle.std.specs.Prelude.{ℕ, true, false, List, length}
use Rattle.state.specs.declared.answers.Asks.{Asks}
use Rattle.state.specs.declared.fields.Coordinator.{Coordinator}
use Rattle.state.specs.Turns.{Turn, asked, unless}
use Rattle.process_timeout.specs.Due.{due_of, due_turn, quiet_turn}

abbrev pub asking_timeout : Asks
asking_timeout = record { no_job = true; a_job = false; room = true }

unfoldable pub process_timeout_turn : ℕ → ℕ → Coordinator → List ℕ → Turn
process_timeout_turn clock room s store =
    unless (asked asking_timeout (length store) room s) s store (due_turn clock (due_of clock s) s store (quiet_turn s store))
