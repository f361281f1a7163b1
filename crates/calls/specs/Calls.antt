-- What each of these calls gives: answer, struct and store after. None changes the store.
use Rattle.std.specs.Prelude.{ℕ, Bool, true, false, cond, List, [], ◌∷◌, length}
use Rattle.layout.specs.Types.{result_of}
use Rattle.state_table.specs.declared.State.{State}
use Rattle.state_table.specs.declared.State.TheVariants.{Idle}
use Rattle.state_table.specs.States.{position, type_in}
use Rattle.state_table.specs.Moves.{can_move_to}
use Rattle.step_definition.specs.Calls as A
use Rattle.step_definition.specs.Step.{result_number, type_or, yes_no}
use Rattle.state.specs.declared.answers.Asks.{Asks}
use Rattle.state.specs.declared.fields.Coordinator.{Coordinator}
use Rattle.state.specs.declared.fields.Keys.{Keys}
use Rattle.state.specs.Setters.{set_keys, set_job, set_position}
use Rattle.state.specs.Turns.{Turn, turn, asked, unless}
use Rattle.calls.specs.declared.held_keys.HeldKey.{HeldKey}
use Rattle.calls.specs.declared.held_keys.HeldKey.TheVariants as Which

abbrev pub asking_no_job : Asks
asking_no_job = record { no_job = true; a_job = false; room = false }

abbrev pub asking_ajob : Asks
asking_ajob = record { no_job = false; a_job = true; room = false }

-- one of the two held keys, set or cleared
unfoldable pub keys_with : HeldKey → Bool → Keys → Keys
keys_with Which.Coordinator held keys = record { coordinator = held; aggregate = keys.aggregate }
keys_with Which.Aggregate held keys = record { coordinator = keys.coordinator; aggregate = held }

unfoldable pub set_key_turn : HeldKey → Bool → Coordinator → List ℕ → Turn
set_key_turn which held s store =
    unless (asked asking_no_job (length store) 0 s) s store (turn A.plain (set_keys (keys_with which held s.keys) s) store)

-- the move question: the root beside another type is not compared
unfoldable pub move_turn : State → List ℕ → Coordinator → List ℕ → Turn
move_turn next root s store =
    unless (asked asking_no_job (length store) 0 s) s store
    (turn (A.telling (yes_no (can_move_to (position s.position.state s.position.root) (position next root)) ∷ [])) s store)

-- the aggregator's answer
abbrev pub kind_of : State → ℕ
kind_of state = result_number (result_of (type_or (type_in state)))

abbrev pub without_job : Coordinator → Coordinator
without_job s = set_job false s

abbrev pub signed : Coordinator → Coordinator
signed s = set_job false (set_position (record { state = Idle; root = s.position.root }) s)

unfoldable pub aggregated_turn : Bool → Coordinator → List ℕ → Turn
aggregated_turn ok s store =
    unless (asked asking_ajob (length store) 0 s) s store
    (cond ok (turn (A.telling (kind_of s.position.state ∷ [])) (signed s) store)
    (turn (A.refusing A.result 23 []) (without_job s) store))
