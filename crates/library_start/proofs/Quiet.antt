-- A start that is refused with nothing changed, and the move question, give back the struct that they were given.
-- Assumes nothing.
use Rattle.std.specs.Prelude.{Err, Ok}
use Prim.Native.Nat.{ℕ}
use mathlib.Core.Path.{◌≡◌, refl}
use mathlib.Core.Bool.{Bool, true, false, cond, ◌&&◌}
use mathlib.Core.List.{List}
use lib.Dec.{leb}
use lib.ListN.{length}
use Rattle.layout.specs.Types.{type_of}
use Rattle.state.specs.declared.fields.Coordinator.{Coordinator}
use Rattle.state.specs.Turns.{Turn, unless, asked, error_turn}
use Rattle.state.specs.Passed.{Passed}
use Rattle.calls.specs.Calls.{asking_no_job, move_turn}
use Rattle.starts.specs.declared.naming.Start.{Start}
use Rattle.starts.specs.Starts.{start_turn, SignId}
use Rattle.state_bytes.specs.Description.{state_for}
use Rattle.step_definition.specs.Refusals.{unchanging}
use Rattle.coordinator_theorems.specs.Host.{start, turn_for}
use Rattle.coordinator_theorems.proofs.Quiet.{refused-quiet}
use Rattle.library_start.specs.Given.{root_given, type_said, last_state, started_turn, moved_turn}

module _ (clock : ℕ) (message : List ℕ) (by : Start) (room : ℕ) (s : Coordinator) (store : List ℕ) where
  said-quiet :
      (b : Bool) → unchanging (cond b (start_turn clock message by room s store) (error_turn 8 s store)).answer.number ≡ true
      → (cond b (start_turn clock message by room s store) (error_turn 8 s store)).after ≡ s
  unfolding turn_for
  said-quiet true e = refused-quiet (start message by) clock false room s store e
  said-quiet false e = refl

pub started-quiet :
    (clock : ℕ) (message : List ℕ) (n : ℕ) (root : List ℕ) (id : SignId) (room : ℕ) (s : Coordinator) (store : List ℕ)
    → unchanging (started_turn clock message n root id room s store).answer.number ≡ true → (started_turn clock message n root id room s store).after ≡ s
unfolding started_turn
started-quiet clock message n root id room s store =
    said-quiet clock message (record { signature_type = type_of n; root = root_given root; sign_id = id }) room s store (type_said n root)

same_after : (p : Passed) (s : Coordinator) (store : List ℕ) (rest : Turn) → rest.after ≡ s → (unless p s store rest).after ≡ s
unfolding unless
same_after (Ok tt) s store rest e = e
same_after (Err n) s store rest e = refl

pub moved_quiet : (next n : ℕ) (root : List ℕ) (s : Coordinator) (store : List ℕ) → (moved_turn next n root s store).after ≡ s
unfolding moved_turn move_turn
moved_quiet next n root s store = by (leb next last_state && type_said n root)
  where
    by : (b : Bool) → (cond b (move_turn (state_for next (type_of n)) (root_given root) s store) (error_turn 8 s store)).after ≡ s
    by true = same_after (asked asking_no_job (length store) 0 s) s store _ refl
    by false = refl
