-- The test whether a timeout fires is the definition's, and `process_timeout` gives what the step says of what the struct and the store
-- stand for.
-- Assumes nothing.
use Prim.Native.Nat.{ℕ}
use mathlib.Core.Path.{◌≡◌, refl}
use mathlib.Core.Bool.{Bool, true}
use mathlib.Core.List.{List}
use lib.ListN.{length}
use Rattle.step_definition.specs.Lists.{given}
use Rattle.step_definition.specs.Calls as A
use Rattle.step_definition.specs.Coordinator.{Coordinator as Defined}
use Rattle.step_definition.specs.Phases.{Phase, idling, gathering_nonces, gathering_shares, resting, phase_of}
use Rattle.step_definition.specs.Questions.{asks, fires}
use Rattle.step_definition.specs.Timeouts.{timeout_in, timeout}
use Rattle.step_definition.specs.Step.{unless_late, own, step_of, step}
use Rattle.step_definition.proofs.Cases.{cond_image}
use Rattle.state.specs.declared.fields.Coordinator.{Coordinator}
use Rattle.state.specs.Counts.{is_within_limits}
use Rattle.state.specs.View.{view, reading, config_of, coordinator_of, standing_of, round_of, position_of}
use Rattle.state.specs.Turns.{Turn, Refines}
use Rattle.state.proofs.Shape.{Shaped}
use Rattle.state.proofs.Refines.{on_held_law, view_held, call_of}
use Rattle.timeouts.proofs.Refines.{nonce_timeout_refines}
use Rattle.share_timeout.proofs.Refines.{share_timeout_refines}
use Rattle.process_timeout.specs.declared.dues.Due.{Due}
use Rattle.process_timeout.specs.declared.dues.Due.TheVariants.{Nothing, Nonces, Shares}
use Rattle.process_timeout.specs.Due.{due_in, due_of, due_outcome, due_turn, quiet_turn}
use Rattle.process_timeout.specs.ProcessTimeout.{asking_timeout, process_timeout_turn}
use Rattle.process_timeout.proofs.States.{shares-state}

module _ (clock : ℕ) (s : Coordinator) (store : List ℕ) where
  abbrev c : Defined
  c = coordinator_of s store

  -- what the definition's timeout answers, by the timeout that is due
  pub timeout_is_due : timeout clock (coordinator_of s store) ≡ due_outcome clock (due_of clock s) (coordinator_of s store)
  unfolding timeout_in due_of due_in due_outcome coordinator_of standing_of config_of round_of position_of
  timeout_is_due = by (phase_of s.position.state)
    where
      nonces : Bool
      nonces = fires clock (reading s.clocks.nonce_start) (reading s.config.timeouts.nonce)

      shares : Bool
      shares = fires clock (reading s.clocks.sign_start) (reading s.config.timeouts.sign)

      by : (p : Phase) → timeout_in clock p (coordinator_of s store) ≡ due_outcome clock (due_in p nonces shares) (coordinator_of s store)
      by idling = refl
      by (gathering_nonces t) = cond_image (λ (d : Due). due_outcome clock d c) nonces refl refl
      by (gathering_shares t) = cond_image (λ (d : Due). due_outcome clock d c) shares refl refl
      by resting = refl

  module _ (shaped : Shaped s) (b : s.commissioned ≡ true) (w : is_within_limits s ≡ true) where
    due-refines :
        (rest : Turn) (o : A.Outcome) → Refines rest o → (d : Due) → due_of clock s ≡ d
        → Refines (due_turn clock d s store rest) (given (due_outcome clock d c) (λ (x : A.Outcome). x) o)
    unfolding due_turn due_outcome due_of
    due-refines rest o r Nothing e = r
    due-refines rest o r Nonces e = nonce_timeout_refines s store shaped b w
    due-refines rest o r (Shares t) e = share_timeout_refines clock t s store shaped b w (shares-state s.position.state _ _ t e)

    -- the timeout that fires, or the rest
    pub late_refines : (rest : Turn) (o : A.Outcome) → Refines rest o → Refines (due_turn clock (due_of clock s) s store rest) (unless_late clock (coordinator_of s store) o)
    late_refines rest o r = rw timeout_is_due (due-refines rest o r (due_of clock s) refl)

  pub process-timeout-refines :
      Shaped s → (room : ℕ) (verdict : Bool)
      → Refines (process_timeout_turn clock room s store) (step (call_of (A.other A.process_timeout) clock verdict (length store) room) (view s store))
  unfolding step_of asks own process_timeout_turn
  process-timeout-refines shaped room verdict =
      on_held_law (call_of (A.other A.process_timeout) clock verdict (length store) room) A.process_timeout asking_timeout refl s store _ refl
      (λ b w. late_refines shaped b w (quiet_turn s store) (A.quiet c) (record { answer = refl; events = refl; after = view_held s store b w }))
