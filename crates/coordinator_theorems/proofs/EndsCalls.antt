-- How the calls that bring no packet and test no timeout end, but for the start.
-- Assumes nothing.
use Rattle.std.specs.Prelude.{Err, Ok}
use Prim.Native.Nat.{ℕ, ◌≤◌}
use mathlib.Core.Path.{◌≡◌, refl}
use mathlib.Core.Bool.{Bool, true, false, not, ◌||◌}
use mathlib.Core.List.{List}
use native.Mathlib.Omega.{arith}
use lib.Dec.{leb}
use lib.ListN.{length, replicate}
use Rattle.wire.specs.Bytes.{every}
use Rattle.layout.specs.Limits.{signer_limit, store_length, answer_length}
use Rattle.state_table.specs.declared.State.{State}
use Rattle.step_definition.specs.Calls as A
use Rattle.step_definition.specs.Configuration.{Config, question1, question2, question3}
use Rattle.step_definition.specs.Phases.{phase_of, is_idle}
use Rattle.step_definition.proofs.Cases.{cond_both}
use Rattle.state.specs.declared.answers.Asks.{Asks}
use Rattle.state.specs.declared.fields.Coordinator.{Coordinator}
use Rattle.state.specs.Counts.{is_within_limits}
use Rattle.state.specs.Turns.{Turn, turn, asked, asked_if, unless}
use Rattle.state.specs.Passed.{Passed}
use Rattle.configuration.specs.declared.new_config.NewConfig.{NewConfig}
use Rattle.configuration.specs.NewConfig.{new_config_of, new_asked}
use Rattle.commission.specs.Commission.{uncommissioned_struct, fresh_of, commission_turn}
use Rattle.calls.specs.declared.held_keys.HeldKey.{HeldKey}
use Rattle.calls.specs.Calls.{asking_no_job, asking_ajob, set_key_turn, move_turn, aggregated_turn}
use Rattle.calls.specs.Resets.{asks_nothing, reset_turn}
use Rattle.results.specs.Results.{is_known, results_asked, results_turn}
use Rattle.arrivals.specs.Query.{asking_query, told_turn, arrivals_turn}
use Rattle.coordinator_theorems.specs.Host.{commission, set_key, take_results, can_move, aggregated, reset, tell_arrivals}
use Rattle.coordinator_theorems.specs.Refusals.{commissioning, failed}
use Rattle.coordinator_theorems.proofs.Ends.{Ended, took, refused, fresh, key_set, results_taken, signature, all_reset, as_before, Bare, ends_unless}

-- commissioning's numbers are 1 to 3
abbrev FirstThree : Passed → Type 0
FirstThree (Ok tt) = Unit {0}
FirstThree (Err n) = (1 ≤ n) × (n ≤ 3)

new_numbers : (g : Config) → FirstThree (new_asked g)
unfolding new_asked
new_numbers g =
    cond_both FirstThree (question1 g)
    (cond_both FirstThree (question2 g) (cond_both FirstThree (question3 g) tt (omega arith, omega arith)) (omega arith, omega arith))
    (omega arith, omega arith)

pub commission_ends : (clock : ℕ) (g : NewConfig) (s : Coordinator) (store : List ℕ) → Ended clock (commission g) s store (commission_turn g store)
unfolding commission_turn unless
commission_ends clock g s store = by (new_asked (new_config_of g)) refl (new_numbers (new_config_of g))
  where
    by : (p : Passed) → new_asked (new_config_of g) ≡ p → FirstThree p
        → Ended clock (commission g) s store (unless p uncommissioned_struct store (turn A.plain (fresh_of g) (replicate (length store) 0)))
    by (Ok tt) e f = took refl (fresh e)
    by (Err n) e f = refused (commissioning g n f.0 f.1)

-- commissioning that is answered with no number
pub commission_took :
    (g : NewConfig) (store : List ℕ) → (commission_turn g store).answer.number ≡ 0
    → ((commission_turn g store).after ≡ fresh_of g) × ((commission_turn g store).store ≡ replicate (length store) 0)
unfolding commission_turn unless
commission_took g store e = by (new_asked (new_config_of g)) (new_numbers (new_config_of g)) e
  where
    ended : Passed → Turn
    ended p = unless p uncommissioned_struct store (turn A.plain (fresh_of g) (replicate (length store) 0))

    by : (p : Passed) → FirstThree p → (ended p).answer.number ≡ 0
        → ((ended p).after ≡ fresh_of g) × ((ended p).store ≡ replicate (length store) 0)
    by (Ok tt) f e = (refl, refl)
    by (Err n) f e = absurd (omega (arith, f.0))

-- 4 to 7 change nothing, 24 and 25 change nothing
pub asked_bare : (a : Asks) (size room : ℕ) (s : Coordinator) → Bare (asked a size room s)
unfolding asked asked_if
asked_bare a size room s =
    cond_both Bare s.commissioned
    (cond_both Bare (is_within_limits s)
    (cond_both Bare (leb store_length size)
    (cond_both Bare (not a.no_job || not s.job)
    (cond_both Bare (not a.a_job || s.job) (cond_both Bare (not a.room || leb answer_length room) tt refl) refl)
    refl)
    refl)
    refl)
    refl

results_bare : (ended : List ℕ) (s : Coordinator) → Bare (results_asked ended s)
unfolding results_asked
results_bare ended s =
    cond_both Bare (is_idle (phase_of s.position.state))
    (cond_both Bare (leb (length ended) signer_limit) (cond_both Bare (every (is_known s.config) ended) tt refl) refl)
    refl

module _ (clock : ℕ) (s : Coordinator) (store : List ℕ) where
  pub set_key_ends : (which : HeldKey) (held : Bool) → Ended clock (set_key which held) s store (set_key_turn which held s store)
  unfolding set_key_turn
  set_key_ends which held =
      ends_unless refl (asked asking_no_job (length store) 0 s) (asked_bare asking_no_job (length store) 0 s) (took refl key_set)

  pub move_ends : (next : State) (root : List ℕ) → Ended clock (can_move next root) s store (move_turn next root s store)
  unfolding move_turn
  move_ends next root = ends_unless refl (asked asking_no_job (length store) 0 s) (asked_bare asking_no_job (length store) 0 s) (took refl as_before)

  pub aggregated_ends : (ok : Bool) → Ended clock (aggregated ok) s store (aggregated_turn ok s store)
  unfolding aggregated_turn
  aggregated_ends true = ends_unless refl (asked asking_ajob (length store) 0 s) (asked_bare asking_ajob (length store) 0 s) (took refl signature)
  aggregated_ends false = ends_unless refl (asked asking_ajob (length store) 0 s) (asked_bare asking_ajob (length store) 0 s) (refused failed)

  pub the_reset_ends : Ended clock reset s store (reset_turn s store)
  unfolding reset_turn
  the_reset_ends = ends_unless refl (asked asks_nothing (length store) 0 s) (asked_bare asks_nothing (length store) 0 s) (took refl all_reset)

  pub results_ends : (dkg : ℕ) (ended : List ℕ) → Ended clock (take_results dkg ended) s store (results_turn dkg ended s store)
  unfolding results_turn
  results_ends dkg ended =
      ends_unless refl (asked asking_no_job (length store) 0 s) (asked_bare asking_no_job (length store) 0 s)
      (ends_unless refl (results_asked ended s) (results_bare ended s) (took refl results_taken))

  pub arrivals_ends : (room : ℕ) → Ended clock tell_arrivals s store (arrivals_turn room s store)
  unfolding arrivals_turn told_turn
  arrivals_ends room =
      ends_unless refl (asked asking_query (length store) room s) (asked_bare asking_query (length store) room s) (took refl as_before)
