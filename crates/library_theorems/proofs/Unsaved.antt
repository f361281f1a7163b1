-- A struct that is not commissioned gets 4 of every call but commissioning, and stays as it is, beside the store.
-- Assumes nothing.
use Prim.Native.Nat.{ℕ}
use mathlib.Core.Path.{◌≡◌}
use mathlib.Core.Bool.{Bool, true, false}
use mathlib.Core.List.{List}
use native.Mathlib.Omega.{arith}
use Rattle.state.specs.declared.answers.Asks.{Asks}
use Rattle.state.specs.declared.fields.Coordinator.{Coordinator}
use Rattle.state.specs.Turns.{Turn, asked, asked_if, unless, error_turn}
use Rattle.calls.specs.Calls.{set_key_turn, move_turn, aggregated_turn}
use Rattle.calls.specs.Resets.{reset_turn}
use Rattle.results.specs.Results.{results_turn}
use Rattle.arrivals.specs.Query.{arrivals_turn}
use Rattle.starts.specs.Starts.{start_turn}
use Rattle.process_timeout.specs.ProcessTimeout.{process_timeout_turn}
use Rattle.process.specs.Process.{receive_turn}
use Rattle.coordinator_theorems.specs.Host.{HostRequest, commission, set_key, take_results, can_move, start, receive, process_timeout}
use Rattle.coordinator_theorems.specs.Host.{aggregated, reset, tell_arrivals}
use Rattle.coordinator_theorems.specs.Host.{turn_for}
use Rattle.coordinator_theorems.specs.Refusals.{commissions}

module _ (clock : ℕ) (verdict : Bool) (room : ℕ) (s : Coordinator) (store : List ℕ) (none : s.commissioned ≡ false) where
  refused : (a : Asks) (size room : ℕ) (rest : Turn) → unless (asked a size room s) s store rest ≡ error_turn 4 s store
  unfolding asked asked_if unless
  refused a size room rest = rw none

  pub uncommissioned_turn : (q : HostRequest) → commissions q ≡ false → turn_for q clock verdict room s store ≡ error_turn 4 s store
  unfolding turn_for set_key_turn results_turn move_turn start_turn receive_turn process_timeout_turn aggregated_turn reset_turn arrivals_turn
  uncommissioned_turn (commission g) e = let z : ◌≡◌ {A = ℕ} 0 1 = cc in let f : ⊥ = omega arith in absurd f
  uncommissioned_turn (set_key which held) e = refused _ _ _ _
  uncommissioned_turn (take_results dkg ended) e = refused _ _ _ _
  uncommissioned_turn (can_move next root) e = refused _ _ _ _
  uncommissioned_turn (start m by) e = refused _ _ _ _
  uncommissioned_turn (receive entry p) e = refused _ _ _ _
  uncommissioned_turn process_timeout e = refused _ _ _ _
  uncommissioned_turn (aggregated ok) e = refused _ _ _ _
  uncommissioned_turn reset e = refused _ _ _ _
  uncommissioned_turn tell_arrivals e = refused _ _ _ _
