-- Taking results gives what the step says of what the struct and the store stand for.
-- Assumes nothing.
use Rattle.std.specs.Prelude.{Err, Ok}
use Prim.Native.Nat.{ℕ}
use mathlib.Core.Path.{◌≡◌, refl, ◌∙◌}
use mathlib.Core.Bool.{Bool, true, false, cond, ◌&&◌}
use mathlib.Core.List.{List, []}
use lib.Dec.{leb}
use lib.ListN.{length}
use Rattle.wire.specs.Bytes.{every}
use Rattle.layout.specs.Limits.{signer_limit}
use Rattle.step_definition.specs.Calls as A
use Rattle.step_definition.specs.Coordinator.{commissioned}
use Rattle.step_definition.specs.Coordinator.{Coordinator as Defined}
use Rattle.step_definition.specs.Phases.{phase_of, is_idle}
use Rattle.step_definition.specs.Questions.{asks, question24, question25}
use Rattle.step_definition.specs.Starts.{ask}
use Rattle.step_definition.specs.Step.{on_results, own, step_of, step}
use Rattle.state.specs.declared.fields.Coordinator.{Coordinator}
use Rattle.state.specs.Counts.{is_within_limits}
use Rattle.state.specs.View.{view, coordinator_of, standing_of, round_of, position_of}
use Rattle.state.specs.Turns.{turn, asked, asked_if, unless, Refines}
use Rattle.state.proofs.Within.{within, config_few}
use Rattle.state.proofs.Refines.{on_held_law, view_held, call_of}
use Rattle.calls.specs.Calls.{asking_no_job}
use Rattle.results.specs.Results.{is_known, results_asked, with_results, results_turn}
use Rattle.results.proofs.Flags.{all_configured, flags-collect}

-- 24 and 25, by their answers
chain :
    (s t : Coordinator) (store : List ℕ) (c d : Defined) (idle few known : Bool) → view s store ≡ commissioned c
    → (known ≡ true → view t store ≡ commissioned d)
    → Refines (unless (cond idle (cond few (cond known (Ok tt) (Err 25)) (Err 25)) (Err 24)) s store (turn A.plain t store))
    (ask idle (A.failing 24 [] c) (ask (few && known) (A.failing 25 [] c) (A.quiet d)))
unfolding unless
chain s t store c d true true true e f = record { answer = refl; events = refl; after = f refl }
chain s t store c d true true false e f = record { answer = refl; events = refl; after = e }
chain s t store c d true false known e f = record { answer = refl; events = refl; after = e }
chain s t store c d false few known e f = record { answer = refl; events = refl; after = e }

module _ (dkg : ℕ) (ended : List ℕ) (s : Coordinator) (store : List ℕ) where
  own-results :
      s.commissioned ≡ true → is_within_limits s ≡ true
      → Refines (unless (results_asked ended s) s store (turn A.plain (with_results dkg ended s) store)) (on_results dkg ended (coordinator_of s store))
  unfolding on_results question24 question25 results_asked with_results coordinator_of standing_of round_of position_of is_within_limits
  own-results b w =
      rw (← all_configured s.config ended)
      (chain s (with_results dkg ended s) store (coordinator_of s store) _ (is_idle (phase_of s.position.state)) (leb (length ended) signer_limit) (every (is_known s.config) ended)
      (view_held s store b w)
      (λ k. view_held (with_results dkg ended s) store b w ∙ rw (flags-collect s.config ended (config_few s (within s w)) k)))

  pub results-refines :
      (clock room : ℕ) (verdict : Bool)
      → Refines (results_turn dkg ended s store) (step (call_of (A.other (A.take_results dkg ended)) clock verdict (length store) room) (view s store))
  unfolding step_of asks own results_turn asked asked_if
  results-refines clock room verdict =
      on_held_law (call_of (A.other (A.take_results dkg ended)) clock verdict (length store) room) (A.take_results dkg ended) asking_no_job refl s store _ refl own-results
