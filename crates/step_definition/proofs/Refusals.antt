-- What a refusal changes: for every call, everything held and every number, what is held after is what was held before with exactly the
-- fields that 01 names set to the values that 01 gives, and no byte is written.
-- Assumes nothing.
use Prim.Native.Nat.{ℕ, suc}
use mathlib.Core.Path.{◌≡◌}
use mathlib.Core.List.{[]}
use Rattle.step_definition.specs.Coordinator.{Held}
use Rattle.step_definition.specs.Calls.{Call}
use Rattle.step_definition.specs.Refusals.{after_refusal}
use Rattle.step_definition.specs.Step.{step}
use Rattle.step_definition.proofs.Outcomes.{step_told}

pub refusal_changes :
    (k : Call) (h : Held) (n : ℕ) → (step k h).answer.number ≡ suc n
    → ((step k h).after ≡ after_refusal k.clock (suc n) k.request h) × ((step k h).answer.bytes ≡ [])
refusal_changes k h n e = (step_told k h).refusal n e
