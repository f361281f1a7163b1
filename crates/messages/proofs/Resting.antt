-- The states that hear nothing.
-- Assumes nothing.
use mathlib.Core.Path.{◌≡◌, refl}
use Rattle.layout.specs.declared.SignatureType.{SignatureType}
use Rattle.step_definition.specs.Phases as D
use Rattle.state_table.specs.declared.State.{State}
use Rattle.state_table.specs.declared.State.TheVariants.{Idle, DkgPublicDistribute, DkgPublicGather, DkgPublicSharesDoneDistribute, DkgPublicSharesDoneGather, DkgPrivateDistribute, DkgPrivateGather, DkgPrivateSharesDoneDistribute, DkgPrivateSharesDoneGather, DkgEndDistribute, DkgEndGather, NonceRequest, NonceGather, SigShareRequest, SigShareGather}
use Rattle.messages.specs.declared.phases.Phase.TheVariants.{Resting}
use Rattle.messages.specs.Phases.{phase_answer}

-- all states but Idle and the two that gather
pub resting :
    (s : State) → (s ≡ Idle → ⊥) → ((t : SignatureType) → s ≡ NonceGather t → ⊥) → ((t : SignatureType) → s ≡ SigShareGather t → ⊥)
    → Resting ≡ phase_answer (D.phase_of s)
unfolding phase_answer
resting Idle i h k = absurd (i refl)
resting DkgPublicDistribute i h k = refl
resting DkgPublicGather i h k = refl
resting DkgPublicSharesDoneDistribute i h k = refl
resting DkgPublicSharesDoneGather i h k = refl
resting DkgPrivateDistribute i h k = refl
resting DkgPrivateGather i h k = refl
resting DkgPrivateSharesDoneDistribute i h k = refl
resting DkgPrivateSharesDoneGather i h k = refl
resting DkgEndDistribute i h k = refl
resting DkgEndGather i h k = refl
resting (NonceRequest t) i h k = refl
resting (NonceGather t) i h k = absurd (h t refl)
resting (SigShareRequest t) i h k = refl
resting (SigShareGather t) i h k = absurd (k t refl)
