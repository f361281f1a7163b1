-- The states by phase: in which state each of the three live phases is.
-- Assumes nothing.
use mathlib.Core.Path.{◌≡◌, refl, subst}
use mathlib.Core.Bool.{true, false≢true}
use Rattle.layout.specs.declared.SignatureType.{SignatureType}
use Rattle.state_table.specs.declared.State.{State}
use Rattle.state_table.specs.declared.State.TheVariants.{Idle, DkgPublicDistribute, DkgPublicGather, DkgPublicSharesDoneDistribute, DkgPublicSharesDoneGather, DkgPrivateDistribute, DkgPrivateGather, DkgPrivateSharesDoneDistribute, DkgPrivateSharesDoneGather, DkgEndDistribute, DkgEndGather, NonceRequest, NonceGather, SigShareRequest, SigShareGather}
use Rattle.step_definition.specs.Phases.{Phase, idling, gathering_nonces, gathering_shares, resting, phase_of, is_idle}

abbrev In : State → Phase → Type 0
In s idling = s ≡ Idle
In s (gathering_nonces t) = s ≡ NonceGather t
In s (gathering_shares t) = s ≡ SigShareGather t
In s resting = Unit {0}

in_phase : (s : State) → In s (phase_of s)
in_phase Idle = refl
in_phase DkgPublicDistribute = tt
in_phase DkgPublicGather = tt
in_phase DkgPublicSharesDoneDistribute = tt
in_phase DkgPublicSharesDoneGather = tt
in_phase DkgPrivateDistribute = tt
in_phase DkgPrivateGather = tt
in_phase DkgPrivateSharesDoneDistribute = tt
in_phase DkgPrivateSharesDoneGather = tt
in_phase DkgEndDistribute = tt
in_phase DkgEndGather = tt
in_phase (NonceRequest t) = tt
in_phase (NonceGather t) = refl
in_phase (SigShareRequest t) = tt
in_phase (SigShareGather t) = refl

pub in_idle : {s : State} → phase_of s ≡ idling → s ≡ Idle
in_idle {s} e = subst (In s) e (in_phase s)

pub in_shares_law : {s : State} {t : SignatureType} → phase_of s ≡ gathering_shares t → s ≡ SigShareGather t
in_shares_law {s} e = subst (In s) e (in_phase s)

pub is_idle_law : (p : Phase) → is_idle p ≡ true → p ≡ idling
is_idle_law idling e = refl
is_idle_law (gathering_nonces t) e = absurd (false≢true e)
is_idle_law (gathering_shares t) e = absurd (false≢true e)
is_idle_law resting e = absurd (false≢true e)
