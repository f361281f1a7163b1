-- The timeout that is due, by the state.
-- Assumes nothing.
use Prim.Native.Nat.{ℕ}
use mathlib.Core.Path.{◌≡◌, refl}
use mathlib.Core.Bool.{Bool, true, false}
use native.Mathlib.Omega.{arith}
use Rattle.layout.specs.declared.SignatureType.{SignatureType}
use Rattle.state_table.specs.declared.State.{State}
use Rattle.state_table.specs.declared.State.TheVariants.{Idle, DkgPublicDistribute, DkgPublicGather, DkgPublicSharesDoneDistribute, DkgPublicSharesDoneGather, DkgPrivateDistribute, DkgPrivateGather, DkgPrivateSharesDoneDistribute, DkgPrivateSharesDoneGather, DkgEndDistribute, DkgEndGather, NonceRequest, NonceGather, SigShareRequest, SigShareGather}
use Rattle.step_definition.specs.Phases.{Phase, idling, gathering_nonces, gathering_shares, resting, phase_of}
use Rattle.process_timeout.specs.declared.dues.Due.TheVariants.{Nothing, Shares}
use Rattle.process_timeout.specs.Due.{due_in}

-- all states but the two that gather
pub none_due :
    (s : State) (nonces shares : Bool)
    → ((t : SignatureType) → s ≡ NonceGather t → ⊥) → ((t : SignatureType) → s ≡ SigShareGather t → ⊥) → Nothing ≡ due_in (phase_of s) nonces shares
unfolding due_in
none_due Idle nonces shares h k = refl
none_due DkgPublicDistribute nonces shares h k = refl
none_due DkgPublicGather nonces shares h k = refl
none_due DkgPublicSharesDoneDistribute nonces shares h k = refl
none_due DkgPublicSharesDoneGather nonces shares h k = refl
none_due DkgPrivateDistribute nonces shares h k = refl
none_due DkgPrivateGather nonces shares h k = refl
none_due DkgPrivateSharesDoneDistribute nonces shares h k = refl
none_due DkgPrivateSharesDoneGather nonces shares h k = refl
none_due DkgEndDistribute nonces shares h k = refl
none_due DkgEndGather nonces shares h k = refl
none_due (NonceRequest t) nonces shares h k = refl
none_due (NonceGather t) nonces shares h k = absurd (h t refl)
none_due (SigShareRequest t) nonces shares h k = refl
none_due (SigShareGather t) nonces shares h k = absurd (k t refl)

-- the share timeout is due only where shares are gathered, with that type
abbrev typed : Phase → SignatureType → Type 0
typed idling t = ⊥
typed (gathering_nonces u) t = ⊥
typed (gathering_shares u) t = u ≡ t
typed resting t = ⊥

shares_due : (p : Phase) (nonces shares : Bool) (t : SignatureType) → due_in p nonces shares ≡ Shares t → typed p t
unfolding due_in
shares_due idling nonces shares t e = let z : ◌≡◌ {A = ℕ} 0 1 = cc in omega arith
shares_due (gathering_nonces u) true shares t e = let z : ◌≡◌ {A = ℕ} 0 1 = cc in omega arith
shares_due (gathering_nonces u) false shares t e = let z : ◌≡◌ {A = ℕ} 0 1 = cc in omega arith
shares_due (gathering_shares u) nonces true t e = cc
shares_due (gathering_shares u) nonces false t e = let z : ◌≡◌ {A = ℕ} 0 1 = cc in let f : ⊥ = omega arith in absurd f
shares_due resting nonces shares t e = let z : ◌≡◌ {A = ℕ} 0 1 = cc in omega arith

gathers : (s : State) (t : SignatureType) → typed (phase_of s) t → s ≡ SigShareGather t
gathers Idle t h = absurd h
gathers DkgPublicDistribute t h = absurd h
gathers DkgPublicGather t h = absurd h
gathers DkgPublicSharesDoneDistribute t h = absurd h
gathers DkgPublicSharesDoneGather t h = absurd h
gathers DkgPrivateDistribute t h = absurd h
gathers DkgPrivateGather t h = absurd h
gathers DkgPrivateSharesDoneDistribute t h = absurd h
gathers DkgPrivateSharesDoneGather t h = absurd h
gathers DkgEndDistribute t h = absurd h
gathers DkgEndGather t h = absurd h
gathers (NonceRequest u) t h = absurd h
gathers (NonceGather u) t h = absurd h
gathers (SigShareRequest u) t h = absurd h
gathers (SigShareGather u) t h = rw h

pub shares-state : (s : State) (nonces shares : Bool) (t : SignatureType) → due_in (phase_of s) nonces shares ≡ Shares t → s ≡ SigShareGather t
shares-state s nonces shares t e = gathers s t (shares_due (phase_of s) nonces shares t e)
