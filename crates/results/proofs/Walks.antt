-- The number of Idle, the flags of the ids set one by one, and how many live signers there are.
-- Assumes nothing.
use Prim.Native.Nat.{ℕ, ◌≤◌}
use mathlib.Core.Path.{◌≡◌, refl}
use mathlib.Core.Bool.{false}
use mathlib.Core.List.{List, [], ◌∷◌}
use native.Mathlib.Omega.{arith}
use lib.Dec.{eqb}
use lib.ListN.{length, replicate, length-map, length-take}
use Rattle.std.specs.List.{fold}
use Rattle.std.specs.Prelude.{reverse}
use Rattle.std.proofs.lemmas.Grind.{reverse_onto}
use Rattle.std.proofs.lemmas.List.Sums.{fold-append}
use Rattle.layout.specs.Limits.{signer_limit}
use Rattle.state_table.specs.declared.State.{State}
use Rattle.state_table.specs.declared.State.TheVariants.{Idle, DkgPublicDistribute, DkgPublicGather, DkgPublicSharesDoneDistribute, DkgPublicSharesDoneGather, DkgPrivateDistribute, DkgPrivateGather, DkgPrivateSharesDoneDistribute, DkgPrivateSharesDoneGather, DkgEndDistribute, DkgEndGather, NonceRequest, NonceGather, SigShareRequest, SigShareGather}
use Rattle.state_table.specs.States.{state_number}
use Rattle.step_definition.specs.Phases.{phase_of, is_idle}
use Rattle.state.specs.declared.fields.Config.{Config}
use Rattle.records.specs.Admits.{slot_of}
use Rattle.state.specs.declared.fields.Marks.{Marks}
use Rattle.state.specs.Counts.{entries}
use Rattle.state.specs.View.{ids_of}
use Rattle.results.specs.Results.{flags_of, flagged, ended_marks}

-- Idle has the number 0
pub idle_number : (s : State) → is_idle (phase_of s) ≡ eqb (state_number s) 0
idle_number Idle = refl
idle_number DkgPublicDistribute = refl
idle_number DkgPublicGather = refl
idle_number DkgPublicSharesDoneDistribute = refl
idle_number DkgPublicSharesDoneGather = refl
idle_number DkgPrivateDistribute = refl
idle_number DkgPrivateGather = refl
idle_number DkgPrivateSharesDoneDistribute = refl
idle_number DkgPrivateSharesDoneGather = refl
idle_number DkgEndDistribute = refl
idle_number DkgEndGather = refl
idle_number (NonceRequest t) = refl
idle_number (NonceGather t) = refl
idle_number (SigShareRequest t) = refl
idle_number (SigShareGather t) = refl

-- the flags set from the last id on
pub flags_folded : (g : Config) (old : Marks) (ids : List ℕ)
    → fold (λ (m : Marks) (id : ℕ). flagged (slot_of id g) m) (record { ended = replicate signer_limit false; malicious = old.malicious }) (reverse ids)
    ≡ ended_marks g ids old
unfolding flags_of
flags_folded g old [] = refl
flags_folded g old (id ∷ ids) = rw (reverse_onto ids id [], fold-append, flags_folded g old ids)

-- no more live signers than places
pub ids_few : (g : Config) → length (ids_of g) ≤ length g.signers
unfolding entries
ids_few g = rw (length-map, length-take) (omega arith)
