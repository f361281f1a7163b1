-- Flagged signers' ids, and a record's waiters as flagged signers.
-- Assumes nothing.
use Prim.Native.Nat.{ℕ, zero, suc}
use mathlib.Core.Path.{◌≡◌, refl}
use mathlib.Core.Bool.{Bool, true, false}
use mathlib.Core.List.{List, [], ◌∷◌, map}
use lib.ListN.{get_or, set, get_or-map}
use Rattle.layout.specs.declared.SignerId.{SignerId}
use Rattle.pieces.specs.Places.{signer_number}
use Rattle.state.specs.declared.fields.SignerSlot.{SignerSlot}
use Rattle.state.specs.declared.fields.ResponseSlot.{ResponseSlot}
use Rattle.state.specs.Slots.{collect, with_some, when}
use Rattle.state.specs.View.{flagged_in, waits_in, no_slot}
use Rattle.signer_ids.specs.Flags.{is_waiting, flagged_id}
use Rattle.signers.proofs.Walking.{collect-map}

pub map-set : {A B : Type 0} (f : A → B) (xs : List A) (i : ℕ) (x : A) → map f (set xs i x) ≡ set (map f xs) i (f x)
map-set f [] i x = refl
map-set f (y ∷ ys) zero x = refl
map-set f (y ∷ ys) (suc i) x = rw (map-set f ys i x)

-- the flagged signers' ids are numbers of the definition
pub flagged_numbers : (flags : List Bool) (es : List SignerSlot) → collect (flagged_in flags) es ≡ map signer_number (collect (flagged_id flags) es)
unfolding with_some
flagged_numbers flags es =
    collect-map signer_number (flagged_id flags) (flagged_in flags) es (λ e xs. by (get_or flags e.slot false) e xs)
  where
    by : (b : Bool) (e : SignerSlot) (xs : List SignerId)
        → with_some (when b e.id) (map signer_number xs) ≡ map signer_number (with_some (when b (record { 0 = e.id })) xs)
    by true e xs = refl
    by false e xs = refl

-- the flagged signers of a record's waiters are its waiters
pub waiters_flagged : (slots : List ResponseSlot) (es : List SignerSlot) → collect (flagged_in (map is_waiting slots)) es ≡ collect (waits_in slots) es
unfolding collect
waiters_flagged slots [] = refl
waiters_flagged slots (e ∷ es) = rw (get_or-map is_waiting slots e.slot no_slot, waiters_flagged slots es)
