-- Key lists as sets: membership and subsets of the keys' numbers.
-- Assumes nothing.
use Prim.Native.Nat.{ℕ}
use mathlib.Core.Path.{◌≡◌, refl, sym}
use mathlib.Core.Bool.{Bool, true, false}
use mathlib.Core.List.{List, [], ◌∷◌, map}
use borrow.Author.Tests.{eqb-true, eqb-false, eq-eqb, ne_eqb}
use lib.Dec.{eqb}
use Rattle.std.specs.Prelude.{nat_eq}
use Rattle.std.specs.List.{list_any, list_all}
use Rattle.std.proofs.lemmas.List.Folds.{list_all-map}
use Rattle.wire.specs.Bytes.{are_same_bytes}
use Rattle.wire.proofs.SameBytes.{same_is}
use Rattle.layout.specs.declared.KeyId.{KeyId}
use Rattle.validity.specs.Keys.{key_number, member, subset, same_set}
use Rattle.validity.proofs.Repeats.{subset_self}

eqb_turned : (x y : ℕ) → eqb x y ≡ eqb y x
eqb_turned x y = by (eqb y x) refl
  where
    by : (b : Bool) → eqb y x ≡ b → eqb x y ≡ b
    by true e = eq-eqb x y (sym (eqb-true y x e))
    by false e = ne_eqb x y (λ q. eqb-false y x e (sym q))

pub member_any : (x : KeyId) (ids : List KeyId) → member x.0 (map key_number ids) ≡ list_any (λ (y : KeyId). nat_eq y.0 x.0) ids
member_any x [] = refl
member_any x (y ∷ ys) = rw (eqb_turned x.0 y.0, member_any x ys)

pub subset_all : (xs ys : List KeyId) → subset (map key_number xs) (map key_number ys) ≡ list_all (λ (x : KeyId). member x.0 (map key_number ys)) xs
unfolding subset
subset_all xs ys = list_all-map (λ (x : ℕ). member x (map key_number ys)) key_number xs

pub same_lists : (xs ys : List ℕ) → true ≡ are_same_bytes xs ys → true ≡ same_set xs ys
unfolding same_set
same_lists xs ys e = rw (same_is xs ys (sym e), subset_self ys)
