-- One key more after those that are there.
-- Assumes nothing.
use Prim.Native.Nat.{ℕ, suc, ◌+◌, ◌<◌}
use mathlib.Core.Path.{◌≡◌, refl}
use mathlib.Core.Bool.{Bool, true, false, not, ◌||◌}
use mathlib.Core.List.{List, [], ◌∷◌, ◌++◌, append_assoc}
use native.Mathlib.Omega.{arith}
use lib.ListN.{length, get_or, take, set}
use lib.Seq.{take-suc-set}
use Rattle.wire.proofs.Lists.{the_every_at, every_append}
use Rattle.validity.specs.Keys.{member, disjoint}
use Rattle.validity.proofs.Repeats.{member_append}
use Rattle.step_definition.proofs.Distinct.{not_both}

pub not_among : (x : ℕ) (xs ys : List ℕ) → member x (xs ++ ys) ≡ false → member x xs ≡ false
not_among x xs ys m = left (member x xs) (member x ys) (rw (member_append x xs ys) at m)
  where
    left : (a b : Bool) → (a || b) ≡ false → a ≡ false
    left true b e = e
    left false b e = refl

pub disjoint_one : (xs ys : List ℕ) (y : ℕ) → disjoint xs ys ≡ true → member y xs ≡ false → disjoint xs (ys ++ (y ∷ [])) ≡ true
unfolding disjoint
disjoint_one xs ys y d m = rw (every_append (λ (z : ℕ). not (member z xs)) ys (y ∷ []), d, m)

-- a key that is there is shared
pub shared_at : (xs ys : List ℕ) (i : ℕ) → i < length ys → member (get_or ys i 0) xs ≡ true → disjoint xs ys ≡ false
unfolding disjoint
shared_at xs ys i l m = by (disjoint xs ys) refl
  where
    by : (b : Bool) → disjoint xs ys ≡ b → b ≡ false
    by true d = absurd (not_both (member (get_or ys i 0) xs) (the_every_at (λ (z : ℕ). not (member z xs)) ys i 0 d l) m)
    by false d = refl

-- put after them
pub put_last : (ids : List ℕ) (n i key : ℕ) (before ks : List ℕ) → n + i < length ids → take (n + i) ids ≡ before ++ ks
    → take (n + (i + 1)) (set ids (n + i) key) ≡ before ++ (ks ++ (key ∷ []))
put_last ids n i key before ks low so_far =
    let up : n + (i + 1) ≡ suc (n + i) = omega arith in
    rw (up, take-suc-set ids (n + i) key low, so_far) (append_assoc before ks (key ∷ []))
