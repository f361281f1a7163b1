-- A list is distinct exactly where no two of its places have the same.
-- Assumes nothing.
use Prim.Native.Nat.{ℕ, zero, suc, ◌<◌}
use mathlib.Core.Path.{◌≡◌, refl}
use mathlib.Core.Bool.{Bool, true, false, not, ◌||◌, false≢true, or-true}
use mathlib.Core.List.{List, [], ◌∷◌}
use native.Mathlib.Omega.{arith}
use borrow.Author.Tests.{eqb-true, eq-eqb}
use lib.Dec.{eqb}
use lib.ListN.{length, get_or}
use Rattle.wire.proofs.Lists.{and_left, and_right, and_both}
use Rattle.validity.specs.Keys.{member}
use Rattle.step_definition.specs.Ids.{distinct}
use Rattle.step_definition.specs.Whole.{NoneTwice}

-- a member stands somewhere, and what stands somewhere is a member
pub member_at : (x : ℕ) (ks : List ℕ) (j : ℕ) → j < length ks → x ≡ get_or ks j 0 → member x ks ≡ true
member_at x [] j l e = let z : ⊥ = omega arith in absurd z
member_at x (k ∷ ks) zero l e = rw (eq-eqb x k e)
member_at x (k ∷ ks) (suc j) l e = rw (member_at x ks j (omega arith) e) (or-true (eqb x k))

no_member : (x : ℕ) (ks : List ℕ) → ((j : ℕ) → j < length ks → x ≡ get_or ks j 0 → ⊥) → member x ks ≡ false
no_member x [] n = refl
no_member x (k ∷ ks) n = by (eqb x k) refl (no_member x ks (λ j l. n (suc j) (omega arith)))
  where
    by : (b : Bool) → eqb x k ≡ b → member x ks ≡ false → b || member x ks ≡ false
    by true e m = absurd (n 0 (omega arith) (eqb-true x k e))
    by false e m = m

pub not_both : (b : Bool) → not b ≡ true → b ≡ true → ⊥
not_both b n y = false≢true (rw y at n)

pub none_twice : (ks : List ℕ) → distinct ks ≡ true → NoneTwice ks
unfolding distinct
none_twice [] d i j h l e = omega arith
none_twice (k ∷ ks) d zero (suc j) h l e = not_both (member k ks) (and_left _ _ d) (member_at k ks j (omega arith) e)
none_twice (k ∷ ks) d (suc i) (suc j) h l e = none_twice ks (and_right (not (member k ks)) _ d) i j (omega arith) (omega arith) e
none_twice (k ∷ ks) d i zero h l e = let z : ⊥ = omega arith in absurd z

pub all_differ : (ks : List ℕ) → NoneTwice ks → distinct ks ≡ true
unfolding distinct
all_differ [] n = refl
all_differ (k ∷ ks) n =
    and_both (not (member k ks)) (distinct ks) (rw (no_member k ks (λ j l. n 0 (suc j) (omega arith) (omega arith))))
    (all_differ ks (λ i j h l. n (suc i) (suc j) (omega arith) (omega arith)))
