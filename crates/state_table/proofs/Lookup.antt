-- A rule of a list's entries by their places, proved at all of them by one test that antt computes.
-- Assumes nothing.
use Prim.Native.Nat.{ℕ, zero, suc, ◌+◌, ◌<◌}
use mathlib.Core.Path.{◌≡◌, refl, subst, sym, ◌∙◌}
use mathlib.Core.Bool.{Bool, true, false, ◌&&◌, beq, false≢true}
use mathlib.Core.List.{List, [], ◌∷◌}
use native.Mathlib.Nat.{add-zero, zero-add, add-suc, suc-add, le_of_suc-le-suc, not-suc-le-zero}
use lib.ListN.{length, get_or}
use Rattle.wire.proofs.Lists.{and_left, and_right}

pub beq_eq : (a b : Bool) → beq a b ≡ true → a ≡ b
beq_eq true true e = refl
beq_eq true false e = absurd (false≢true e)
beq_eq false true e = absurd (false≢true e)
beq_eq false false e = refl

module _ {A : Type 0} where
  -- the test passes at each entry and its place, counted from i
  abbrev pub check : (ℕ → A → Bool) → ℕ → List A → Bool
  check f i [] = true
  check f i (x ∷ xs) = f i x && check f (suc i) xs

  from : (f : ℕ → A → Bool) (xs : List A) (i : ℕ) → check f i xs ≡ true → (k : ℕ) → k < length xs → (d : A) → f (i + k) (get_or xs k d) ≡ true
  from f [] i t k h d = absurd (not-suc-le-zero h)
  from f (x ∷ xs) i t zero h d = subst (λ (m : ℕ). f m x ≡ true) (sym (add-zero i)) (and_left (f i x) (check f (suc i) xs) t)
  from f (x ∷ xs) i t (suc k) h d =
      subst (λ (m : ℕ). f m (get_or xs k d) ≡ true) (suc-add i k ∙ sym (add-suc i k))
      (from f xs (suc i) (and_right (f i x) (check f (suc i) xs) t) k (le_of_suc-le-suc h) d)

  pub checked : (f : ℕ → A → Bool) (xs : List A) → check f 0 xs ≡ true → (k : ℕ) → k < length xs → (d : A) → f k (get_or xs k d) ≡ true
  checked f xs t k h d = subst (λ (m : ℕ). f m (get_or xs k d) ≡ true) (zero-add k) (from f xs 0 t k h d)
