-- Two lists compared place by place.
-- Assumes nothing.
use Prim.Native.Nat.{ℕ, suc, ◌<◌, ◌≤◌}
use mathlib.Core.Path.{◌≡◌, refl, sym, ap}
use mathlib.Core.Bool.{true, false, ◌&&◌}
use mathlib.Core.List.{List, [], ◌∷◌}
use native.Mathlib.Omega.{arith}
use borrow.Author.Tests.{eqb-true, eq-eqb}
use lib.Dec.{eqb}
use lib.ListN.{length, get_or, drop, drop_of_length-le}
use lib.Seq.{drop-cons}
use Rattle.wire.specs.Bytes.{are_same_bytes}
use Rattle.wire.proofs.Lists.{and_left, and_right, and_false}

-- one place on each side
pub same_next :
    (a b : List ℕ) (i : ℕ) → i < length a → length a ≡ length b
    → are_same_bytes (drop i a) (drop i b) ≡ (eqb (get_or a i 0) (get_or b i 0) && are_same_bytes (drop (suc i) a) (drop (suc i) b))
same_next a b i ha e = rw (drop-cons a i 0 ha, drop-cons b i 0 (omega arith))

-- lists of other lengths differ
pub same_longer : (a b : List ℕ) → (length a ≡ length b → ⊥) → false ≡ are_same_bytes a b
same_longer [] [] h = absurd (h refl)
same_longer [] (y ∷ ys) h = refl
same_longer (x ∷ xs) [] h = refl
same_longer (x ∷ xs) (y ∷ ys) h = rw (← same_longer xs ys (λ e. h (ap suc e))) (sym (and_false (eqb x y)))

-- two lists have come to their ends
pub same_ended : (a b : List ℕ) (i : ℕ) → length a ≤ i → length a ≡ length b → true ≡ are_same_bytes (drop i a) (drop i b)
same_ended a b i h e = rw (drop_of_length-le a h, drop_of_length-le b {i = i} (omega arith))

pub same_is : (xs ys : List ℕ) → are_same_bytes xs ys ≡ true → xs ≡ ys
same_is [] [] e = refl
same_is [] (y ∷ ys) e = let z : ◌≡◌ {A = ℕ} 0 1 = cc in let f : ⊥ = omega arith in absurd f
same_is (x ∷ xs) [] e = let z : ◌≡◌ {A = ℕ} 0 1 = cc in let f : ⊥ = omega arith in absurd f
same_is (x ∷ xs) (y ∷ ys) e =
    let h : x ≡ y = eqb-true x y (and_left (eqb x y) (are_same_bytes xs ys) e) in
    let t : xs ≡ ys = same_is xs ys (and_right (eqb x y) (are_same_bytes xs ys) e) in
    cc

pub same_self : (xs : List ℕ) → are_same_bytes xs xs ≡ true
same_self [] = refl
same_self (x ∷ xs) = rw (eq-eqb x x refl, same_self xs)
