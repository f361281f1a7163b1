-- Laws of arrays: all elements alike, one replaced, one more that counts.
-- Assumes nothing.
use Prim.Native.Nat.{ℕ, zero, suc, ◌<◌}
use mathlib.Core.Path.{◌≡◌, refl}
use mathlib.Core.Bool.{Bool, true}
use mathlib.Core.List.{List, [], ◌∷◌}
use native.Mathlib.Omega.{arith}
use lib.ListN.{length, get_or, set, take, replicate}
use Rattle.wire.specs.Bytes.{every, All}
use Rattle.wire.proofs.Lists.{and_left, and_right, and_both}

module _ {A : Type 0} where
  -- all elements alike: what holds of one, and of what lies past the end
  pub get_d_either : (P : A → Type 0) (k j : ℕ) (x d : A) → P x → P d → P (get_or (replicate k x) j d)
  get_d_either P zero j x d p q = q
  get_d_either P (suc k) zero x d p q = p
  get_d_either P (suc k) (suc j) x d p q = get_d_either P k j x d p q

  pub get_d_same : (k j : ℕ) (x : A) → get_or (replicate k x) j x ≡ x
  get_d_same k j x = get_d_either (λ (y : A). y ≡ x) k j x x refl refl

  pub every_same : (f : A → Bool) (n k : ℕ) (x : A) → f x ≡ true → every f (take n (replicate k x)) ≡ true
  every_same f zero k x e = refl
  every_same f (suc n) zero x e = refl
  every_same f (suc n) (suc k) x e = and_both (f x) (every f (take n (replicate k x))) e (every_same f n k x e)

  -- a test of each that counts, and of what lies past the end
  pub every_get : (f : A → Bool) (n : ℕ) (xs : List A) (i : ℕ) (d : A) → i < n → f d ≡ true → every f (take n xs) ≡ true → f (get_or xs i d) ≡ true
  every_get f zero xs i d h p e = let z : ⊥ = omega arith in absurd z
  every_get f (suc n) [] i d h p e = p
  every_get f (suc n) (x ∷ xs) zero d h p e = and_left (f x) (every f (take n xs)) e
  every_get f (suc n) (x ∷ xs) (suc i) d h p e = every_get f n xs i d (omega arith) p (and_right (f x) (every f (take n xs)) e)

  -- one is replaced
  pub every_set : (f : A → Bool) (n : ℕ) (xs : List A) (i : ℕ) (x : A) → f x ≡ true → every f (take n xs) ≡ true → every f (take n (set xs i x)) ≡ true
  every_set f zero xs i x p e = refl
  every_set f (suc n) [] i x p e = refl
  every_set f (suc n) (y ∷ ys) zero x p e = and_both (f x) (every f (take n ys)) p (and_right (f y) (every f (take n ys)) e)
  every_set f (suc n) (y ∷ ys) (suc i) x p e =
      and_both (f y) (every f (take n (set ys i x))) (and_left (f y) (every f (take n ys)) e)
      (every_set f n ys i x p (and_right (f y) (every f (take n ys)) e))

  -- one more counts
  pub every_next : (f : A → Bool) (n : ℕ) (xs : List A) (x : A) → f x ≡ true → every f (take n xs) ≡ true → every f (take (suc n) (set xs n x)) ≡ true
  every_next f zero [] x p e = refl
  every_next f zero (y ∷ ys) x p e = and_both (f x) true p refl
  every_next f (suc n) [] x p e = refl
  every_next f (suc n) (y ∷ ys) x p e =
      and_both (f y) (every f (take (suc n) (set ys n x))) (and_left (f y) (every f (take n ys)) e)
      (every_next f n ys x p (and_right (f y) (every f (take n ys)) e))

  pub all_take : (P : A → Type 0) (n : ℕ) (xs : List A) → All P xs → All P (take n xs)
  all_take P zero xs a = tt
  all_take P (suc n) [] a = tt
  all_take P (suc n) (x ∷ xs) a = (a.0, all_take P n xs a.1)

  pub all_set : (P : A → Type 0) (xs : List A) (i : ℕ) (x : A) → P x → All P xs → All P (set xs i x)
  all_set P [] i x p a = tt
  all_set P (y ∷ ys) zero x p a = (p, a.1)
  all_set P (y ∷ ys) (suc i) x p a = (a.0, all_set P ys i x p a.1)

  pub all_get : (P : A → Type 0) (xs : List A) (i : ℕ) (d : A) → i < length xs → All P xs → P (get_or xs i d)
  all_get P [] i d l a = let z : ⊥ = omega arith in absurd z
  all_get P (y ∷ ys) zero d l a = a.0
  all_get P (y ∷ ys) (suc i) d l a = all_get P ys i d (omega arith) a.1

  -- two facts of each give a third
  pub all_both_imp : {P Q R : A → Type 0} (xs : List A) → ((x : A) → P x → Q x → R x) → All P xs → All Q xs → All R xs
  all_both_imp [] f p q = tt
  all_both_imp (x ∷ xs) f p q = (f x p.0 q.0, all_both_imp xs f p.1 q.1)
