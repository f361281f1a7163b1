-- A list of what a function gives of each of another's elements.
-- Assumes nothing.
use Prim.Native.Nat.{ℕ, zero, suc, ◌<◌}
use mathlib.Core.Path.{◌≡◌, refl}
use mathlib.Core.List.{List, [], ◌∷◌, map}
use native.Mathlib.Omega.{arith}
use lib.ListN.{length, get_or}

pub each_map :
    {A B : Type 0} (f : A → B) (xs : List A) (ys : List B) (n : ℕ) → length xs ≡ n → length ys ≡ n
    → ((i : ℕ) (d : A) (e : B) → i < n → get_or ys i e ≡ f (get_or xs i d)) → ys ≡ map f xs
each_map f [] [] n l k h = refl
each_map f [] (y ∷ ys) n l k h = absurd (omega arith)
each_map f (x ∷ xs) [] n l k h = absurd (omega arith)
each_map f (x ∷ xs) (y ∷ ys) zero l k h = absurd (omega arith)
each_map f (x ∷ xs) (y ∷ ys) (suc n) l k h =
    rw (h 0 x y (omega arith), each_map f xs ys n (omega arith) (omega arith) (λ i d e s. h (suc i) d e (omega arith)))
