-- An array that a loop fills, and a sum that it takes.
-- Assumes nothing.
use Prim.Native.Nat.{ℕ, zero, suc, ◌+◌, ◌-◌, ◌<◌}
use mathlib.Core.Path.{◌≡◌, refl}
use mathlib.Core.List.{List, [], ◌∷◌, ◌++◌, map, map-append, append_assoc}
use native.Mathlib.Numerals.{add-one}
use native.Mathlib.Omega.{arith}
use lib.ListN.{length, get_or, set, take, length-map}
use lib.Seq.{take-suc, set_at, length-take-le}
use Rattle.state.specs.Counts.{sum}
use Rattle.configuration.specs.Made.{filled}

-- one place more is filled
pub fill_next :
    {A B : Type 0} (f : A → B) (d : B) (n : ℕ) (xs : List A) (i : ℕ) (x : A) → i < n → i < length xs
    → set (filled f d n xs i) i (f (get_or xs i x)) ≡ filled f d n xs (i + 1)
fill_next f d n xs i x h l =
    let m : length (map f (take i xs)) ≡ i = rw length-map (length-take-le i xs (omega arith)) in
    let e : take (i + 1) xs ≡ take i xs ++ (get_or xs i x ∷ []) = rw (add-one, take-suc xs i x l) in
    let left : n - i ≡ suc (n - (i + 1)) = omega arith in
    rw (e, left, map-append, append_assoc) (set_at (map f (take i xs)) d _ (f (get_or xs i x)) i m)

-- one number more is added
pub sum_next : {A : Type 0} (f : A → ℕ) (xs : List A) (i : ℕ) (x : A) → i < length xs → sum (map f (take (suc i) xs)) ≡ sum (map f (take i xs)) + f (get_or xs i x)
unfolding sum
sum_next f [] i x h = let z : ⊥ = omega arith in absurd z
sum_next f (y ∷ xs) zero x h = omega arith
sum_next f (y ∷ xs) (suc i) x h = omega (arith, sum_next f xs i x (omega arith))

pub map-take : {A B : Type 0} (f : A → B) (n : ℕ) (xs : List A) → map f (take n xs) ≡ take n (map f xs)
map-take f zero xs = refl
map-take f (suc n) [] = refl
map-take f (suc n) (x ∷ xs) = rw (map-take f n xs)
