-- An array that a loop fills with what a function gives of another's elements, one after the other.
-- Assumes nothing.
use Prim.Native.Nat.{ℕ, suc, ◌+◌, ◌≤◌, ◌<◌}
use mathlib.Core.Path.{◌≡◌, refl, sym, ap, ◌∙◌}
use mathlib.Core.List.{List, [], ◌∷◌, ◌++◌, map}
use native.Mathlib.Numerals.{add-one}
use native.Mathlib.Omega.{arith}
use lib.ListN.{length, get_or, set, take, length-set}
use lib.Seq.{take_all, take-suc, take-suc-set}

map_snoc : {A B : Type 0} (f : A → B) (xs : List A) (x : A) → map f (xs ++ (x ∷ [])) ≡ map f xs ++ (f x ∷ [])
map_snoc f [] x = refl
map_snoc f (y ∷ xs) x = rw (map_snoc f xs x)

-- the first i of the n places of a hold what f gives of the first i of xs
pub record Mapped {A B : Type 0} (f : A → B) (xs : List A) (n : ℕ) (a : List B) (i : ℕ) : Type 0 where
  pub source : length xs ≡ n
  pub places : length a ≡ n
  pub so_far : i ≤ n
  pub filled : take i a ≡ map f (take i xs)

module _ {A B : Type 0} {f : A → B} {xs : List A} {n : ℕ} {a : List B} where
  pub none_yet : length xs ≡ n → length a ≡ n → Mapped f xs n a 0
  none_yet l e = record { source = l; places = e; so_far = omega arith; filled = refl }

  pub one_more : {i : ℕ} (d : A) (x : B) → i < n → x ≡ f (get_or xs i d) → Mapped f xs n a i → Mapped f xs n (set a i x) (i + 1)
  one_more {i} d x h e v =
      let p = v.places in
      let l = v.source in
      let t : take (suc i) xs ≡ take i xs ++ (get_or xs i d ∷ []) = take-suc xs i d (omega arith) in
      record {
        source = l;
        places = length-set a i x ∙ p;
        so_far = omega arith;
        filled = rw (add-one, take-suc-set a i x (omega arith), v.filled, t, map_snoc f (take i xs) (get_or xs i d), e);
      }

  pub all_of_it : {i : ℕ} → n ≤ i → Mapped f xs n a i → a ≡ map f xs
  all_of_it {i} h v =
      let p = v.places in
      let l = v.source in
      let s = v.so_far in
      sym (take_all i a (omega arith)) ∙ (v.filled ∙ ap (map f) (take_all i xs (omega arith)))
