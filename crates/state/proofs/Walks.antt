-- Walks over the live entries of an array: a test of each, and a sum.
-- Assumes nothing.
use Prim.Native.Nat.{ℕ, ◌+◌, ◌≤◌, ◌<◌}
use mathlib.Core.Path.{◌≡◌, sym, ◌∙◌}
use mathlib.Core.Bool.{Bool, true, ◌&&◌}
use mathlib.Core.List.{List, map}
use native.Mathlib.Omega.{arith}
use lib.ListN.{length, get_or, take, drop, drop_of_length-le}
use lib.Seq.{drop-cons}
use native.Mathlib.Numerals.{add-one}
use Rattle.wire.specs.Bytes.{every}
use Rattle.pieces.proofs.Given.{every-live, drop-live}
use Rattle.job.proofs.Held.{live_none}
use Rattle.state.specs.Counts.{sum}

module _ {A : Type 0} (f : A → Bool) (xs : List A) (n i : ℕ) where
  -- the test at i gives b: what is left goes on
  pub every-turn :
      {t : Bool} (d : A) (b : Bool) → i < n → n ≤ length xs → b ≡ f (get_or xs i d) → every f (drop i (take n xs)) ≡ t
      → b && every f (drop (i + 1) (take n xs)) ≡ t
  every-turn d b h l e t = sym (every-live f xs n i d b h l (sym e)) ∙ t

  pub every_done : {t : Bool} → n ≤ i → every f (drop i (take n xs)) ≡ t → true ≡ t
  every_done h t = rw (live_none xs n i h) at t

module _ {A : Type 0} (f : A → ℕ) (xs : List A) (n i : ℕ) where
  pub sum-turn :
      {t : ℕ} (d : A) (total x : ℕ) → i < n → n ≤ length xs → x ≡ f (get_or xs i d) → total + sum (map f (drop i (take n xs))) ≡ t
      → (total + x) + sum (map f (drop (i + 1) (take n xs))) ≡ t
  unfolding sum
  sum-turn d total x h l e t =
      let s : sum (map f (drop i (take n xs))) ≡ x + sum (map f (drop (i + 1) (take n xs))) = rw (drop-live xs n i d h l, e) in
      omega arith

  pub sum_done : {t : ℕ} (total : ℕ) → n ≤ i → total + sum (map f (drop i (take n xs))) ≡ t → total ≡ t
  unfolding sum
  sum_done total h t =
      let z : sum (map f (drop i (take n xs))) ≡ 0 = rw (live_none xs n i h) in
      omega arith

-- a sum along a whole list: one more is added, and none is left
module _ {A : Type 0} (f : A → ℕ) (xs : List A) (i : ℕ) where
  pub sum_more :
      {t : ℕ} (d : A) (total x : ℕ) → i < length xs → x ≡ f (get_or xs i d) → total + sum (map f (drop i xs)) ≡ t
      → (total + x) + sum (map f (drop (i + 1) xs)) ≡ t
  unfolding sum
  sum_more d total x h e t =
      let s : sum (map f (drop i xs)) ≡ x + sum (map f (drop (i + 1) xs)) = rw (drop-cons xs i d h, add-one, e) in
      omega arith

  pub sum_whole : {t : ℕ} (total : ℕ) → length xs ≤ i → total + sum (map f (drop i xs)) ≡ t → total ≡ t
  unfolding sum
  sum_whole total h t =
      let z : sum (map f (drop i xs)) ≡ 0 = rw (drop_of_length-le xs {i = i} h) in
      omega arith
