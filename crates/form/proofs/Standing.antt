-- Bytes that stand somewhere in a list, taken apart and put together.
-- Assumes nothing.
use Prim.Native.Nat.{ℕ, ◌+◌, ◌*◌, ◌<◌, ◌^◌}
use mathlib.Core.Path.{◌≡◌, refl, sym, ap, ◌∙◌}
use mathlib.Core.List.{List, [], ◌∷◌, ◌++◌}
use native.Mathlib.Omega.{arith}
use native.Mathlib.Nat.{mul-zero, mul-suc}
use lib.ListN.{length, get_or, take, drop, length-append}
use lib.Seq.{get_or-drop, drop-drop}
use Rattle.wire.specs.Bytes.{le, number, number_at, All}
use Rattle.wire.proofs.Numbers.{length-le, number-le}

-- bs stands in s from `at` on
pub record Stands (s : List ℕ) (at : ℕ) (bs : List ℕ) : Type 0 where
  pub here : take (length bs) (drop at s) ≡ bs

front_taken : (xs ys l : List ℕ) → take (length (xs ++ ys)) l ≡ xs ++ ys → take (length xs) l ≡ xs
front_taken [] ys l e = refl
front_taken (x ∷ xs) ys [] e = cc
front_taken (x ∷ xs) ys (z ∷ l) e =
    let p : z ≡ x = cc in
    let q : take (length (xs ++ ys)) l ≡ xs ++ ys = cc in
    rw (p, front_taken xs ys l q)

back_taken : (xs ys l : List ℕ) → take (length (xs ++ ys)) l ≡ xs ++ ys → take (length ys) (drop (length xs) l) ≡ ys
back_taken [] ys l e = e
back_taken (x ∷ xs) ys [] e = let z : ◌≡◌ {A = ℕ} 0 1 = cc in absurd (let w : ⊥ = omega (arith, z) in w)
back_taken (x ∷ xs) ys (z ∷ l) e = back_taken xs ys l (cc)

module _ {s : List ℕ} {at : ℕ} where
  pub stands_left : (xs ys : List ℕ) → Stands s at (xs ++ ys) → Stands s at xs
  stands_left xs ys h = record { here = front_taken xs ys (drop at s) h.here }

  pub stands_right : (xs ys : List ℕ) (n : ℕ) → length xs ≡ n → Stands s at (xs ++ ys) → Stands s (at + n) ys
  stands_right xs ys n e h = record { here = rw (← drop-drop n at s, ← e) (back_taken xs ys (drop at s) h.here) }

  pub stands_number : (w x : ℕ) → x < 256 ^ w → Stands s at (le w x) → number_at w at s ≡ x
  stands_number w x fits h = let e = h.here in ap number (rw (length-le w x) at e) ∙ number-le w x fits

  pub stands_byte : (x : ℕ) → Stands s at (x ∷ []) → get_or s at 0 ≡ x
  stands_byte x h =
      let e : at + 0 ≡ at = omega arith in
      let d : get_or (drop at s) 0 0 ≡ get_or s at 0 = rw e at (get_or-drop at s 0 0) in
      sym d ∙ first (drop at s) h.here
    where
      first : (l : List ℕ) → take 1 l ≡ x ∷ [] → get_or l 0 0 ≡ x
      first [] e = cc
      first (y ∷ l) e = cc

  pub stands_bytes : (xs : List ℕ) (n : ℕ) → length xs ≡ n → Stands s at xs → take n (drop at s) ≡ xs
  stands_bytes xs n e h = rw (← e) h.here

both-taken : (xs ys l : List ℕ) → take (length xs) l ≡ xs → take (length ys) (drop (length xs) l) ≡ ys → take (length (xs ++ ys)) l ≡ xs ++ ys
both-taken [] ys l e f = f
both-taken (x ∷ xs) ys [] e f = let z : ◌≡◌ {A = ℕ} 0 1 = cc in absurd (let w : ⊥ = omega (arith, z) in w)
both-taken (x ∷ xs) ys (z ∷ l) e f =
    let p : z ≡ x = cc in
    let q : take (length xs) l ≡ xs = cc in
    rw (p, both-taken xs ys l q f)

-- two that stand one after the other stand as one
pub stands-both : {s : List ℕ} {at : ℕ} (xs ys : List ℕ) (n : ℕ) → length xs ≡ n → Stands s at xs → Stands s (at + n) ys → Stands s at (xs ++ ys)
stands-both {s} {at} xs ys n e h t = record { here = both-taken xs ys (drop at s) h.here (rw (← drop-drop n at s, ← e) at t.here) }
