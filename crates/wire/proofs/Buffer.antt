-- Laws of a buffer that is written in part. None has a side condition but those that read it: what falls past the end is dropped.
-- Assumes nothing.
use Prim.Native.Nat.{ℕ, zero, suc, ◌+◌, ◌≤◌}
use mathlib.Core.Path.{◌≡◌, refl, sym, ap, ◌∙◌}
use mathlib.Core.List.{List, [], ◌∷◌, ◌++◌}
use native.Mathlib.Nat.{add-suc, suc-add, add-zero, zero-add}
use native.Mathlib.Omega.{arith}
use lib.ListN.{length, set, take, drop, length-set}
use lib.Seq.{sets, sets-eq, set_out}
use Rattle.wire.specs.Bytes.{put}

pub length-put : (l : List ℕ) (at : ℕ) (bs : List ℕ) → length (put l at bs) ≡ length l
unfolding put
length-put l at [] = refl
length-put l at (b ∷ bs) = length-put (set l at b) (suc at) bs ∙ length-set l at b

-- one run of bytes written after another is their join
pub put-put : (l : List ℕ) (at : ℕ) (xs ys : List ℕ) → put (put l at xs) (at + length xs) ys ≡ put l at (xs ++ ys)
unfolding put
put-put l at [] ys = rw (add-zero at)
put-put l at (x ∷ xs) ys = rw (add-suc, ← suc-add) (put-put (set l at x) (suc at) xs ys)

-- the same where the second place is given as a number
pub put_next : (l : List ℕ) (at : ℕ) (xs : List ℕ) (next : ℕ) (ys : List ℕ) → at + length xs ≡ next → put (put l at xs) next ys ≡ put l at (xs ++ ys)
put_next l at xs next ys e = rw (← e) (put-put l at xs ys)

-- nothing is written from the end on
pub put_out : (l : List ℕ) (at : ℕ) (bs : List ℕ) → length l ≤ at → put l at bs ≡ l
unfolding put
put_out l at [] h = refl
put_out l at (b ∷ bs) h = rw (set_out l at b h) (put_out l (suc at) bs (omega arith))

put-sets : (l : List ℕ) (at : ℕ) (bs : List ℕ) → put l at bs ≡ sets l at bs
unfolding put
put-sets l at [] = refl
put-sets l at (b ∷ bs) = put-sets (set l at b) (suc at) bs

-- where there is room: what stood before, the bytes, what stands after them
pub put_inside : (l : List ℕ) (at : ℕ) (bs : List ℕ) → at + length bs ≤ length l → put l at bs ≡ take at l ++ bs ++ drop (at + length bs) l
put_inside l at bs h = put-sets l at bs ∙ sets-eq bs l at h

put_cons : (x : ℕ) (l : List ℕ) (at : ℕ) (bs : List ℕ) → put (x ∷ l) (suc at) bs ≡ x ∷ put l at bs
unfolding put
put_cons x l at [] = refl
put_cons x l at (b ∷ bs) = put_cons x (set l at b) (suc at) bs

-- bytes written into a part that starts at `from`, seen from the whole buffer
pub put_part : (l : List ℕ) (from at : ℕ) (bs : List ℕ) → from ≤ length l → take from l ++ put (drop from l) at bs ≡ put l (from + at) bs
put_part l zero at bs h = rw (zero-add at)
put_part [] (suc from) at bs h = let z : ⊥ = omega arith in absurd z
put_part (x ∷ l) (suc from) at bs h =
    ap (λ (t : List ℕ). x ∷ t) (put_part l from at bs (omega arith)) ∙ sym (rw (suc-add from at) (put_cons x l (from + at) bs))
