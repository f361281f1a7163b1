-- Laws of bytes that are written in one place and read in another.
-- Assumes nothing.
use Prim.Native.Nat.{ℕ, zero, suc, min, ◌+◌, ◌-◌, ◌<◌, ◌≤◌}
use mathlib.Core.Path.{◌≡◌, refl, sym, ap, ◌∙◌}
use mathlib.Core.List.{List, [], ◌∷◌, ◌++◌, append_assoc}
use native.Mathlib.Omega.{arith}
use lib.ListN.{length, get_or, set, take, drop, length-take, length-drop}
use lib.Seq.{get_or-set_other, get_or-take, get_or-drop, drop-drop, ext_get_or, take_at, drop_at, length-take-le}
use Rattle.wire.specs.Bytes.{put}
use Rattle.wire.proofs.Buffer.{length-put, put_inside}

-- the same bytes in the n places from `at` on; the lists need not have the same length
pub record Same (at n : ℕ) (l l' : List ℕ) : Type 0 where
  pub bytes : take n (drop at l) ≡ take n (drop at l')

pub same_all : (at n : ℕ) (l : List ℕ) → Same at n l l
same_all at n l = record { bytes = refl }

-- a part of a part
part_of : (k m n : ℕ) (xs : List ℕ) → k + m ≤ n → take m (drop k (take n xs)) ≡ take m (drop k xs)
part_of k m n xs h =
    ext_get_or 0 (take m (drop k (take n xs))) (take m (drop k xs))
    (rw (length-take, length-drop, length-take, length-take, length-drop) (least (length xs)))
    (λ i l. let b : i < m = omega (arith, rw (length-take) at l) in
    get_or-take m (drop k (take n xs)) i 0 b ∙ get_or-drop k (take n xs) i 0 ∙ get_or-take n xs (k + i) 0 (omega arith)
    ∙ sym (get_or-take m (drop k xs) i 0 b ∙ get_or-drop k xs i 0))
  where
    least : (x : ℕ) → min m (min n x - k) ≡ min m (x - k)
    least x = omega arith

pub same_part : {at n : ℕ} {l l' : List ℕ} (b m : ℕ) → Same at n l l' → at ≤ b → b + m ≤ at + n → Same b m l l'
same_part {at} {n} {l} {l'} b m s h k =
    let e : at + (b - at) ≡ b = omega arith in
    let inside : (xs : List ℕ) → take m (drop b xs) ≡ take m (drop (b - at) (take n (drop at xs))) =
    λ xs. sym (part_of (b - at) m n (drop at xs) (omega arith) ∙ ap (take m) (drop-drop (b - at) at xs ∙ ap (λ (j : ℕ). drop j xs) e)) in
    record { bytes = inside l ∙ ap (λ (xs : List ℕ). take m (drop (b - at) xs)) s.bytes ∙ sym (inside l') }

pub same_then : {at n : ℕ} {l m r : List ℕ} → Same at n l m → Same at n m r → Same at n l r
same_then s t = record { bytes = s.bytes ∙ t.bytes }

pub same_bytes : {at n : ℕ} {l l' : List ℕ} → Same at n l l' → take n (drop at l) ≡ take n (drop at l')
same_bytes s = s.bytes

-- place by place
same_each :
    (at n : ℕ) (l l' : List ℕ) → length l ≡ length l' → ((i : ℕ) → at ≤ i → i < at + n → get_or l i 0 ≡ get_or l' i 0) → Same at n l l'
same_each at n l l' long each =
    record {
      bytes = ext_get_or 0 (take n (drop at l)) (take n (drop at l')) (rw (length-take, length-drop, length-take, length-drop, long))
          (λ i h. let b : i < n = omega (arith, rw (length-take) at h) in
          get_or-take n (drop at l) i 0 b ∙ get_or-drop at l i 0 ∙ each (at + i) (omega arith) (omega arith) ∙ sym (get_or-take n (drop at l') i 0 b ∙ get_or-drop at l' i 0));
    }

-- a longer list begins with the same bytes
pub same_front : (n : ℕ) (l more : List ℕ) → n ≤ length l → Same 0 n l (l ++ more)
same_front n l more h = record { bytes = sym (take_front n l more h) }
  where
    take_front : (n : ℕ) (l more : List ℕ) → n ≤ length l → take n (l ++ more) ≡ take n l
    take_front zero l more h = refl
    take_front (suc n) [] more h = let z : ⊥ = omega arith in absurd z
    take_front (suc n) (x ∷ xs) more h = ap (λ (r : List ℕ). x ∷ r) (take_front n xs more (omega arith))

get_d_put : (l : List ℕ) (at : ℕ) (bs : List ℕ) (i : ℕ) → (at ≤ i → i < at + length bs → ⊥) → get_or (put l at bs) i 0 ≡ get_or l i 0
unfolding put
get_d_put l at [] i n = refl
get_d_put l at (b ∷ bs) i n = get_d_put (set l at b) (suc at) bs i (λ p q. n (omega arith) (omega arith)) ∙ get_or-set_other l at i b 0 (λ e. n (omega arith) (omega arith))

-- written elsewhere: before, or after
pub put-after : (l : List ℕ) (b : ℕ) (bs : List ℕ) (at n : ℕ) → at + n ≤ b → Same at n l (put l b bs)
put-after l b bs at n h = same_each at n l (put l b bs) (sym (length-put l b bs)) (λ i p q. sym (get_d_put l b bs i (λ u v. omega arith)))

pub put-before : (l : List ℕ) (b : ℕ) (bs : List ℕ) (at n : ℕ) → b + length bs ≤ at → Same at n l (put l b bs)
put-before l b bs at n h = same_each at n l (put l b bs) (sym (length-put l b bs)) (λ i p q. sym (get_d_put l b bs i (λ u v. omega arith)))

-- read where it was written
pub put_read : (l : List ℕ) (at : ℕ) (bs : List ℕ) (n : ℕ) → n ≡ length bs → at + length bs ≤ length l → take n (drop at (put l at bs)) ≡ bs
put_read l at bs n e h =
    rw (e, put_inside l at bs h, append_assoc (take at l) bs (drop (at + length bs) l), drop_at (take at l) (bs ++ drop (at + length bs) l) at (length-take-le at l (omega arith)))
    (take_at bs (drop (at + length bs) l) (length bs) refl)
