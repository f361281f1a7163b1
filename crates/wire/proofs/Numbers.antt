-- Laws of little-endian numbers, over the width.
-- Assumes nothing.
use Prim.Native.Nat.{ℕ, zero, suc, ◌+◌, ◌*◌, ◌/◌, ◌%◌, ◌^◌, ◌≤◌, ◌<◌}
use mathlib.Core.Path.{◌≡◌, refl, ap}
use mathlib.Core.List.{List, [], ◌∷◌, ◌++◌}
use native.Mathlib.Nat.{pow-succ', pow-le-pow_right, div-lt_iff_lt-mul, mul_comm, lt_of_lt_of_le}
use native.Mathlib.Omega.{arith}
use lib.ListN.{length, get_or, take, drop, length-take}
use lib.Seq.{get_or-drop}
use Rattle.wire.specs.Bytes.{Bytes, le, number, number_at}

pub length-le : (n x : ℕ) → length (le n x) ≡ n
unfolding le
length-le zero x = refl
length-le (suc n) x = ap suc (length-le n (x / 256))

-- what is written in n bytes is read back where it fits
pub number-le : (n x : ℕ) → x < 256 ^ n → number (le n x) ≡ x
unfolding le number
number-le zero x h = omega arith
number-le (suc n) x h =
    let h' : x < 256 * 256 ^ n = rw pow-succ' at h in
    rw (number-le n (x / 256) ((div-lt_iff_lt-mul {k = 256} {x = x} {y = 256 ^ n} (omega arith)).1 (rw mul_comm at h'))) (omega arith)

-- bytes that were read as a number are written back
pub le-number : (s : List ℕ) → Bytes s → le (length s) (number s) ≡ s
unfolding le number
le-number [] h = refl
le-number (b ∷ bs) h =
    let hb : b < 256 = h 0 in
    let low : (b + 256 * number bs) % 256 ≡ b = omega arith in
    let high : (b + 256 * number bs) / 256 ≡ number bs = omega arith in
    rw (low, high) (ap (λ (t : List ℕ). b ∷ t) (le-number bs (λ i. h (suc i))))

pub number_lt : (s : List ℕ) → Bytes s → number s < 256 ^ length s
unfolding number
number_lt [] h = omega arith
number_lt (b ∷ bs) h =
    let hb : b < 256 = h 0 in
    let ih : number bs < 256 ^ length bs = number_lt bs (λ i. h (suc i)) in
    rw pow-succ' (omega arith)

pub bytes_drop : (n : ℕ) (s : List ℕ) → Bytes s → Bytes (drop n s)
bytes_drop n s h i = rw (get_or-drop n s i 0) (h (n + i))

pub bytes_take : (n : ℕ) (s : List ℕ) → Bytes s → Bytes (take n s)
bytes_take zero s h i = omega arith
bytes_take (suc n) [] h i = omega arith
bytes_take (suc n) (b ∷ bs) h zero = h 0
bytes_take (suc n) (b ∷ bs) h (suc i) = bytes_take n bs (λ j. h (suc j)) i

pub bytes_append : (s t : List ℕ) → Bytes s → Bytes t → Bytes (s ++ t)
bytes_append [] t hs ht i = ht i
bytes_append (b ∷ bs) t hs ht zero = hs 0
bytes_append (b ∷ bs) t hs ht (suc i) = bytes_append bs t (λ j. hs (suc j)) ht i

-- a field of n bytes is below 256 ^ n
pub number_at_lt : (n at : ℕ) (s : List ℕ) → Bytes s → number_at n at s < 256 ^ n
number_at_lt n at s h =
    let t : List ℕ = take n (drop at s) in
    let short : length t ≤ n = rw length-take (omega arith) in
    lt_of_lt_of_le (number_lt t (bytes_take n (drop at s) (bytes_drop at s h))) (pow-le-pow_right {n = 256} (omega arith) short)

-- a field of one byte is that byte
pub number_one : (at : ℕ) (s : List ℕ) → number_at 1 at s ≡ get_or s at 0
unfolding number
number_one zero [] = refl
number_one zero (b ∷ bs) = omega arith
number_one (suc at) [] = refl
number_one (suc at) (b ∷ bs) = number_one at bs
