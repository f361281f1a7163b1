-- Numbers of four and eight bytes, put together from their bytes and their halves.
-- Assumes nothing.
use Prim.Native.Nat.{ℕ, zero, suc, ◌+◌, ◌*◌, ◌/◌, ◌^◌, ◌≤◌}
use mathlib.Core.Path.{◌≡◌, sym}
use mathlib.Core.List.{List, [], ◌∷◌, ◌++◌}
use native.Mathlib.Nat.{pow-succ', mul_assoc, zero-add, suc-add}
use native.Mathlib.Omega.{arith}
use lib.ListN.{length, get_or, take, drop, length-drop}
use lib.Seq.{drop-cons, drop-drop}
use Rattle.wire.specs.Bytes.{le, number, number_at}

-- a field of m + n bytes: m of them, then n
number-split : (m n : ℕ) (l : List ℕ) → m ≤ length l → number (take (m + n) l) ≡ number (take m l) + 256 ^ m * number (take n (drop m l))
unfolding number
number-split zero n l h = rw (zero-add n) (omega arith)
number-split (suc m) n [] h = let z : ⊥ = omega arith in absurd z
number-split (suc m) n (b ∷ bs) h =
    let rest = number-split m n bs (omega arith) in
    rw (suc-add m n, pow-succ', mul_assoc, rest) (omega arith)

-- a field of eight bytes: two of four
pub number_halves :
    (s : List ℕ) (at : ℕ) → at + 8 ≤ length s → number_at 4 at s + 4294967296 * number_at 4 (at + 4) s ≡ number_at 8 at s
number_halves s at h = rw (← drop-drop 4 at s) (sym (number-split 4 4 (drop at s) (rw length-drop (omega arith))))

-- a field of four bytes, byte by byte
pub number-four :
    (s : List ℕ) (at : ℕ) → at + 4 ≤ length s
    → get_or s at 0 + 256 * (get_or s (at + 1) 0 + 256 * (get_or s (at + 2) 0 + 256 * get_or s (at + 3) 0)) ≡ number_at 4 at s
unfolding number
number-four s at h =
    let one : at + 1 ≡ suc at = omega arith in
    let two : at + 2 ≡ suc (suc at) = omega arith in
    let three : at + 3 ≡ suc (suc (suc at)) = omega arith in
    rw (one, two, three, drop-cons s at 0 (omega arith), drop-cons s (suc at) 0 (omega arith), drop-cons s (suc (suc at)) 0 (omega arith), drop-cons s (suc (suc (suc at))) 0 (omega arith))
    (omega arith)

-- eight bytes: the four lowest, then the four highest
pub le_halves : (x : ℕ) → le 4 x ++ le 4 (x / 4294967296) ≡ le 8 x
unfolding le
le_halves x = let e : x / 256 / 256 / 256 / 256 ≡ x / 4294967296 = omega arith in rw (← e)
