-- Laws of a field: the n bytes of s from `at` on, before what follows them.
-- Assumes nothing.
use Prim.Native.Nat.{ℕ, ◌+◌, ◌^◌, ◌≤◌, ◌<◌}
use mathlib.Core.Path.{◌≡◌}
use mathlib.Core.List.{List, ◌++◌}
use native.Mathlib.Omega.{arith}
use lib.ListN.{length, take, drop, length-drop, take-append-drop}
use lib.Seq.{length-take-le, take_at, drop_at, drop-drop}
use Rattle.wire.specs.Bytes.{Bytes, le, number_at}
use Rattle.wire.proofs.Numbers.{length-le, number-le, le-number, bytes_take, bytes_drop}

-- n bytes that stand at `at` are read, and what follows stands after them
pub part_read : (n at : ℕ) (s p rest : List ℕ) → length p ≡ n → drop at s ≡ p ++ rest → take n (drop at s) ≡ p
part_read n at s p rest l e = rw e (take_at p rest n l)

pub part_next : (n at : ℕ) (s p rest : List ℕ) → length p ≡ n → drop at s ≡ p ++ rest → drop (at + n) s ≡ rest
part_next n at s p rest l e = rw (← drop-drop n at s, e) (drop_at p rest n l)

pub part_back : (n at : ℕ) (s : List ℕ) → take n (drop at s) ++ drop (at + n) s ≡ drop at s
part_back n at s = rw (← drop-drop n at s) (take-append-drop n (drop at s))

-- the same for a number in n bytes
pub field_read : (n at : ℕ) (s : List ℕ) (x : ℕ) (rest : List ℕ) → x < 256 ^ n → drop at s ≡ le n x ++ rest → number_at n at s ≡ x
field_read n at s x rest h e = rw (part_read n at s (le n x) rest (length-le n x) e) (number-le n x h)

pub field_next : (n at : ℕ) (s : List ℕ) (x : ℕ) (rest : List ℕ) → drop at s ≡ le n x ++ rest → drop (at + n) s ≡ rest
field_next n at s x rest e = part_next n at s (le n x) rest (length-le n x) e

pub field_back : (n at : ℕ) (s : List ℕ) → Bytes s → at + n ≤ length s → le n (number_at n at s) ≡ take n (drop at s)
field_back n at s b h =
    let l : length (take n (drop at s)) ≡ n = length-take-le n (drop at s) (rw length-drop (omega arith)) in
    let e : le (length (take n (drop at s))) (number_at n at s) ≡ take n (drop at s) = le-number (take n (drop at s)) (bytes_take n (drop at s) (bytes_drop at s b)) in
    rw l at e

-- a field that is read, written again before what follows it
pub field-over : (n at : ℕ) (s : List ℕ) → Bytes s → at + n ≤ length s → le n (number_at n at s) ++ drop (at + n) s ≡ drop at s
field-over n at s b h = rw (field_back n at s b h) (part_back n at s)
