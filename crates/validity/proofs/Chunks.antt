-- Nonces in a slice of bytes.
-- Assumes nothing.
use Prim.Native.Nat.{ℕ, zero, suc, ◌+◌, ◌*◌}
use mathlib.Core.Path.{◌≡◌, refl, ap}
use mathlib.Core.Bool.{Bool, ◌&&◌}
use mathlib.Core.List.{List, map}
use native.Mathlib.Omega.{arith}
use lib.ListN.{length, take, drop, length-drop}
use lib.Seq.{take_all, drop-drop}
use Rattle.std.specs.List.{list_all, range_with_len}
use Rattle.wire.specs.Bytes.{every}
use Rattle.layout.specs.Decode.{entries, nonce_in}
use Rattle.validity.specs.Nonces.{valid_nonce}

pub whole : (s : List ℕ) (n : ℕ) → take (length s) (drop n s) ≡ drop n s
whole s n = take_all (length s) (drop n s) (rw length-drop (omega arith))

-- the n nonces from the ith on, one by one
pub nonces_from : (s : List ℕ) (i n : ℕ) → every valid_nonce (map nonce_in (entries 66 n (drop (66 * i) s)))
    ≡ list_all (λ k. valid_nonce (nonce_in (take 66 (drop (66 * k) s)))) (range_with_len i n)
unfolding entries
nonces_from s i zero = refl
nonces_from s i (suc n) =
    let e : 66 * i + 66 ≡ 66 * (i + 1) = omega arith in
    rw (drop-drop 66 (66 * i) s, e) (ap (λ (b : Bool). valid_nonce (nonce_in (take 66 (drop (66 * i) s))) && b) (nonces_from s (i + 1) n))
