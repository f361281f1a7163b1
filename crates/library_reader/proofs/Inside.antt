-- The parts of a packet that is taken lie inside it.
-- Assumes nothing.
use Prim.Native.Nat.{ℕ, zero, suc, ◌+◌, ◌*◌, ◌≤◌, ◌<◌}
use mathlib.Core.Path.{◌≡◌, refl, sym, ap, ◌∙◌}
use mathlib.Core.Bool.{true}
use mathlib.Core.List.{List, []}
use native.Mathlib.Omega.{arith}
use borrow.Author.Tests.{eqb-true, lt-ltb, le-ltb}
use lib.Dec.{eqb}
use lib.ListN.{length, take, drop}
use Rattle.wire.specs.Bytes.{number_at}
use Rattle.wire.proofs.Lists.{and_left, and_right}
use Rattle.layout.specs.declared.Header.{Header}
use Rattle.layout.specs.Encode.{header}
use Rattle.layout.specs.Decode.{Decoded, taken, refused, decode}
use Rattle.layout.specs.LaidOut.{tiles, header_in, part_at}
use Rattle.layout.proofs.Frame.{tiles-le}
use Rattle.layout.proofs.Headed.{framed-tiles, laid_out-framed, header-message_in}
use Rattle.layout.proofs.RoundTrip.{taken-laid}
use Rattle.parts.specs.Parts.{part_in}
use Rattle.std.specs.Result.{result_unwrap_or}
use Rattle.packet_in_hand.specs.InHand.{counted}
use Rattle.library_reader.specs.Plain.{place_in}

-- pair i of pairs that tile the packet names a part inside it
tiled_inside :
    (s : List ℕ) (p n at i : ℕ) → tiles s p n at ≡ true → i < n → number_at 4 (p + 8 * i) s + number_at 4 (p + 8 * i + 4) s ≤ length s
unfolding tiles
tiled_inside s p zero at i t l = omega arith
tiled_inside s p (suc n) at zero t l =
    let here : number_at 4 p s ≡ at = eqb-true _ at (and_left (eqb (number_at 4 p s) at) _ t) in
    let e : p + 8 * 0 ≡ p = omega arith in
    rw e (omega (arith, here, tiles-le s (p + 8) n (at + number_at 4 (p + 4) s) (and_right (eqb (number_at 4 p s) at) _ t)))
tiled_inside s p (suc n) at (suc i) t l =
    let e : p + 8 + 8 * i ≡ p + 8 * suc i = omega arith in
    rw e at (tiled_inside s (p + 8) n (at + number_at 4 (p + 4) s) i (and_right (eqb (number_at 4 p s) at) _ t) (omega arith))

pub part_inside :
    (s : List ℕ) (i : ℕ) → i < result_unwrap_or (counted (decode s)) 0 → number_at 4 (32 + 8 * i) s + number_at 4 (32 + 8 * i + 4) s ≤ length s
unfolding counted
part_inside s i l = by (decode s) refl
  where
    by : (d : Decoded) → decode s ≡ d → number_at 4 (32 + 8 * i) s + number_at 4 (32 + 8 * i + 4) s ≤ length s
    by (refused n) e =
        let none : result_unwrap_or (counted (decode s)) 0 ≡ 0 = ap (λ (d : Decoded). result_unwrap_or (counted d) 0) e in
        let z : ⊥ = omega arith in
        absurd z
    by (taken m) e =
        let laid = taken-laid s m e in
        let same : header m ≡ header_in s = ap header (sym laid.1) ∙ header-message_in s laid.0 in
        let pairs : result_unwrap_or (counted (decode s)) 0 ≡ (header_in s).pairs =
        ap (λ (d : Decoded). result_unwrap_or (counted d) 0) e ∙ ap (λ (h : Header). h.pairs) same in
        tiled_inside s 32 (header_in s).pairs _ i (framed-tiles s (laid_out-framed s laid.0)) (omega (arith, l, pairs))

-- a pair that is there, and one that is not
module _ (s : List ℕ) (pairs i : ℕ) (e : pairs ≡ result_unwrap_or (counted (decode s)) 0) where
  pub there :
      (a n : ℕ) → i < pairs → a ≡ number_at 4 (32 + 8 * i) s → n ≡ number_at 4 (32 + 8 * i + 4) s
      → (record { at = a; length = n } ≡ place_in s (result_unwrap_or (counted (decode s)) 0) i)
      × (take n (drop a s) ≡ part_in s (result_unwrap_or (counted (decode s)) 0) i)
      × (a + n ≤ length s)
  unfolding place_in part_in part_at
  there a n l p q =
      let few : i < result_unwrap_or (counted (decode s)) 0 = rw e at l in
      let y = lt-ltb i (result_unwrap_or (counted (decode s)) 0) few in
      (rw (y, p, q), rw (y, p, q), rw (p, q) (part_inside s i few))

  pub missing :
      pairs ≤ i
      → (record { at = 0; length = 0 } ≡ place_in s (result_unwrap_or (counted (decode s)) 0) i)
      × ([] ≡ part_in s (result_unwrap_or (counted (decode s)) 0) i)
      × (0 ≤ length s)
  unfolding place_in part_in
  missing l =
      let few : result_unwrap_or (counted (decode s)) 0 ≤ i = rw e at l in
      let n = le-ltb i (result_unwrap_or (counted (decode s)) 0) few in
      (rw n, rw n, omega arith)
