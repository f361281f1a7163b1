-- `write_nested`: the lists at their places are the parts of the response.
-- Assumes nothing.
use Prim.Native.Nat.{ℕ, ◌-◌}
use mathlib.Core.Path.{◌≡◌, ◌∙◌}
use mathlib.Core.List.{List, ◌++◌, append-nil}
use native.Mathlib.Omega.{arith}
use lib.ListN.{length, take, drop, length-take, length-drop, drop_of_length-le}
use lib.Seq.{take_all}
use Rattle.pieces.specs.Places.{bytes_at}
use Rattle.pieces.proofs.Given.{response_held, encode_at}
use Rattle.pieces.proofs.response.write_nested.Goals as goal

-- a part from `at` to the end: all that is there, and nothing lies behind it
part_all : (at : ℕ) (l : List ℕ) → take (length l - at) (drop at l) ≡ drop at l
part_all at l = take_all (length l - at) (drop at l) (rw length-drop (omega arith))

part_back : (at : ℕ) (l ys : List ℕ) → take at l ++ (ys ++ drop (length l - at) (drop at l)) ≡ take at l ++ ys
part_back at l ys = rw (drop_of_length-le (drop at l) {i = length l - at} (rw length-drop (omega arith)), append-nil)

pub bytes-requires : goal.bytes-requires
bytes-requires c = omega (arith, (response_held _ _ c.requires.1).message.fits)

pub bytes-requires-2 : goal.bytes-requires-2
bytes-requires-2 c = omega (arith, (response_held _ _ c.requires.1).key_ids.fits)

pub bytes-requires-3 : goal.bytes-requires-3
bytes-requires-3 c = omega (arith, (response_held _ _ c.requires.1).nonces.fits)

pub write_response-requires : goal.write_response-requires
unfolding bytes_at
write_response-requires c =
    let h = response_held _ _ c.requires.1 in (
      rw (c.bytes.ensures, length-take) (omega (arith, h.message.few)),
      rw (c.bytes-2.ensures, length-take) (omega (arith, h.key_ids.few)),
      rw (c.bytes-3.ensures, length-take) (omega (arith, h.nonces.few)),
    )

pub returns : goal.returns
returns c =
    let a = c.args in
    let out = a.out.now in
    let wrote = c.write_response in
    let message = c.bytes.ensures in
    let keys = c.bytes-2.ensures in
    let nonces = c.bytes-3.ensures in
    let code = encode_at a.source.now (λ i. (c.type_inv.source i).fits) a.p.now
    (response_held _ _ c.requires.1) in (
      rw (code, wrote.ensures.0, part_all a.at out, length-drop a.at out, message, keys, nonces),
      part_back a.at out wrote.new.out
          ∙ rw (code, wrote.ensures.1, part_all a.at out, message, keys, nonces),
    )
