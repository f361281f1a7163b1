-- `write_nonce_timeout`: a packet of two lists.
-- Assumes nothing.
use Prim.Native.Nat.{◌*◌}
use mathlib.Core.Path.{◌≡◌, refl, ◌∙◌}
use mathlib.Core.List.{[], ◌∷◌}
use native.Mathlib.Omega.{arith}
use lib.ListN.{length}
use borrow.Author.Tests.{leb-true}
use Rattle.std.proofs.lemmas.Result.{err_from_is_err_and}
use Rattle.wire.proofs.Lists.{and_both}
use Rattle.layout.specs.Encode.{id_bytes, encode_nonce_timeout}
use Rattle.layout.proofs.Entries.{length-id_bytes}
use Rattle.framing.specs.Writing.{total}
use Rattle.framing.proofs.Laws.{refused_7, refused_9, wrote, put-packet, length-parts}
use Rattle.pieces.specs.Places.{signer_number, signers_of}
use Rattle.pieces.proofs.Given.{signers_10}
use Rattle.writer.specs.Results.{write_nonce_timeout}
use Rattle.writer.proofs.Numbers.{length_live}
use Rattle.writer.proofs.results.write_nonce_timeout.Goals as goal

pub returns-in_err-room : goal.returns-in_err-room
unfolding write_nonce_timeout
returns-in_err-room c =
    let p = err_from_is_err_and c.from_residual.result c.from_residual.ensures.1 in
    rw (p.1, p.2, c.in_err-room.ensures.0) (refused_7 _ _ _ c.in_err-room.ensures.1)

pub returns-in_err-limits : goal.returns-in_err-limits
unfolding write_nonce_timeout
returns-in_err-limits c =
    let p = err_from_is_err_and c.from_residual-in_err-limits.result c.from_residual-in_err-limits.ensures.1 in
    rw (p.1, p.2, c.in_err-limits.ensures.0) (refused_9 _ _ _ c.in_ok-room.ensures (rw c.in_err-limits.ensures.1))

pub returns-in_err-limits-2 : goal.returns-in_err-limits-2
unfolding write_nonce_timeout
returns-in_err-limits-2 c =
    let p = err_from_is_err_and c.from_residual-in_err-limits-2.result c.from_residual-in_err-limits-2.ensures.1 in
    rw (p.1, p.2, c.in_err-limits-2.ensures.0)
    (refused_9 _ _ _ c.in_ok-room.ensures (rw (c.in_ok-limits.ensures, c.in_err-limits-2.ensures.1)))

pub returns : goal.returns
unfolding signers_of write_nonce_timeout encode_nonce_timeout total
returns c =
    let a = c.args in
    let few = leb-true _ _ c.in_ok-limits.ensures in
    let short = leb-true _ _ c.in_ok-limits-2.ensures in
    let ten : length a.waiters.ids ≡ 10 = signers_10 a.waiters _ c.well_formed.1.0 in
    let ten-too : length a.malicious.ids ≡ 10 = signers_10 a.malicious _ c.well_formed.1.1.0 in
    let n : length (signers_of a.waiters) ≡ a.waiters.count = length_live signer_number a.waiters.ids a.waiters.count (omega arith) in
    let k : length (signers_of a.malicious) ≡ a.malicious.count = length_live signer_number a.malicious.ids a.malicious.count (omega arith) in
    let w : 4 * a.waiters.count ≡ length (id_bytes (signers_of a.waiters)) = rw (length-id_bytes, n) (omega arith) in
    let m : 4 * a.malicious.count ≡ length (id_bytes (signers_of a.malicious)) = rw (length-id_bytes, k) (omega arith) in
    let first = c.put_result_header-first.ensures in
    let second = c.put-second.ensures in
    let end = c.put-end.ensures in
    wrote _ _ _ c.in_ok-room.ensures (and_both _ _ c.in_ok-limits.ensures c.in_ok-limits-2.ensures)
    _ _ (length-parts _ (_ ∷ (_ ∷ [])) ∙ omega arith) (omega arith)
    (rw (
      c.put_signers-2.ensures,
      c.put_signers.ensures,
      end.2,
      second.2,
      second.0,
      second.1,
      first.0,
      first.1,
      first.2,
      w,
      m,
    ) (put-packet _ _ (_ ∷ (_ ∷ [])) 48 refl))
