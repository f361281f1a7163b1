-- `write_insufficient_signers`: a packet of one list.
-- Assumes nothing.
use Prim.Native.Nat.{◌*◌}
use mathlib.Core.Path.{◌≡◌, refl, ◌∙◌}
use mathlib.Core.List.{[], ◌∷◌}
use native.Mathlib.Omega.{arith}
use lib.ListN.{length}
use borrow.Author.Tests.{leb-true}
use Rattle.std.proofs.lemmas.Result.{err_from_is_err_and}
use Rattle.layout.specs.Encode.{id_bytes, encode_insufficient_signers}
use Rattle.layout.proofs.Entries.{length-id_bytes}
use Rattle.framing.specs.Writing.{total}
use Rattle.framing.proofs.Laws.{refused_7, refused_9, wrote, put-packet, length-parts}
use Rattle.pieces.specs.Places.{signer_number, signers_of}
use Rattle.pieces.proofs.Given.{signers_10}
use Rattle.writer.specs.Results.{write_insufficient_signers}
use Rattle.writer.proofs.Numbers.{length_live}
use Rattle.writer.proofs.results.write_insufficient_signers.Goals as goal

pub returns-in_err-room : goal.returns-in_err-room
unfolding write_insufficient_signers
returns-in_err-room c =
    let p = err_from_is_err_and c.from_residual.result c.from_residual.ensures.1 in
    rw (p.1, p.2, c.in_err-room.ensures.0) (refused_7 _ _ _ c.in_err-room.ensures.1)

pub returns-in_err-limits : goal.returns-in_err-limits
unfolding write_insufficient_signers
returns-in_err-limits c =
    let p = err_from_is_err_and c.from_residual-in_err-limits.result c.from_residual-in_err-limits.ensures.1 in
    rw (p.1, p.2, c.in_err-limits.ensures.0) (refused_9 _ _ _ c.in_ok-room.ensures c.in_err-limits.ensures.1)

pub returns : goal.returns
unfolding signers_of write_insufficient_signers encode_insufficient_signers total
returns c =
    let m = c.args.malicious in
    let short = leb-true _ _ c.in_ok-limits.ensures in
    let ten : length m.ids ≡ 10 = signers_10 m _ c.well_formed.1.0 in
    let few : length (signers_of m) ≡ m.count = length_live signer_number m.ids m.count (omega arith) in
    let size : 4 * m.count ≡ length (id_bytes (signers_of m)) = rw (length-id_bytes, few) (omega arith) in
    let first = c.put_result_header-first.ensures in
    let end = c.put-end.ensures in
    wrote _ _ _ c.in_ok-room.ensures c.in_ok-limits.ensures _ _ (length-parts _ (_ ∷ []) ∙ omega arith)
    (omega arith)
    (rw (c.put_signers.ensures, end.2, first.0, first.1, first.2, size)
    (put-packet _ _ (_ ∷ []) 40 refl))
