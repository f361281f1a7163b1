-- `write_nonce_request`: message and root, nothing nested.
-- Assumes nothing.
use mathlib.Core.Path.{refl, ◌∙◌}
use mathlib.Core.List.{[]}
use native.Mathlib.Omega.{arith}
use borrow.Author.Tests.{leb-true}
use Rattle.wire.specs.Bytes.{put}
use Rattle.layout.specs.Decode.{within}
use Rattle.layout.specs.Encode.{encode, header, parts}
use Rattle.framing.specs.Writing.{write_message, pairs, total}
use Rattle.body.specs.Body.{root_of, request_of}
use Rattle.framing.proofs.Laws.{refused_7, refused_9, wrote, put-request, length_request}
use Rattle.body.proofs.Roots.{length-root_of}
use Rattle.std.proofs.lemmas.Result.{err_from_is_err_and}
use Rattle.requests.proofs.write_nonce_request.Goals as goal

pub returns-in_err-room : goal.returns-in_err-room
unfolding write_message
returns-in_err-room c =
    let p = err_from_is_err_and c.from_residual.result c.from_residual.ensures.1 in
    rw (p.1, p.2, c.in_err-room.ensures.0) (refused_7 _ _ _ c.in_err-room.ensures.1)

pub returns-in_err-limits : goal.returns-in_err-limits
unfolding write_message within request_of
returns-in_err-limits c =
    let p = err_from_is_err_and c.from_residual-in_err-limits.result c.from_residual-in_err-limits.ensures.1 in
    rw (p.1, p.2, c.in_err-limits.ensures.0) (refused_9 _ _ _ c.in_ok-room.ensures c.in_err-limits.ensures.1)

pub returns : goal.returns
unfolding write_message within request_of encode header parts pairs total put
returns c =
    let frame = c.put_request_frame-end.ensures in
    let a = c.args in
    let message = a.message.now in
    let root = root_of a.head in
    wrote _ _ _ c.in_ok-room.ensures c.in_ok-limits.ensures _ _
    (length_request _ message root [] 48 refl ∙ omega (arith, frame.1))
    (omega (arith, frame.1, length-root_of a.head, leb-true _ _ c.in_ok-limits.ensures))
    (rw (c.put_body.ensures, frame.2) (put-request _ message root [] 48 refl _))
