-- `write_dkg`: a packet with no parts is its header.
-- Assumes nothing.
use mathlib.Core.Path.{refl}
use mathlib.Core.List.{[]}
use native.Mathlib.Omega.{arith}
use Rattle.layout.proofs.Frame.{length-packet}
use Rattle.framing.proofs.Laws.{refused_7, wrote, put-packet}
use Rattle.std.proofs.lemmas.Result.{err_from_is_err_and}
use Rattle.writer.proofs.dkg.write_dkg.Goals as goal

pub returns-in_err-room : goal.returns-in_err-room
returns-in_err-room c =
    let p = err_from_is_err_and c.from_residual.result c.from_residual.ensures.1 in
    rw (p.1, p.2, c.in_err-room.ensures.0) (refused_7 _ _ _ c.in_err-room.ensures.1)

pub returns : goal.returns
returns c =
    wrote _ _ _ c.in_ok-room.ensures refl 32 _ (length-packet _ []) (omega arith)
    (rw (c.put_header.ensures, c.header.ensures) (put-packet _ _ [] 32 refl))
