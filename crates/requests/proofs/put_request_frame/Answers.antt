-- `put_request_frame`: the header, then two pairs.
-- Assumes nothing.
use mathlib.Core.List.{[], ◌∷◌}
use native.Mathlib.Omega.{arith}
use Rattle.framing.proofs.Laws.{put-frame}
use Rattle.body.proofs.Roots.{length-root_of}
use Rattle.requests.proofs.put_request_frame.Goals as goal

pub put-requires-2 : goal.put-requires-2
put-requires-2 c =
    let root = length-root_of c.args.head.now in
    (omega arith, omega arith, rw c.root.ensures (omega arith))

pub returns : goal.returns
returns c =
    let put = c.put.ensures in
    let root = c.put-2.ensures in (
      omega arith,
      rw (root.1, put.1, c.root.ensures) (omega arith),
      rw (root.2, put.2, put.0, put.1, c.root.ensures, c.put_header.ensures, c.header.ensures) (put-frame _ _ _ (_ ∷ (_ ∷ []))),
    )
