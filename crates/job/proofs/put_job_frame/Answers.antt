-- `put_job_frame`: the header, then four pairs.
-- Assumes nothing.
use mathlib.Core.List.{[], ◌∷◌}
use native.Mathlib.Omega.{arith}
use Rattle.framing.proofs.Laws.{put-frame}
use Rattle.body.proofs.Roots.{length-root_of}
use Rattle.job.proofs.put_job_frame.Goals as goal

pub put-lists-requires : goal.put-lists-requires
put-lists-requires c =
    let root = length-root_of c.args.head.now in
    (omega arith, omega arith, rw c.root.ensures (omega arith))

pub put-requires-2 : goal.put-requires-2
put-requires-2 c =
    let root = length-root_of c.args.head.now in
    let put = rw c.root.ensures at c.put-lists.ensures.1 in
    (omega arith, omega arith, omega arith)

pub put-requires-3 : goal.put-requires-3
put-requires-3 c =
    let root = length-root_of c.args.head.now in
    let put = rw c.root.ensures at c.put-lists.ensures.1 in
    (omega arith, omega arith, omega arith)

pub returns : goal.returns
returns c =
    let message = c.put.ensures in
    let root = c.put-lists.ensures in
    let keys = c.put-2.ensures in
    let nonces = c.put-3.ensures in (
      omega arith,
      rw (nonces.1, keys.1, root.1, message.1, c.root.ensures),
      rw (
        nonces.2,
        keys.2,
        keys.0,
        keys.1,
        root.2,
        root.0,
        root.1,
        message.2,
        message.0,
        message.1,
        c.root.ensures,
        c.put_header.ensures,
        c.header.ensures,
      ) (put-frame _ _ _ (_ ∷ (_ ∷ (_ ∷ (_ ∷ []))))),
    )
