-- `put_share_pairs`: what is still to be written completes the signer's pairs.
-- Assumes nothing.
use native.Mathlib.Omega.{arith}
use lib.ListN.{length-map, drop_of_length-le}
use Rattle.wire.specs.Bytes.{put}
use Rattle.framing.specs.Writing.{pairs, total}
use Rattle.framing.proofs.Laws.{put_pair_next}
use Rattle.pieces.proofs.Given.{drop_next}
use Rattle.job.specs.Job.{share_lengths}
use Rattle.job.proofs.Held.{job_held, shares-short}
use Rattle.job.proofs.put_share_pairs.Goals as goal

pub put-next-requires : goal.put-next-requires
unfolding total share_lengths
put-next-requires c =
    let l = c.loop-n in
    let counts = c.counts-n-items in
    let rest = drop_next counts.result.now l.n-index 0 c.loop-n-test.true in
    let short = rw (← counts.ensures.0) at (shares-short _ _ (job_held _ c.args.p.now c.requires.2.1)) in
    let left = rw rest at l.invariant.1 in
    (omega arith, omega arith, omega arith)

pub loop-n-preserved : goal.loop-n-preserved
unfolding total
loop-n-preserved c =
    let l = c.loop-n in
    let put = c.put-next.ensures in
    let rest = drop_next c.counts-n-items.result.now l.n-index 0 c.loop-n-test.true in (
      omega (arith, put.0, rw rest at l.invariant.0),
      omega (arith, put.1, rw rest at l.invariant.1),
      rw (put.0, put.1, put.2, put_pair_next) (rw rest at l.invariant.2),
    )

-- nothing is left to write after the loop
pub returns : goal.returns
unfolding total pairs put share_lengths
returns c =
    let l = c.loop-n in
    let none = drop_of_length-le c.counts-n-items.result.now {i = l.n-index} c.loop-n-test.false in
    rw (← c.counts-n-items.ensures.0, length-map)
    (omega (arith, rw none at l.invariant.0), omega (arith, rw none at l.invariant.1), rw none at l.invariant.2)
