-- `put_share_pairs`: what is still to be written completes the table.
-- Assumes nothing.
use native.Mathlib.Omega.{arith}
use lib.ListN.{drop_of_length-le}
use Rattle.wire.specs.Bytes.{put}
use Rattle.framing.specs.Writing.{pairs}
use Rattle.framing.proofs.Laws.{put_pair_next}
use Rattle.pieces.proofs.Given.{drop_next}
use Rattle.responses.specs.Responses.{share_length}
use Rattle.responses.proofs.Walks.{total_next}
use Rattle.responses.proofs.shares.put_share_pairs.Goals as goal

pub put-next-requires : goal.put-next-requires
put-next-requires c =
    let sum = total_next c.args.key_counts.now c.loop-n.n-index c.loop-n-test.true in
    (omega arith, omega arith, omega arith)

pub loop-n-preserved : goal.loop-n-preserved
unfolding share_length
loop-n-preserved c =
    let counts = c.args.key_counts.now in
    let l = c.loop-n in
    let put = c.put-next.ensures in
    let sum = total_next counts l.n-index c.loop-n-test.true in (
      omega arith,
      omega arith,
      omega arith,
      rw (put.0, put.1, put.2, put_pair_next) (rw (drop_next counts l.n-index 0 c.loop-n-test.true) at l.invariant.3),
    )

-- nothing is left to write after the loop
pub returns : goal.returns
unfolding pairs put
returns c = rw (drop_of_length-le c.args.key_counts.now {i = c.loop-n.n-index} c.loop-n-test.false) at c.loop-n.invariant.3
