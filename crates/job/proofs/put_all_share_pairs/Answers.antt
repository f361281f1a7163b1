-- `put_all_share_pairs`: what is still to be written completes the table.
-- Assumes nothing.
use native.Mathlib.Omega.{arith}
use lib.ListN.{length-append, drop_of_length-le}
use Rattle.wire.specs.Bytes.{put}
use Rattle.framing.specs.Writing.{pairs, total}
use Rattle.pieces.proofs.Given.{drop_next}
use Rattle.job.proofs.Held.{no_place, total_append, live_holds, live_all_few, live_all_short}
use Rattle.job.proofs.Parts.{put_pairs_next}
use Rattle.job.proofs.put_all_share_pairs.Goals as goal

pub put_share_pairs-next-requires : goal.put_share_pairs-next-requires
put_share_pairs-next-requires c =
    let live = c.live-p-items in
    let few = live_all_few _ _ c.requires.2.1 _ live.ensures in
    let short = live_all_short _ _ c.requires.2.1 _ live.ensures in
    (omega arith, omega arith, (c.requires.2.0, live_holds _ _ c.requires.2.1 _ live.ensures _ _ c.loop-p-test.true))

pub loop-p-preserved : goal.loop-p-preserved
loop-p-preserved c =
    let l = c.loop-p in
    let pairs = c.put_share_pairs-next.ensures in
    let rest = drop_next c.live-p-items.result.now l.p-index no_place c.loop-p-test.true in (
      omega (arith, pairs.0, rw (rest, length-append) at l.invariant.0),
      omega (arith, pairs.1, rw (rest, total_append) at l.invariant.1),
      rw (pairs.2, pairs.0, pairs.1, put_pairs_next) (rw rest at l.invariant.2),
    )

-- nothing is left to write after the loop
pub returns : goal.returns
unfolding total pairs put
returns c =
    let l = c.loop-p in
    let none = drop_of_length-le c.live-p-items.result.now {i = l.p-index} c.loop-p-test.false in
    rw (← c.live-p-items.ensures) (omega (arith, rw none at l.invariant.1), rw none at l.invariant.2)
