-- `put_response_pairs`: what is still to be written completes the table.
-- Assumes nothing.
use mathlib.Core.Path.{◌≡◌}
use mathlib.Core.List.{[]}
use native.Mathlib.Omega.{arith}
use lib.ListN.{drop, drop_of_length-le}
use Rattle.wire.specs.Bytes.{put}
use Rattle.framing.specs.Writing.{pairs, total}
use Rattle.pieces.specs.Places.{response_length}
use Rattle.framing.proofs.Laws.{put_pair_next}
use Rattle.pieces.proofs.Given.{map_next, response-few, live_held, live_few, live_short}
use Rattle.requests.proofs.put_response_pairs.Goals as goal

pub packet_length-requires : goal.packet_length-requires
packet_length-requires c =
    response-few _ _ (live_held c.requires.2.0 c.args.ps.now c.requires.2.1 _ c.live-place-items.ensures _ _ c.loop-place-test.true)

pub put-next-requires : goal.put-next-requires
unfolding total
put-next-requires c =
    let lens = map_next response_length c.live-place-items.result.now c.loop-place.place-index _ _ c.loop-place-test.true c.packet_length.ensures in
    let left = rw lens at c.loop-place.invariant.1 in
    let few = live_few _ _ c.requires.2.1 _ c.live-place-items.ensures in
    let short = live_short _ _ c.requires.2.1 _ c.live-place-items.ensures in
    (omega arith, omega arith, omega arith)

pub loop-place-preserved : goal.loop-place-preserved
unfolding total
loop-place-preserved c =
    let lens = map_next response_length c.live-place-items.result.now c.loop-place.place-index _ _ c.loop-place-test.true c.packet_length.ensures in
    let left = rw lens at c.loop-place.invariant.1 in
    let put = c.put-next.ensures in (
      omega arith,
      omega arith,
      rw (put.0, put.1, put.2, put_pair_next) (rw lens at c.loop-place.invariant.2),
    )

-- nothing is left to write after the loop
pub returns : goal.returns
unfolding total pairs put
returns c =
    let l = c.loop-place in
    let none : drop l.place-index c.live-place-items.result.now ≡ [] =
    drop_of_length-le c.live-place-items.result.now {i = l.place-index} c.loop-place-test.false in
    rw (← c.live-place-items.ensures) (omega (arith, rw none at l.invariant.1), rw none at l.invariant.2)
