-- `put_lists`: what is still to be written completes the joined list.
-- Assumes nothing.
use mathlib.Core.Path.{refl, ◌∙◌}
use native.Mathlib.Omega.{arith}
use lib.ListN.{get_or, drop_of_length-le}
use Rattle.wire.specs.Bytes.{put}
use Rattle.wire.proofs.Buffer.{put_next}
use Rattle.framing.specs.Writing.{total}
use Rattle.pieces.proofs.Given.{drop_next, length_bytes_at}
use Rattle.job.specs.Job.{list_of, width}
use Rattle.job.proofs.Held.{no_place, width_small, live_held, live_lists_short}
use Rattle.job.proofs.put_lists.Goals as goal

pub bytes-bytes-requires : goal.bytes-bytes-requires
bytes-bytes-requires c =
    let held = live_held _ _ c.requires.1 _ c.live-p-items.ensures c.loop-p.p-index no_place c.loop-p-test.true in
    rw (c.place.ensures, c.width.ensures) (omega (arith, (held.list c.args.list).fits))

pub overflow_add-next : goal.overflow_add-next
unfolding total
overflow_add-next c =
    let a = c.args in
    let l = c.loop-p in
    let live = c.live-p-items in
    let source = a.source.now in
    let p = get_or live.result.now l.p-index no_place in
    let rest = drop_next live.result.now l.p-index no_place c.loop-p-test.true in
    let held = live_held _ _ c.requires.1 _ live.ensures l.p-index no_place c.loop-p-test.true in
    let size = length_bytes_at source (λ k. (c.type_inv.source k).fits) 16 (list_of a.list p) (width a.list) (held.list a.list) in
    let short = live_lists_short _ _ c.requires.1 _ live.ensures a.list in
    rw (c.bytes-bytes.ensures, c.place.ensures, c.width.ensures, size) (omega (arith, rw rest at l.invariant.0, width_small a.list))

pub loop-p-preserved : goal.loop-p-preserved
unfolding total
loop-p-preserved c =
    let a = c.args in
    let l = c.loop-p in
    let live = c.live-p-items in
    let source = a.source.now in
    let p = get_or live.result.now l.p-index no_place in
    let rest = drop_next live.result.now l.p-index no_place c.loop-p-test.true in
    let held = live_held _ _ c.requires.1 _ live.ensures l.p-index no_place c.loop-p-test.true in
    let wrote = rw (c.place.ensures, c.width.ensures) at c.bytes-bytes.ensures in
    let size = length_bytes_at source (λ k. (c.type_inv.source k).fits) 16 (list_of a.list p) (width a.list) (held.list a.list) in (
      rw (wrote, size) (omega (arith, rw rest at l.invariant.0)),
      rw (c.copy.ensures, wrote) (put_next l.out l.next _ _ _ refl ∙ rw rest at l.invariant.1),
    )

-- nothing is left to write after the loop
pub returns : goal.returns
unfolding put
returns c =
    let l = c.loop-p in
    let none = drop_of_length-le c.live-p-items.result.now {i = l.p-index} c.loop-p-test.false in
    rw (← c.live-p-items.ensures) (rw none at l.invariant.1)
