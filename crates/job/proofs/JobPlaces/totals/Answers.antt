-- `totals`: the signers still to come complete each sum.
-- Assumes nothing.
use mathlib.Core.Path.{ap}
use native.Mathlib.Omega.{arith}
use lib.ListN.{length, length-append, length-map, drop_of_length-le}
use Rattle.framing.specs.Writing.{total}
use Rattle.pieces.proofs.Given.{drop_next}
use Rattle.job.specs.declared.JobList.TheVariants.{KeyIds, Nonces}
use Rattle.job.specs.Job.{share_lengths}
use Rattle.job.proofs.Held.{no_place, live_held, live_lists_short, live_all_few}
use Rattle.job.proofs.JobPlaces.totals.Goals as goal

pub overflow_mul-t : goal.overflow_mul-t
overflow_mul-t c =
    let live = c.live-p-items in
    let l = c.loop-p in
    let held = live_held _ _ c.requires.1 _ live.ensures l.p-index no_place c.loop-p-test.true in
    let keys = (held.list KeyIds).few in
    let nonces = (held.list Nonces).few in
    let all_keys = live_lists_short _ _ c.requires.1 _ live.ensures KeyIds in
    let all_nonces = live_lists_short _ _ c.requires.1 _ live.ensures Nonces in
    let all_shares = live_all_few _ _ c.requires.1 _ live.ensures in
    omega arith

pub overflow_add-t : goal.overflow_add-t
overflow_add-t c =
    let live = c.live-p-items in
    let l = c.loop-p in
    let held = live_held _ _ c.requires.1 _ live.ensures l.p-index no_place c.loop-p-test.true in
    let keys = (held.list KeyIds).few in
    let nonces = (held.list Nonces).few in
    let all_keys = live_lists_short _ _ c.requires.1 _ live.ensures KeyIds in
    let all_nonces = live_lists_short _ _ c.requires.1 _ live.ensures Nonces in
    let all_shares = live_all_few _ _ c.requires.1 _ live.ensures in
    omega arith

pub overflow_mul-t-in-loop-p : goal.overflow_mul-t-in-loop-p
overflow_mul-t-in-loop-p c =
    let live = c.live-p-items in
    let l = c.loop-p in
    let held = live_held _ _ c.requires.1 _ live.ensures l.p-index no_place c.loop-p-test.true in
    let keys = (held.list KeyIds).few in
    let nonces = (held.list Nonces).few in
    let all_keys = live_lists_short _ _ c.requires.1 _ live.ensures KeyIds in
    let all_nonces = live_lists_short _ _ c.requires.1 _ live.ensures Nonces in
    let all_shares = live_all_few _ _ c.requires.1 _ live.ensures in
    omega arith

pub overflow_add-t-in-loop-p : goal.overflow_add-t-in-loop-p
overflow_add-t-in-loop-p c =
    let live = c.live-p-items in
    let l = c.loop-p in
    let held = live_held _ _ c.requires.1 _ live.ensures l.p-index no_place c.loop-p-test.true in
    let keys = (held.list KeyIds).few in
    let nonces = (held.list Nonces).few in
    let all_keys = live_lists_short _ _ c.requires.1 _ live.ensures KeyIds in
    let all_nonces = live_lists_short _ _ c.requires.1 _ live.ensures Nonces in
    let all_shares = live_all_few _ _ c.requires.1 _ live.ensures in
    omega arith

pub overflow_add-t-in-loop-p-2 : goal.overflow_add-t-in-loop-p-2
overflow_add-t-in-loop-p-2 c =
    let live = c.live-p-items in
    let l = c.loop-p in
    let held = live_held _ _ c.requires.1 _ live.ensures l.p-index no_place c.loop-p-test.true in
    let keys = (held.list KeyIds).few in
    let nonces = (held.list Nonces).few in
    let all_keys = live_lists_short _ _ c.requires.1 _ live.ensures KeyIds in
    let all_nonces = live_lists_short _ _ c.requires.1 _ live.ensures Nonces in
    let all_shares = live_all_few _ _ c.requires.1 _ live.ensures in
    omega (arith, c.counts.ensures.1)

pub loop-p-preserved : goal.loop-p-preserved
unfolding total share_lengths
loop-p-preserved c =
    let l = c.loop-p in
    let rest = drop_next c.live-p-items.result.now l.p-index no_place c.loop-p-test.true in (
      omega (arith, rw rest at l.invariant.0),
      omega (arith, rw rest at l.invariant.1),
      omega (arith, ap length c.counts.ensures.0, rw (rest, length-append, length-map) at l.invariant.2),
    )

-- no signer is left after the loop
pub returns : goal.returns
unfolding total
returns c =
    let l = c.loop-p in
    let none = drop_of_length-le c.live-p-items.result.now {i = l.p-index} c.loop-p-test.false in
    rw (← c.live-p-items.ensures) (omega (arith, rw none at l.invariant.0), omega (arith, rw none at l.invariant.1), omega (arith, rw none at l.invariant.2))
