-- `put_shares`: what is still to be written completes the shares.
-- Assumes nothing.
use Prim.Native.Nat.{◌<◌, ◌-◌, ◌+◌, ◌*◌}
use mathlib.Core.Path.{◌≡◌, refl, ◌∙◌}
use native.Mathlib.Omega.{arith}
use lib.ListN.{length, get_or, drop, length-drop, drop_of_length-le}
use lib.Seq.{length-take-le}
use Rattle.wire.specs.Bytes.{put}
use Rattle.responses.specs.Responses.{shares_given, share_length}
use Rattle.responses.proofs.Walks.{total_next, count_in_law}
use Rattle.responses.proofs.Cut.{agreed}
use Rattle.responses.proofs.Given.{put_share_next}
use Rattle.responses.proofs.shares.put_shares.Goals as goal

pub loop-i-init : goal.loop-i-init
loop-i-init c = (omega (arith, (agreed _ _ _ _ c.requires.3).counts_sum), omega arith, refl)

pub bounds-key_counts-i : goal.bounds-key_counts-i
bounds-key_counts-i c = omega (arith, (agreed _ _ _ _ c.requires.3).counts_each)

pub slice_bounds-put_share-end : goal.slice_bounds-put_share-end
slice_bounds-put_share-end c =
    let l = c.loop-i in
    count_in_law c.args.key_counts.now l.i l.keys_from _ (omega (arith, (agreed _ _ _ _ c.requires.3).counts_each)) l.invariant.0

pub put_share-requires : goal.put_share-requires
put_share-requires c =
    let z_i = c.args.z_i.now in
    let l = c.loop-i in
    let agree = agreed _ _ _ _ c.requires.3 in (
      omega arith,
      rw c.part-z.ensures (length-take-le 32 (drop (l.i * 32) z_i) (rw length-drop (omega arith))),
    )

pub loop-i-preserved : goal.loop-i-preserved
unfolding share_length
loop-i-preserved c =
    let a = c.args in
    let counts = a.key_counts.now in
    let l = c.loop-i in
    let agree = agreed _ _ _ _ c.requires.3 in
    let here : l.i < length counts = omega (arith, agree.counts_each) in
    let n = get_or counts l.i 0 in
    let size : l.keys_from + n - l.keys_from ≡ n = omega arith in (
      omega (arith, total_next counts l.i here),
      omega arith,
      rw (c.put_share.ensures, c.part-z.ensures, size)
          (put_share_next l.out a.share_ids.now a.z_i.now counts a.key_ids.now l.i l.keys_from l.next
          c.loop-i-test.true here (omega (arith, agree.z_i_each))
          (count_in_law counts l.i l.keys_from _ here l.invariant.0) ∙ l.invariant.2),
    )

-- nothing is left to write after the loop
pub returns : goal.returns
unfolding shares_given put
returns c = rw (drop_of_length-le c.args.share_ids.now {i = c.loop-i.i} c.loop-i-test.false) at c.loop-i.invariant.2
