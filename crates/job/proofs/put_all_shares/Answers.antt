-- `put_all_shares`: what is still to be written completes the shares.
-- Assumes nothing.
use Prim.Native.Nat.{ℕ, ◌+◌}
use mathlib.Core.Path.{refl, sym, ap, ◌∙◌}
use native.Mathlib.Omega.{arith}
use lib.ListN.{drop_of_length-le}
use Rattle.wire.specs.Bytes.{put}
use Rattle.wire.proofs.Buffer.{put_next}
use Rattle.layout.specs.Encode.{share_bytes}
use Rattle.framing.specs.Writing.{total}
use Rattle.pieces.proofs.Given.{drop_next}
use Rattle.job.specs.Job.{shares_at_place, shares_of, share_lengths}
use Rattle.job.proofs.Held.{no_place, total_append, live_holds, live_held, live_all_short}
use Rattle.job.proofs.Lists.{joined-map, length-shares}
use Rattle.job.proofs.put_all_shares.Goals as goal

pub put_shares-next-requires : goal.put_shares-next-requires
put_shares-next-requires c =
    let live = c.live-p-items in
    let short = live_all_short _ _ c.requires.1 _ live.ensures in
    (omega arith, live_holds _ _ c.requires.1 _ live.ensures _ _ c.loop-p-test.true)

pub loop-p-preserved : goal.loop-p-preserved
unfolding shares_of
loop-p-preserved c =
    let l = c.loop-p in
    let live = c.live-p-items in
    let source = c.args.source.now in
    let shares = c.put_shares-next.ensures in
    let rest = drop_next live.result.now l.p-index no_place c.loop-p-test.true in
    let held = live_held _ _ c.requires.1 _ live.ensures l.p-index no_place c.loop-p-test.true in
    let size = length-shares source (λ k. (c.type_inv.source k).fits) _ held in (
      omega (arith, shares.0, rw (rest, total_append) at l.invariant.0),
      rw (shares.1, shares.0)
          (put_next l.out l.next _ (l.next + total (share_lengths _)) _ (ap (λ (k : ℕ). l.next + k) size)
          ∙ ap (put l.out l.next) (sym (joined-map share_bytes (shares_at_place source _) _ refl))
          ∙ rw rest at l.invariant.1),
    )

-- nothing is left to write after the loop
pub returns : goal.returns
unfolding put shares_of
returns c =
    let l = c.loop-p in
    let none = drop_of_length-le c.live-p-items.result.now {i = l.p-index} c.loop-p-test.false in
    rw (← c.live-p-items.ensures) (rw none at l.invariant.1)
