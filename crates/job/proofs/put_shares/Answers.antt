-- `put_shares`: what is still to be written completes the signer's shares.
-- Assumes nothing.
use Prim.Native.Nat.{ℕ, ◌≤◌, ◌+◌, ◌*◌}
use mathlib.Core.Path.{sym, ap, ◌∙◌}
use mathlib.Core.List.{List}
use native.Mathlib.Omega.{arith}
use lib.ListN.{length, get_or, drop_of_length-le}
use Rattle.wire.specs.Bytes.{Bytes, put, joined}
use Rattle.wire.proofs.Buffer.{put_next}
use Rattle.framing.specs.Writing.{total}
use Rattle.pieces.proofs.Given.{drop_next}
use Rattle.job.specs.Job.{share_keys_of, shares_from, shares_at_place, share_length, share_lengths}
use Rattle.job.proofs.Held.{job_held, counts-few, shares-short}
use Rattle.job.proofs.Lists.{length-share, shares_next}
use Rattle.job.proofs.put_shares.Goals as goal

pub put_share-requires : goal.put_share-requires
unfolding total share_keys_of share_lengths
put_share-requires c =
    let l = c.loop-n in
    let counts = c.counts-n-items in
    let held = job_held _ c.args.p.now c.requires.1 in
    let list = held.shares in
    let rest = drop_next counts.result.now l.n-index 0 c.loop-n-test.true in
    let few = rw (← counts.ensures.0) at (counts-few c.args.p.now) in
    let short = rw (← counts.ensures.0) at (shares-short _ _ held) in
    let left = rw rest at l.invariant.0 in
    (omega arith, omega (arith, (c.type_inv.n-items l.n-index).fits), omega arith)

pub overflow_add-share_at : goal.overflow_add-share_at
unfolding total share_keys_of share_lengths
overflow_add-share_at c =
    let l = c.loop-n in
    let counts = c.counts-n-items in
    let held = job_held _ c.args.p.now c.requires.1 in
    let list = held.shares in
    let key_list = held.share_keys in
    let rest = drop_next counts.result.now l.n-index 0 c.loop-n-test.true in
    let few = rw (← counts.ensures.0) at (counts-few c.args.p.now) in
    let short = rw (← counts.ensures.0) at (shares-short _ _ held) in
    let all_keys = ap total counts.ensures.0 in
    let shares_left = rw rest at l.invariant.0 in
    let keys_left = rw rest at l.invariant.1 in
    let next_left = rw rest at l.invariant.2 in
    omega arith

pub overflow_add-keys_at : goal.overflow_add-keys_at
unfolding total share_keys_of share_lengths
overflow_add-keys_at c =
    let l = c.loop-n in
    let counts = c.counts-n-items in
    let held = job_held _ c.args.p.now c.requires.1 in
    let list = held.shares in
    let key_list = held.share_keys in
    let rest = drop_next counts.result.now l.n-index 0 c.loop-n-test.true in
    let few = rw (← counts.ensures.0) at (counts-few c.args.p.now) in
    let short = rw (← counts.ensures.0) at (shares-short _ _ held) in
    let all_keys = ap total counts.ensures.0 in
    let shares_left = rw rest at l.invariant.0 in
    let keys_left = rw rest at l.invariant.1 in
    let next_left = rw rest at l.invariant.2 in
    omega arith

pub overflow_add-next-in-loop-n : goal.overflow_add-next-in-loop-n
unfolding total share_keys_of share_lengths
overflow_add-next-in-loop-n c =
    let l = c.loop-n in
    let counts = c.counts-n-items in
    let held = job_held _ c.args.p.now c.requires.1 in
    let list = held.shares in
    let key_list = held.share_keys in
    let rest = drop_next counts.result.now l.n-index 0 c.loop-n-test.true in
    let few = rw (← counts.ensures.0) at (counts-few c.args.p.now) in
    let short = rw (← counts.ensures.0) at (shares-short _ _ held) in
    let all_keys = ap total counts.ensures.0 in
    let shares_left = rw rest at l.invariant.0 in
    let keys_left = rw rest at l.invariant.1 in
    let next_left = rw rest at l.invariant.2 in
    omega arith

pub loop-n-preserved : goal.loop-n-preserved
unfolding total share_keys_of share_lengths
loop-n-preserved c =
    let l = c.loop-n in
    let counts = c.counts-n-items in
    let source = c.args.source.now in
    let bytes : Bytes source = λ k. (c.type_inv.source k).fits in
    let held = job_held _ c.args.p.now c.requires.1 in
    let list = held.shares in
    let key_list = held.share_keys in
    let n = get_or counts.result.now l.n-index 0 in
    let rest = drop_next counts.result.now l.n-index 0 c.loop-n-test.true in
    let few = rw (← counts.ensures.0) at (counts-few c.args.p.now) in
    let shares_left = rw rest at l.invariant.0 in
    let keys_left = rw rest at l.invariant.1 in
    let all_keys = ap total counts.ensures.0 in
    let head : l.share_at + 36 ≤ length source = omega arith in
    let keys : l.keys_at + n * 4 ≤ length source = omega arith in
    let size = length-share source bytes l.share_at l.keys_at n head keys in
    let share = shares_next source bytes l.share_at l.keys_at n _ head keys in (
      omega arith,
      omega arith,
      omega (arith, rw rest at l.invariant.2),
      rw c.put_share.ensures
          (put_next l.out l.next _ (l.next + share_length n) _ (ap (λ (k : ℕ). l.next + k) size)
          ∙ ap (λ (ps : List (List ℕ)). put l.out l.next (joined ps)) (sym share) ∙ rw rest at l.invariant.3),
    )

-- nothing is left to write after the loop
pub returns : goal.returns
unfolding total put shares_from shares_at_place share_lengths
returns c =
    let l = c.loop-n in
    let none = drop_of_length-le c.counts-n-items.result.now {i = l.n-index} c.loop-n-test.false in
    rw (← c.counts-n-items.ensures.0) (omega (arith, rw none at l.invariant.2), rw none at l.invariant.3)
