-- `write_job`: message, root, the joined lists and the shares, whose lengths the places give.
-- Assumes nothing.
use Prim.Native.Nat.{◌+◌, ◌*◌}
use mathlib.Core.Path.{◌≡◌, sym, ap, ◌∙◌}
use mathlib.Core.Bool.{true}
use mathlib.Core.List.{map}
use native.Mathlib.Omega.{arith}
use lib.ListN.{length}
use borrow.Author.Tests.{leb-true}
use Rattle.wire.specs.Bytes.{Bytes, joined}
use Rattle.wire.proofs.Lists.{and_both}
use Rattle.layout.specs.Encode.{share_bytes}
use Rattle.body.specs.Body.{root_of}
use Rattle.framing.proofs.Laws.{refused_7, refused_9, wrote}
use Rattle.body.proofs.Roots.{length-root_of}
use Rattle.job.specs.declared.JobList.TheVariants.{KeyIds, Nonces}
use Rattle.job.specs.Job.{signers_in, jobs_hold, shares_of, list_bytes, share_lengths, write_job}
use Rattle.job.proofs.Held.{signers_hold, lists_short, all_few, all_short}
use Rattle.job.proofs.Lists.{the_share_lengths, share_count, length_lists}
use Rattle.job.proofs.Parts.{put-job, length-job, encode_at}
use Rattle.std.proofs.lemmas.Result.{err_from_is_err_and}
use Rattle.job.proofs.write_job.Goals as goal

pub returns-in_err-room : goal.returns-in_err-room
unfolding write_job
returns-in_err-room c =
    let p = err_from_is_err_and c.from_residual.result c.from_residual.ensures.1 in
    rw (p.1, p.2, c.in_err-room.ensures.0) (refused_7 _ _ _ c.in_err-room.ensures.1)

pub returns-in_err-limits : goal.returns-in_err-limits
unfolding write_job
returns-in_err-limits c =
    let p = err_from_is_err_and c.from_residual-in_err-limits.result c.from_residual-in_err-limits.ensures.1 in
    rw (p.1, p.2, c.in_err-limits.ensures.0) (refused_9 _ _ _ c.in_ok-room.ensures (rw c.in_err-limits.ensures.1))

pub returns-in_err-limits-2 : goal.returns-in_err-limits-2
unfolding write_job
returns-in_err-limits-2 c =
    let p = err_from_is_err_and c.from_residual-in_err-limits-2.result c.from_residual-in_err-limits-2.ensures.1 in
    rw (p.1, p.2, c.in_err-limits-2.ensures.0)
    (refused_9 _ _ _ c.in_ok-room.ensures (rw (c.in_ok-limits.ensures, ← c.are_held.ensures) c.in_err-limits-2.ensures.1))

pub totals-t-requires : goal.totals-t-requires
totals-t-requires c = (length c.args.source.now, sym c.are_held.ensures ∙ c.in_ok-limits-2.ensures)

pub put_job_frame-shares-requires : goal.put_job_frame-shares-requires
put_job_frame-shares-requires c =
    let ps = c.args.ps in
    let ok = sym c.are_held.ensures ∙ c.in_ok-limits-2.ensures in
    let keys = lists_short _ ps ok KeyIds in
    let nonces = lists_short _ ps ok Nonces in
    let shares = all_few _ ps ok in
    let t = c.totals-t.ensures in
    let root = length-root_of c.args.head in
    let short = leb-true _ _ c.in_ok-limits.ensures in
    (omega arith, omega arith, omega arith, omega arith)

pub put_all_share_pairs-end-requires : goal.put_all_share_pairs-end-requires
put_all_share_pairs-end-requires c =
    let ps = c.args.ps in
    let ok = sym c.are_held.ensures ∙ c.in_ok-limits-2.ensures in
    let keys = lists_short _ ps ok KeyIds in
    let nonces = lists_short _ ps ok Nonces in
    let shares = all_few _ ps ok in
    let t = c.totals-t.ensures in
    let root = length-root_of c.args.head in
    let short = leb-true _ _ c.in_ok-limits.ensures in
    (c.put_job_frame-shares.ensures.0, omega arith, (length c.args.source.now, ok))

pub overflow_mul-t : goal.overflow_mul-t
overflow_mul-t c =
    let ps = c.args.ps in
    let ok = sym c.are_held.ensures ∙ c.in_ok-limits-2.ensures in
    let keys = lists_short _ ps ok KeyIds in
    let nonces = lists_short _ ps ok Nonces in
    let shares = all_few _ ps ok in
    let t = c.totals-t.ensures in
    let root = length-root_of c.args.head in
    let short = leb-true _ _ c.in_ok-limits.ensures in
    omega arith

pub put_body-requires : goal.put_body-requires
put_body-requires c =
    let ps = c.args.ps in
    let ok = sym c.are_held.ensures ∙ c.in_ok-limits-2.ensures in
    let keys = lists_short _ ps ok KeyIds in
    let nonces = lists_short _ ps ok Nonces in
    let shares = all_few _ ps ok in
    let t = c.totals-t.ensures in
    let root = length-root_of c.args.head in
    let short = leb-true _ _ c.in_ok-limits.ensures in
    (omega arith, short)

pub put_lists-requires : goal.put_lists-requires
put_lists-requires c =
    let ps = c.args.ps in
    let ok = sym c.are_held.ensures ∙ c.in_ok-limits-2.ensures in
    let keys = lists_short _ ps ok KeyIds in
    let nonces = lists_short _ ps ok Nonces in
    let shares = all_few _ ps ok in
    let t = c.totals-t.ensures in
    let root = length-root_of c.args.head in
    let short = leb-true _ _ c.in_ok-limits.ensures in
    (omega arith, ok)

pub put_lists-requires-2 : goal.put_lists-requires-2
put_lists-requires-2 c =
    let ps = c.args.ps in
    let ok = sym c.are_held.ensures ∙ c.in_ok-limits-2.ensures in
    let keys = lists_short _ ps ok KeyIds in
    let nonces = lists_short _ ps ok Nonces in
    let shares = all_few _ ps ok in
    let t = c.totals-t.ensures in
    let root = length-root_of c.args.head in
    let short = leb-true _ _ c.in_ok-limits.ensures in
    (omega arith, ok)

pub put_all_shares-requires : goal.put_all_shares-requires
put_all_shares-requires c =
    let ps = c.args.ps in
    let ok = sym c.are_held.ensures ∙ c.in_ok-limits-2.ensures in
    let keys = lists_short _ ps ok KeyIds in
    let nonces = lists_short _ ps ok Nonces in
    let shares = all_few _ ps ok in
    let t = c.totals-t.ensures in
    let root = length-root_of c.args.head in
    let short = leb-true _ _ c.in_ok-limits.ensures in
    (omega arith, ok)

pub returns : goal.returns
unfolding write_job
returns c =
    let a = c.args in
    let message = a.message.now in
    let source = a.source.now in
    let root = root_of a.head in
    let ok : jobs_hold (length source) a.ps ≡ true = sym c.are_held.ensures ∙ c.in_ok-limits-2.ensures in
    let bytes : Bytes source = λ i. (c.type_inv.source i).fits in
    let qs = signers_in a.ps in
    let all = signers_hold _ a.ps ok in
    let keys = joined (map (list_bytes KeyIds source) qs) in
    let nonces = joined (map (list_bytes Nonces source) qs) in
    let rs = map share_bytes (shares_of source qs) in
    let t = c.totals-t in
    let frame = c.put_job_frame-shares in
    let pairs = c.put_all_share_pairs-end.ensures in
    let at = 64 + 8 * t.result.shares in
    let code = encode_at a.head message source bytes a.ps all in
    let lens : map length rs ≡ joined (map share_lengths qs) = the_share_lengths source bytes qs all in
    let keys_size : t.result.keys ≡ length keys = t.ensures.0 ∙ sym (length_lists source bytes qs all KeyIds) in
    let nonces_size : t.result.nonces ≡ length nonces = t.ensures.1 ∙ sym (length_lists source bytes qs all Nonces) in
    let count : t.result.shares ≡ length rs = t.ensures.2 ∙ sym (share_count source bytes qs all) in
    let placed = frame.ensures.1 in
    let keys_few = lists_short _ a.ps ok KeyIds in
    let nonces_few = lists_short _ a.ps ok Nonces in
    let shares_few = all_few _ a.ps ok in
    let short = leb-true _ _ c.in_ok-limits.ensures in
    wrote _ _ _ c.in_ok-room.ensures (and_both _ _ c.in_ok-limits.ensures ok) _ _
    (ap length code ∙ length-job _ message root keys nonces rs at (omega arith) ∙ rw lens (omega (arith, placed, pairs.0)))
    (omega (arith, keys_few, nonces_few, shares_few, placed, pairs.0, short, length-root_of a.head, all_short _ a.ps ok))
    (rw (c.put_all_shares.ensures, c.put_lists-2.ensures, c.put_lists.ensures)
    (rw (c.put_body.ensures, pairs.1, frame.ensures.2, frame.ensures.0)
    (rw (← lens, code, ← t.ensures.2, keys_size, nonces_size)
    (put-job _ message root keys nonces rs at (omega arith) _ _ _ _ (omega (arith, placed)) (omega (arith, placed))
    (omega (arith, placed))))))
