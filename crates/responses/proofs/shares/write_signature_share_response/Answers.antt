-- `write_signature_share_response`: 9, 26, then the header, the pairs and the shares.
-- Assumes nothing.
use mathlib.Core.Path.{sym, ◌∙◌}
use native.Mathlib.Omega.{arith}
use Rattle.std.proofs.lemmas.Result.{err_from_is_err_and}
use Rattle.responses.specs.Responses.{lists_agree, write_signature_share_response}
use Rattle.responses.proofs.Cut.{agreeing}
use Rattle.responses.proofs.Lending.{lent_9, lent_26, lent-wrote}
use Rattle.responses.proofs.Packets.{shares-tested, shares_passed}
use Rattle.responses.proofs.Packets.{shares-packet, shares-length, put-shares-after}
use Rattle.responses.proofs.shares.write_signature_share_response.Goals as goal

pub returns-in_err-limits : goal.returns-in_err-limits
unfolding write_signature_share_response lists_agree
returns-in_err-limits c =
    let a = c.args in
    let p = err_from_is_err_and c.from_residual.result c.from_residual.ensures.1 in
    rw (p.1, p.2, c.in_err-limits.ensures.0)
    (lent_9 _ _ _
    (shares-tested a.share_ids.now a.z_i.now a.key_counts.now a.key_ids.now a.head ∙ sym c.are_shares_within.ensures ∙ c.in_err-limits.ensures.1))

pub returns-in_err-room : goal.returns-in_err-room
unfolding write_signature_share_response lists_agree
returns-in_err-room c =
    let a = c.args in
    let asked = sym c.are_shares_within.ensures ∙ c.in_ok-limits.ensures in
    let few = shares_passed a.share_ids.now a.z_i.now a.key_counts.now a.key_ids.now asked in
    let p = err_from_is_err_and c.from_residual-in_err-room.result c.from_residual-in_err-room.ensures.1 in
    rw (p.1, p.2, c.in_err-room.ensures.0)
    (lent_26 _ _ _ (shares-tested a.share_ids.now a.z_i.now a.key_counts.now a.key_ids.now a.head ∙ asked) _ (shares-length _ _ _ _ few.agree _)
    c.in_err-room.ensures.1)

pub put_share_pairs-requires : goal.put_share_pairs-requires
unfolding lists_agree
put_share_pairs-requires c =
    let a = c.args in
    let few = shares_passed a.share_ids.now a.z_i.now a.key_counts.now a.key_ids.now (sym c.are_shares_within.ensures ∙ c.in_ok-limits.ensures) in
    let f = few.agree in
    (omega arith, omega arith, omega arith, omega arith)

pub put_shares-requires : goal.put_shares-requires
unfolding lists_agree
put_shares-requires c =
    let a = c.args in
    let few = shares_passed a.share_ids.now a.z_i.now a.key_counts.now a.key_ids.now (sym c.are_shares_within.ensures ∙ c.in_ok-limits.ensures) in
    (omega arith, few.shares_few, few.keys_few, agreeing _ _ _ _ few.agree)

pub returns : goal.returns
unfolding write_signature_share_response lists_agree
returns c =
    let a = c.args in
    let asked = sym c.are_shares_within.ensures ∙ c.in_ok-limits.ensures in
    let few = shares_passed a.share_ids.now a.z_i.now a.key_counts.now a.key_ids.now asked in
    lent-wrote _ _ _ (shares-tested a.share_ids.now a.z_i.now a.key_counts.now a.key_ids.now a.head ∙ asked) _ (shares-length _ _ _ _ few.agree _)
    c.in_ok-room.ensures _
    (rw (c.put_shares.ensures, c.put_share_pairs.ensures, c.put_header.ensures, c.header.ensures, shares-packet _ _ _ _ few.agree _)
    (put-shares-after _ _ _ _ few.agree _ _))
