-- `write_nonce_response`: 9, 26, then the frame and three parts.
-- Assumes nothing.
use mathlib.Core.Path.{sym, ◌∙◌}
use native.Mathlib.Omega.{arith}
use Rattle.std.proofs.lemmas.Result.{err_from_is_err_and}
use Rattle.responses.specs.Responses.{write_nonce_response}
use Rattle.responses.proofs.Lending.{lent_9, lent_26, lent-wrote}
use Rattle.responses.proofs.Packets.{nonces-tested, nonces_passed, nonces_fit}
use Rattle.responses.proofs.Packets.{nonces-packet, nonces-length, put-nonces}
use Rattle.responses.proofs.nonces.write_nonce_response.Goals as goal

pub returns-in_err-limits : goal.returns-in_err-limits
unfolding write_nonce_response
returns-in_err-limits c =
    let p = err_from_is_err_and c.from_residual.result c.from_residual.ensures.1 in
    rw (p.1, p.2, c.in_err-limits.ensures.0)
    (lent_9 _ _ _ (nonces-tested _ _ _ _ ∙ sym c.are_nonces_within.ensures ∙ c.in_err-limits.ensures.1))

pub overflow_mul-keys_len : goal.overflow_mul-keys_len
overflow_mul-keys_len c =
    omega (arith, nonces_passed c.args.message.now _ c.args.nonces.now (sym c.are_nonces_within.ensures ∙ c.in_ok-limits.ensures))

pub overflow_add-keys_at : goal.overflow_add-keys_at
overflow_add-keys_at c =
    omega (arith, nonces_passed _ c.args.key_ids.now c.args.nonces.now (sym c.are_nonces_within.ensures ∙ c.in_ok-limits.ensures))

pub overflow_add-nonces_at : goal.overflow_add-nonces_at
overflow_add-nonces_at c =
    omega (arith, nonces_passed _ c.args.key_ids.now c.args.nonces.now (sym c.are_nonces_within.ensures ∙ c.in_ok-limits.ensures))

pub overflow_add-end : goal.overflow_add-end
overflow_add-end c =
    let few = nonces_passed c.args.message.now c.args.key_ids.now c.args.nonces.now (sym c.are_nonces_within.ensures ∙ c.in_ok-limits.ensures) in
    omega (arith, nonces_fit _ _ _ few)

pub returns-in_err-room : goal.returns-in_err-room
unfolding write_nonce_response
returns-in_err-room c =
    let asked = sym c.are_nonces_within.ensures ∙ c.in_ok-limits.ensures in
    let few = nonces_passed c.args.message.now c.args.key_ids.now c.args.nonces.now asked in
    let p = err_from_is_err_and c.from_residual-in_err-room.result c.from_residual-in_err-room.ensures.1 in
    rw (p.1, p.2, c.in_err-room.ensures.0)
    (lent_26 _ _ _ (nonces-tested _ _ _ _ ∙ asked) _ (nonces-length _ _ _ _ (λ i. (c.type_inv.nonces i).fits) few.nonces_whole) c.in_err-room.ensures.1)

pub put_response_frame-requires : goal.put_response_frame-requires
put_response_frame-requires c =
    let few = nonces_passed c.args.message.now c.args.key_ids.now c.args.nonces.now (sym c.are_nonces_within.ensures ∙ c.in_ok-limits.ensures) in
    let fit = nonces_fit _ _ _ few in
    (omega arith, omega arith, omega arith)

pub returns : goal.returns
unfolding write_nonce_response
returns c =
    let asked = sym c.are_nonces_within.ensures ∙ c.in_ok-limits.ensures in
    let few = nonces_passed c.args.message.now c.args.key_ids.now c.args.nonces.now asked in
    lent-wrote _ _ _ (nonces-tested _ _ _ _ ∙ asked) _ (nonces-length _ _ _ _ (λ i. (c.type_inv.nonces i).fits) few.nonces_whole) c.in_ok-room.ensures _
    (rw (
      c.copy-2.ensures,
      c.put_ids.ensures,
      c.copy.ensures,
      c.put_response_frame.ensures,
      nonces-packet _ _ _ _ (λ i. (c.type_inv.nonces i).fits) few.nonces_whole,
    )
    (put-nonces _ _ _ _ _))
