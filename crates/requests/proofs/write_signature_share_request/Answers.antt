-- `write_signature_share_request`: message, root and the nested packets, whose lengths the places give.
-- Assumes nothing.
use Prim.Native.Nat.{◌+◌, ◌*◌, ◌≤◌}
use mathlib.Core.Path.{◌≡◌, sym, ◌∙◌}
use mathlib.Core.Bool.{true}
use mathlib.Core.List.{map}
use native.Mathlib.Omega.{arith}
use lib.ListN.{length, length-map}
use borrow.Author.Tests.{leb-true}
use Rattle.wire.proofs.Lists.{and_both}
use Rattle.layout.specs.Encode.{encode_response, encode, header, parts}
use Rattle.body.specs.Body.{root_of}
use Rattle.pieces.specs.Places.{response_at, response_length, places_of, responses_hold}
use Rattle.requests.specs.Requests.{share_request_of, write_share_request}
use Rattle.framing.proofs.Laws.{refused_7, refused_9, wrote, put-request, length_request}
use Rattle.body.proofs.Roots.{length-root_of}
use Rattle.pieces.proofs.Given.{places_10, places_few, places_hold, places_short, length-places_of, lengths_at}
use Rattle.std.proofs.lemmas.Result.{err_from_is_err_and}
use Rattle.requests.proofs.write_signature_share_request.Goals as goal

pub returns-in_err-room : goal.returns-in_err-room
unfolding write_share_request
returns-in_err-room c =
    let p = err_from_is_err_and c.from_residual.result c.from_residual.ensures.1 in
    rw (p.1, p.2, c.in_err-room.ensures.0) (refused_7 _ _ _ c.in_err-room.ensures.1)

pub returns-in_err-limits : goal.returns-in_err-limits
unfolding write_share_request
returns-in_err-limits c =
    let p = err_from_is_err_and c.from_residual-in_err-limits.result c.from_residual-in_err-limits.ensures.1 in
    rw (p.1, p.2, c.in_err-limits.ensures.0)
    (refused_9 _ _ _ c.in_ok-room.ensures (rw c.in_err-limits.ensures.1))

pub returns-in_err-limits-2 : goal.returns-in_err-limits-2
unfolding write_share_request
returns-in_err-limits-2 c =
    let p = err_from_is_err_and c.from_residual-in_err-limits-2.result c.from_residual-in_err-limits-2.ensures.1 in
    rw (p.1, p.2, c.in_err-limits-2.ensures.0)
    (refused_9 _ _ _ c.in_ok-room.ensures (rw (c.in_ok-limits.ensures, ← c.are_held.ensures) c.in_err-limits-2.ensures.1))

pub overflow_cast-ps : goal.overflow_cast-ps
overflow_cast-ps c = omega (arith, places_few _ _ (sym c.are_held.ensures ∙ c.in_ok-limits-2.ensures))

pub put_request_frame-nested-requires : goal.put_request_frame-nested-requires
put_request_frame-nested-requires c =
    (places_few _ _ (sym c.are_held.ensures ∙ c.in_ok-limits-2.ensures), leb-true _ _ c.in_ok-limits.ensures)

pub put_response_pairs-end-requires : goal.put_response_pairs-end-requires
put_response_pairs-end-requires c =
    let ok = sym c.are_held.ensures ∙ c.in_ok-limits-2.ensures in
    let frame = c.put_request_frame-nested.ensures in (
      omega arith,
      omega (arith, places_few _ _ ok, frame.1, length-root_of c.args.head, leb-true _ _ c.in_ok-limits.ensures),
      (length c.args.source.now, ok),
    )

pub overflow_mul-ps : goal.overflow_mul-ps
overflow_mul-ps c = omega (arith, places_few _ _ (sym c.are_held.ensures ∙ c.in_ok-limits-2.ensures))

pub put_body-requires : goal.put_body-requires
put_body-requires c =
    (omega (arith, places_few _ _ (sym c.are_held.ensures ∙ c.in_ok-limits-2.ensures)), leb-true _ _ c.in_ok-limits.ensures)

pub put_responses-requires : goal.put_responses-requires
put_responses-requires c =
    let ok = sym c.are_held.ensures ∙ c.in_ok-limits-2.ensures in (
      omega (arith, places_few _ _ ok, c.put_request_frame-nested.ensures.1, length-root_of c.args.head, leb-true _ _ c.in_ok-limits.ensures),
      omega (arith, c.in_ok-room.ensures, c.put_body.auto.out, c.put_response_pairs-end.auto.out, c.put_request_frame-nested.auto.out),
      ok,
    )

pub returns : goal.returns
unfolding write_share_request share_request_of encode header parts
returns c =
    let a = c.args in
    let ok : responses_hold (length a.source.now) a.ps ≡ true = sym c.are_held.ensures ∙ c.in_ok-limits-2.ensures in
    let message = a.message.now in
    let source = a.source.now in
    let root = root_of a.head in
    let ps = places_of a.ps in
    let rs = map encode_response (map (response_at source) ps) in
    let pairs = c.put_response_pairs-end.ensures in
    let frame = c.put_request_frame-nested.ensures in
    let few : a.ps.count ≤ 10 = places_few _ a.ps ok in
    let ten : length a.ps.places ≡ 10 = places_10 a.ps _ c.well_formed.1.1.1.1.0 in
    let live : length ps ≡ a.ps.count = length-places_of a.ps (omega arith) in
    let n : length (map (response_at source) ps) ≡ a.ps.count = rw length-map live in
    let at : 48 + 8 * a.ps.count ≡ 48 + 8 * length rs = rw (length-map, n) in
    let lens : map length rs ≡ map response_length ps =
    lengths_at source (λ i. (c.type_inv.source i).fits) ps
    (places_hold _ a.ps ok) in
    let short = leb-true _ _ c.in_ok-limits.ensures in
    wrote _ _ _ c.in_ok-room.ensures (and_both _ _ c.in_ok-limits.ensures ok) _ _
    (length_request _ message root rs (48 + 8 * a.ps.count) at
    ∙ rw lens (omega (arith, frame.1, pairs.0)))
    (omega (arith, frame.1, pairs.0, short, length-root_of a.head, places_short _ a.ps ok))
    (rw (c.put_responses.ensures, c.put_body.ensures, pairs.1, frame.2, frame.1, ← lens, n)
    (put-request _ message root rs _ at _))
