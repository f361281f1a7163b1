-- `put_responses`: what is still to be written completes the nested packets.
-- Assumes nothing.
use Prim.Native.Nat.{ℕ, ◌+◌, ◌≤◌, ◌<◌}
use mathlib.Core.Path.{◌≡◌, sym, ap, ◌∙◌}
use mathlib.Core.List.{List, [], ◌∷◌, ◌++◌, map}
use mathlib.Core.Bool.{true}
use native.Mathlib.Omega.{arith}
use lib.ListN.{length, get_or, take, drop, drop_of_length-le}
use Rattle.wire.specs.Bytes.{Bytes, put, joined}
use Rattle.wire.proofs.Buffer.{put_next}
use Rattle.layout.specs.Encode.{encode_response}
use Rattle.pieces.specs.declared.places.ResponsePlace.{ResponsePlace}
use Rattle.framing.specs.Writing.{lent_after, total}
use Rattle.pieces.specs.Places.{response_length, response_holds, response_at}
use Rattle.framing.proofs.Laws.{put_lent}
use Rattle.pieces.proofs.Given.{drop_next, map_next, response_held, response-few, live_held, live_short, length_at}
use Rattle.requests.proofs.put_responses.Goals as goal

-- the response at i, then those after it
next :
    (source out after : List ℕ) (start len : ℕ) (live : List ResponsePlace) (i : ℕ) (d : ResponsePlace)
    → Bytes source → response_holds (length source) (get_or live i d) ≡ true → i < length live
    → start + total (map response_length (drop i live)) ≤ length out
    → after ≡ take start out ++ lent_after (encode_response (response_at source (get_or live i d))) (drop start out)
    → len ≡ response_length (get_or live i d)
    → put after (start + len) (joined (map encode_response (map (response_at source) (drop (i + 1) live))))
    ≡ put out start (joined (map encode_response (map (response_at source) (drop i live))))
unfolding total
next source out after start len live i d b held l room w e =
    let place = get_or live i d in
    let bytes = encode_response (response_at source place) in
    let rest : drop i live ≡ place ∷ drop (i + 1) live = drop_next live i d l in
    let size : length bytes ≡ len = length_at source b place (response_held _ place held) ∙ sym e in
    rw (w, put_lent out start bytes (omega (arith, rw rest at room)), rest)
    (put_next out start bytes (start + len) _ (ap (λ (n : ℕ). start + n) size))

pub write_nested-requires : goal.write_nested-requires
write_nested-requires c =
    let short = live_short _ _ c.requires.2 _ c.live-place-items.ensures in (
      omega arith,
      live_held _ _ c.requires.2 _ c.live-place-items.ensures _ _ c.loop-place-test.true,
    )

pub packet_length-start-requires : goal.packet_length-start-requires
packet_length-start-requires c =
    response-few _ _ (live_held _ c.args.ps.now c.requires.2 _ c.live-place-items.ensures _ _ c.loop-place-test.true)

pub overflow_add-start : goal.overflow_add-start
unfolding total
overflow_add-start c =
    let l = c.loop-place in
    let live = c.live-place-items in
    let lens = map_next response_length live.result.now l.place-index _ _ c.loop-place-test.true c.packet_length-start.ensures in
    let left = rw lens at l.invariant.0 in
    let short = live_short _ _ c.requires.2 _ live.ensures in
    omega arith

pub loop-place-preserved : goal.loop-place-preserved
unfolding total
loop-place-preserved c =
    let l = c.loop-place in
    let live = c.live-place-items in
    let lens = map_next response_length live.result.now l.place-index _ _ c.loop-place-test.true c.packet_length-start.ensures in
    let left = rw lens at l.invariant.0 in
    let held = live_held _ c.args.ps.now c.requires.2 _ live.ensures _ _ c.loop-place-test.true in
    let short = live_short _ _ c.requires.2 _ live.ensures in (
      omega arith,
      next c.args.source.now l.out _ l.start _ live.result.now l.place-index _ (λ k. (c.type_inv.source k).fits) held c.loop-place-test.true
          (omega arith) c.write_nested.ensures.1 c.packet_length-start.ensures ∙ l.invariant.1,
    )

-- nothing is left to write after the loop
pub returns : goal.returns
unfolding put
returns c =
    let l = c.loop-place in
    let none : drop l.place-index c.live-place-items.result.now ≡ [] =
    drop_of_length-le c.live-place-items.result.now {i = l.place-index} c.loop-place-test.false in
    rw (← c.live-place-items.ensures) (rw none at l.invariant.1)
