-- Each kind by its own return; a key-generation message has no limits.
-- Assumes nothing.
use Prim.Native.Nat.{ℕ, ◌-◌, ◌≤◌}
use mathlib.Core.Path.{◌≡◌, refl}
use mathlib.Core.Bool.{Bool, true, false, cond}
use native.Mathlib.Omega.{arith}
use borrow.Author.Tests.{le-leb, lt-leb, ne_eqb}
use lib.Dec.{eqb}
use lib.ListN.{length-map}
use Rattle.layout.specs.Messages.{dkg_begin, dkg_signer, dkg_coordinator}
use Rattle.layout.specs.Decode.{request_in, share_request_in, share_response_in, message_in, within}
use Rattle.layout.proofs.Headed.{length-parts_from}
use Rattle.packet.proofs.Laws.{nested_within}
use Rattle.packet.proofs.reader.is_within.Goals as goal

-- key-generation messages have no limits
dkg_within : (a b d : Bool) (m n g : ℕ) → true ≡ within (cond a (dkg_begin n) (cond b (dkg_signer g n) (cond d (dkg_coordinator n) (dkg_coordinator m))))
unfolding within
dkg_within true b d m n g = refl
dkg_within false true d m n g = refl
dkg_within false false true m n g = refl
dkg_within false false false m n g = refl

pub returns-in-1 : goal.returns-in-1
unfolding within message_in request_in
returns-in-1 c = rw (← c.header-h.ensures, c.in-1.is) c.is_message_within.ensures

pub returns-in-2 : goal.returns-in-2
unfolding within message_in
returns-in-2 c = rw (← c.header-h.ensures, c.in-2.is) c.is_response_within.ensures

pub returns-in-3 : goal.returns-in-3
unfolding within message_in share_request_in
returns-in-3 c = let h = c.header-h.result in
    rw (← c.header-h.ensures, c.in-3.is, length-map, length-parts_from, nested_within c.args.s.now (h.pairs - 2)) c.is_share_request_within.ensures

pub returns-then-h-le-LIST_LIMIT : goal.returns-then-h-le-LIST_LIMIT
unfolding within message_in share_response_in
returns-then-h-le-LIST_LIMIT c = let h = c.header-h in
    rw (← h.ensures, c.in-4.is, length-map, length-parts_from, le-leb h.result.pairs 16 c.if-h-le-LIST_LIMIT.true) c.are_share_keys_within.ensures

pub returns-else-h-le-LIST_LIMIT : goal.returns-else-h-le-LIST_LIMIT
unfolding within message_in share_response_in
returns-else-h-le-LIST_LIMIT c = let h = c.header-h in
    rw (← h.ensures, c.in-4.is, length-map, length-parts_from, lt-leb h.result.pairs 16 c.if-h-le-LIST_LIMIT.false)

pub returns-in_default : goal.returns-in_default
unfolding message_in
returns-in_default c = let h = c.header-h.result in
    let not : (i : ℕ) → 1 ≤ i → i ≤ 4 → eqb h.kind i ≡ false = λ i a b. ne_eqb h.kind i (λ q. omega arith) in
    rw (← c.header-h.ensures, not 1 (omega arith) (omega arith), not 2 (omega arith) (omega arith), not 3 (omega arith) (omega arith), not 4 (omega arith) (omega arith))
    (dkg_within (eqb h.kind 5) (eqb h.kind 6) (eqb h.kind 7) 0 h.ids.dkg_id h.signer_id)
