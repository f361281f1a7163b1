-- What leaves is what is answered: a nonce request is exactly an answer of kind 1, a share request exactly one of kind 3, each with its
-- bytes.
-- Assumes nothing.
use Prim.Native.Nat.{ℕ}
use native.Mathlib.Omega.{arith}
use mathlib.Core.Path.{◌≡◌, refl}
use Rattle.std.specs.Prelude.{Some}
use lib.ListN.{get_or}
use borrow.Author.Tests.{eqb-false}
use Rattle.wire.specs.Bytes.{le}
use Rattle.layout.specs.Messages.{NonceRequest, SignatureShareRequest, nonce_request, signature_share_request}
use Rattle.layout.specs.Encode.{header_bytes, header, packet as laid, encode}
use Rattle.step_definition.specs.Lists.{first}
use Rattle.step_definition.specs.Coordinator.{Held, commissioned, Coordinator}
use Rattle.step_definition.specs.Calls.{Call, packet, nonce_request_in, share_request_in, Outcome, sending}
use Rattle.step_definition.specs.Demand3.{Opens}
use Rattle.step_definition.specs.Step.{step}
use Rattle.step_definition.proofs.Leaves.{Leaf, silent, opens, asks_shares, leaf}

nonces-answered :
    {now : ℕ} {o : Outcome} (r : NonceRequest) → Leaf now o → nonce_request_in o.events ≡ Some r
    → o.answer ≡ sending packet (encode (nonce_request r))
unfolding first
nonces-answered r (silent n s a b) e = cc
nonces-answered r (opens w n s) e = cc
nonces-answered r asks_shares e = cc

shares-answered :
    {now : ℕ} {o : Outcome} (r : SignatureShareRequest) → Leaf now o → share_request_in o.events ≡ Some r
    → o.answer ≡ sending packet (encode (signature_share_request r))
unfolding first
shares-answered r (silent n s a b) e = cc
shares-answered r (opens w n s) e = cc
shares-answered r asks_shares e = cc

pub nonce_request-answer :
    (k : Call) (h : Held) (r : NonceRequest) → nonce_request_in (step k h).events ≡ Some r
    → (step k h).answer ≡ sending packet (encode (nonce_request r))
nonce_request-answer k h r e = nonces-answered r (leaf k h) e

pub share_request-answer :
    (k : Call) (h : Held) (r : SignatureShareRequest) → share_request_in (step k h).events ≡ Some r
    → (step k h).answer ≡ sending packet (encode (signature_share_request r))
share_request-answer k h r e = shares-answered r (leaf k h) e

-- an answer whose bytes begin with 1: the nonce request, and the coordinator that it leaves
record Opening (o : Outcome) : Type 0 where
  request : NonceRequest
  coordinator : Coordinator
  sends : nonce_request_in o.events ≡ Some request
  leaves : o.after ≡ commissioned coordinator

of_kind_1 : {now : ℕ} {o : Outcome} → Leaf now o → get_or o.answer.bytes 0 0 ≡ 1 → Opening o
unfolding encode header laid header_bytes le
of_kind_1 (silent n s a b) e = absurd (eqb-false _ 1 a e)
of_kind_1 (opens {r = r} {c = c} w n s) e = record { request = r; coordinator = c; sends = n; leaves = refl }
of_kind_1 asks_shares e = absurd (omega arith)

pub kind_1_answer : (k : Call) (h : Held) → get_or (step k h).answer.bytes 0 0 ≡ 1 → (r : NonceRequest) × (c : Coordinator) × Opens k h r c
kind_1_answer k h e = let o = of_kind_1 (leaf k h) e in (o.request, o.coordinator, record { sends = o.sends; leaves = o.leaves })

of_kind_3 :
    {now : ℕ} {o : Outcome} → Leaf now o → get_or o.answer.bytes 0 0 ≡ 3
    → (r : SignatureShareRequest) × (share_request_in o.events ≡ Some r)
unfolding first encode header laid header_bytes le
of_kind_3 (silent n s a b) e = absurd (eqb-false _ 3 b e)
of_kind_3 (opens w n s) e = absurd (omega arith)
of_kind_3 (asks_shares {r = r}) e = (r, refl)

pub kind_3_answer :
    (k : Call) (h : Held) → get_or (step k h).answer.bytes 0 0 ≡ 3
    → (r : SignatureShareRequest) × (share_request_in (step k h).events ≡ Some r)
kind_3_answer k h e = of_kind_3 (leaf k h) e
