-- NonceGather, on a response. First a verdict, which changes nothing; then its effect.
use Rattle.std.specs.Prelude.{ℕ, cond, List, [], ◌∷◌, eqb, leb, length}
use Rattle.layout.specs.declared.SignatureType.{SignatureType}
use Rattle.layout.specs.Messages.{NonceResponse, signature_share_request}
use Rattle.layout.specs.Encode.{encode}
use Rattle.step_definition.specs.Coordinator.{Coordinator, commissioned, record_of, responses_of, responded, with_message}
use Rattle.step_definition.specs.Calls.{packet, error, recorded, share_requested, Outcome, outcome, plain, refusing, sending, quiet, failing}
use Rattle.step_definition.specs.Effects.{recording, recv_key_ids, request_shares, share_request_of}
use Rattle.step_definition.specs.Questions.{question10, admitted, question19}

-- an id that isn't current, with its number, got and expected; nothing; no room for another message; to be recorded
pub data NonceVerdict : Type 0 where
  wrong_id : ℕ → ℕ → ℕ → NonceVerdict
  ignored : NonceVerdict
  no_room : NonceVerdict
  records : NonceVerdict

-- "dkg id (16), sign id (17), iteration (18) current? Then silently nothing unless ... Message known or under 4 recorded (19)? A second
-- response to one message does nothing."
unfoldable pub nonce_verdict : NonceResponse → Coordinator → NonceVerdict
nonce_verdict q c =
    let got = q.ids in
    let current = c.ids in
    cond (eqb got.dkg_id current.dkg_id)
    (cond (eqb got.sign_id current.sign_id)
    (cond (eqb got.sign_iter_id current.sign_iter_id)
    (cond (admitted c.standing.config c.standing.dkg_end_messages c.standing.malicious_signer_ids q)
    (cond (question19 c q)
    (cond (responded q.signer_id (responses_of (record_of q.message c.round.message_nonces))) ignored records)
    no_room)
    ignored)
    (wrong_id 18 got.sign_iter_id current.sign_iter_id))
    (wrong_id 17 got.sign_id current.sign_id))
    (wrong_id 16 got.dkg_id current.dkg_id)

-- the responses to the message of a response
abbrev pub alike : NonceResponse → Coordinator → List NonceResponse
alike q c = responses_of (record_of q.message c.round.message_nonces)

-- once a response is recorded: its message's keys are too few; they suffice and no group key is held; they suffice
pub data RecordVerdict : Type 0 where
  too_few : RecordVerdict
  no_group_key : RecordVerdict
  suffices : RecordVerdict

-- "Threshold reached: group key held (10)?"
unfoldable pub record_verdict : NonceResponse → Coordinator → RecordVerdict
record_verdict q c =
    let g = c.standing.config in
    cond (leb g.sign_threshold (length (recv_key_ids g (alike q c)))) (cond (question10 c) suffices no_group_key) too_few

-- what recording comes to. "The answered message replaces the current one when its keys suffice"
unfoldable pub on_record : ℕ → SignatureType → List ℕ → NonceResponse → Coordinator → RecordVerdict → Outcome
on_record now t root q c too_few = outcome plain (recorded q.signer_id ∷ []) (commissioned c)
on_record now t root q c no_group_key =
    outcome (refusing error 10 []) (recorded q.signer_id ∷ []) (commissioned (with_message q.message c))
on_record now t root q c suffices =
    let after = request_shares now t root (with_message q.message c) in
    let request = share_request_of t root (alike q c) after in
    outcome (sending packet (encode (signature_share_request request)))
    (recorded q.signer_id ∷ (share_requested request ∷ []))
    (commissioned after)

abbrev pub record_response : ℕ → SignatureType → List ℕ → NonceResponse → Coordinator → Outcome
record_response now t root q c = on_record now t root q (recording now q c) (record_verdict q (recording now q c))

unfoldable pub on_nonces : ℕ → SignatureType → List ℕ → NonceResponse → Coordinator → NonceVerdict → Outcome
on_nonces now t root q c (wrong_id n got expected) = failing n (got ∷ (expected ∷ [])) c
on_nonces now t root q c ignored = quiet c
on_nonces now t root q c no_room = failing 19 [] c
on_nonces now t root q c records = record_response now t root q c

abbrev pub gather_nonces : ℕ → SignatureType → List ℕ → NonceResponse → Coordinator → Outcome
gather_nonces now t root q c = on_nonces now t root q c (nonce_verdict q c)
