-- Rounds begin: a start, and another coordinator's nonce request that comes in Idle.
use Rattle.std.specs.Prelude.{Some, ℕ, Bool, cond, List, [], ◌∷◌, eqb}
use Rattle.layout.specs.declared.SignatureType.{SignatureType}
use Rattle.layout.specs.Messages.{NonceRequest, nonce_request}
use Rattle.layout.specs.Encode.{encode}
use Rattle.step_definition.specs.Lists.{given}
use Rattle.step_definition.specs.Ids.{next, previous}
use Rattle.step_definition.specs.Coordinator.{Coordinator, commissioned, with_message, with_sign_id, with_iteration}
use Rattle.step_definition.specs.Calls.{Start, packet, Event, requested, Outcome, outcome, sending, quiet, failing}
use Rattle.step_definition.specs.Effects.{root_for, request_nonces, nonce_request_of}
use Rattle.step_definition.specs.Questions.{question10, question11}
use Rattle.step_definition.specs.Phases.{Content, a_nonce_request, a_nonce_response, a_share_response, a_dkg_begin, unheard}
use Rattle.step_definition.specs.Questions.{question15}

-- a question: where the answer is no, the refusal; else what follows
abbrev pub ask : Bool → Outcome → Outcome → Outcome
ask passed refusal rest = cond passed rest refusal

-- the nonce request of a coordinator that has asked, sent, with what happened before it and after it
abbrev pub sends_nonce_request : SignatureType → List ℕ → Coordinator → List Event → Outcome
sends_nonce_request t root c es = outcome (sending packet (encode (nonce_request (nonce_request_of t root c)))) es (commissioned c)

-- "`start_signing_round` stores message and sign id before the state check": no sign id is the next one, wrapping
abbrev pub naming : Start → Coordinator → Coordinator
naming s c = with_sign_id (given s.sign_id (λ (id : ℕ). id) (next c.ids.sign_id)) (with_message s.message c)

-- Start: "group key held (10)? Move allowed (11)?" 11 leaves message and sign id changed
unfoldable pub start_round : ℕ → Start → Coordinator → Outcome
start_round now s c =
    let t = s.signature_type in
    let root = root_for t s.root in
    let named = naming s c in
    let after = request_nonces now t root named in
    ask (question10 c) (failing 10 [] c)
    (ask (question11 named t root) (failing 11 [] named)
    (sends_nonce_request t root after (requested (nonce_request_of t root after) ∷ [])))

-- the start that a nonce request asks for
abbrev pub start_of : NonceRequest → Start
start_of r = record { message = r.message; signature_type = r.signature_type; root = r.root; sign_id = Some r.ids.sign_id }

-- Idle: "NonceRequest with a new sign id: group key held (10)?" "An Idle NonceRequest with the current sign id does nothing. Another sets
-- the iteration to its number minus 1, wrapping, and `request_nonces` adds 1, wrapping. Its dkg id is not compared."
unfoldable pub idle_request : ℕ → NonceRequest → Coordinator → Outcome
idle_request now r c =
    cond (eqb r.ids.sign_id c.ids.sign_id)
    (quiet c)
    (start_round now (start_of r) (with_iteration (previous r.ids.sign_iter_id) c))

-- Idle: "DkgBegin only with the current dkg id (15)?"
unfoldable pub idle : ℕ → Content → Coordinator → Outcome
idle now (a_nonce_request r) c = idle_request now r c
idle now (a_nonce_response q) c = quiet c
idle now (a_share_response r) c = quiet c
idle now (a_dkg_begin dkg) c = ask (question15 c dkg) (failing 15 [] c) (quiet c)
idle now unheard c = quiet c
