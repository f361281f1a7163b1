-- Timeouts. What one that yields a packet, a result or an error answers; none where it yields nothing.
use Rattle.std.specs.Prelude.{Option, Some, None, ℕ, ◌-◌, cond, List, [], ◌∷◌, ltb}
use Rattle.layout.specs.declared.SignatureType.{SignatureType}
use Rattle.layout.specs.Encode.{encode_nonce_timeout, encode_insufficient_signers}
use Rattle.step_definition.specs.Ids.{insert_all, without}
use Rattle.step_definition.specs.Configuration.{num_key_ids}
use Rattle.step_definition.specs.Coordinator.{Coordinator, commissioned, waiters_of, current_record, with_malicious}
use Rattle.step_definition.specs.Calls.{result, newly_malicious, requested, retried, Outcome, outcome, sending, failing}
use Rattle.step_definition.specs.Effects.{request_nonces, nonce_request_of}
use Rattle.step_definition.specs.Phases.{Phase, idling, gathering_nonces, gathering_shares, resting, phase_of}
use Rattle.step_definition.specs.Questions.{question12, fires}
use Rattle.step_definition.specs.Starts.{ask, sends_nonce_request}

-- "Nonce timeout with no record for the current message is MissingMessageNonceInfo, else NonceTimeout with that record's waiters and the
-- struck. The state stays."
unfoldable pub nonce_timeout : Coordinator → Outcome
nonce_timeout c =
    ask (question12 c) (failing 12 [] c)
    (outcome (sending result (encode_nonce_timeout (waiters_of (current_record c)) c.standing.malicious_signer_ids)) [] (commissioned c))

-- "Share timeout strikes every waiter."
abbrev pub excluding : Coordinator → Coordinator
excluding c = with_malicious (insert_all (waiters_of (current_record c)) c.standing.malicious_signer_ids) c

-- "Then num_keys − struck keys < `threshold` is InsufficientSigners, state kept, strikes kept; equality retries."
unfoldable pub share_timeout : ℕ → SignatureType → List ℕ → Coordinator → Outcome
share_timeout now t root c =
    let g = c.standing.config in
    let excluded = excluding c in
    let malicious = excluded.standing.malicious_signer_ids in
    let new = without (waiters_of (current_record c)) c.standing.malicious_signer_ids in
    let after = request_nonces now t root excluded in
    ask (question12 c) (failing 12 [] c)
    (cond (ltb (g.num_keys - num_key_ids g malicious) g.threshold)
    (outcome (sending result (encode_insufficient_signers malicious)) (newly_malicious new ∷ []) (commissioned excluded))
    (sends_nonce_request t root after (newly_malicious new ∷ (requested (nonce_request_of t root after) ∷ (retried ∷ [])))))

unfoldable pub timeout_in : ℕ → Phase → Coordinator → Option Outcome
timeout_in now idling c = None
timeout_in now (gathering_nonces t) c =
    cond (fires now c.round.clocks.nonce_start c.standing.config.timeouts.nonce) (Some (nonce_timeout c)) None
timeout_in now (gathering_shares t) c =
    cond (fires now c.round.clocks.sign_start c.standing.config.timeouts.sign)
    (Some (share_timeout now t c.position.root c)) None
timeout_in now resting c = None

abbrev pub timeout : ℕ → Coordinator → Option Outcome
timeout now c = timeout_in now (phase_of c.position.state) c
