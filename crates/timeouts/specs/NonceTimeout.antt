-- A nonce timeout at the level of struct and store. Both stay.
use Rattle.std.specs.Prelude.{ℕ, ◌≤◌, cond, List, ltb, take, get_or, Err, Ok}
use Rattle.layout.specs.Limits.{message_limit, signer_limit, record_limit, answer_length}
use Rattle.layout.specs.Encode.{encode_nonce_timeout}
use Rattle.step_definition.specs.Calls as A
use Rattle.state.specs.declared.fields.Coordinator.{Coordinator}
use Rattle.state.specs.View.{no_row}
use Rattle.state.specs.Turns.{Turn, turn, unless}
use Rattle.state.specs.Passed.{Passed}
use Rattle.records.specs.Records.{record_place}
use Rattle.timeouts.specs.Named.{waiters_in, flagged_signers}

-- what 4 and 7 have found
pub record TimeoutReady (s : Coordinator) (room : ℕ) : Type 0 where
  pub signers : s.config.count ≤ signer_limit
  pub records : s.records.count ≤ record_limit
  pub message : s.message.len ≤ message_limit
  pub wide : answer_length ≤ room

unfoldable pub current_place : Coordinator → List ℕ → ℕ
current_place s store = record_place (take s.message.len s.message.bytes) s.records store

-- "no record for the current message" (12)
unfoldable pub record_asked : Coordinator → List ℕ → Passed
record_asked s store = cond (ltb (current_place s store) s.records.count) (Ok tt) (Err 12)

unfoldable pub nonce_timeout_bytes : Coordinator → List ℕ → List ℕ
nonce_timeout_bytes s store =
    encode_nonce_timeout (waiters_in s.config (get_or s.records.rows (current_place s store) no_row))
    (flagged_signers s.config s.marks.malicious)

unfoldable pub nonce_timeout_turn : Coordinator → List ℕ → Turn
nonce_timeout_turn s store = unless (record_asked s store) s store (turn (A.sending A.result (nonce_timeout_bytes s store)) s store)
