-- "The questions, in order. A number is given where the answer is no, and only there." Each question of a commissioned coordinator is a
-- definition of its own; 1 to 3 stand with the configuration, 8 and 9 with the layout.
use Rattle.std.specs.Prelude.{Option, Some, None, ℕ, ◌-◌, Bool, true, false, cond, not, ◌&&◌, ◌||◌, List, eqb, ltb, leb, length}
use Rattle.wire.specs.Bytes.{every}
use Rattle.layout.specs.Limits.{message_limit, signer_limit, record_limit, store_length, answer_length}
use Rattle.layout.specs.Types.{signer_kind}
use Rattle.layout.specs.declared.SignatureType.{SignatureType}
use Rattle.layout.specs.Messages.{NonceResponse, Message}
use Rattle.layout.specs.Encode.{header}
use Rattle.state_table.specs.declared.State.TheVariants.{NonceRequest}
use Rattle.state_table.specs.States.{position}
use Rattle.state_table.specs.Moves.{can_move_to}
use Rattle.validity.specs.Keys.{member, same_set}
use Rattle.validity.specs.Nonces.{nonces_valid}
use Rattle.step_definition.specs.Lists.{is_some}
use Rattle.step_definition.specs.Configuration.{Config, keys_in, configured, key_set_of}
use Rattle.step_definition.specs.Coordinator.{Coordinator, record_of, current_record}
use Rattle.step_definition.specs.Phases.{phase_of, is_idle}
use Rattle.step_definition.specs.Calls.{Operation, set_key, take_results, can_move, start_signing, receive, process_timeout, aggregated}
use Rattle.step_definition.specs.Calls.{reset, tell_arrivals, Call}

-- "lent store of 52,224 bytes or more (4)?" The rest of 4, "state commissioned, its counts within these limits", is a case of Held
unfoldable pub question4 : ℕ → Bool
question4 store = leb store_length store

-- "no job out (5)?", and of the aggregator's answer "job out (6)?"
unfoldable pub question5 : Coordinator → Bool
question5 c = not c.job

unfoldable pub question6 : Coordinator → Bool
question6 c = c.job

-- "answer buffer of at least 19,232 bytes (7)?"
unfoldable pub question7 : ℕ → Bool
question7 room = leb answer_length room

-- which of 5, 6 and 7 a call is asked: "Any call but reset and the aggregator's answer: no job out (5)? Aggregator's answer: job out (6)?
-- Start, `process`, `process_timeout`, `process_message`: answer buffer of at least 19,232 bytes (7)?" The query of arrivals
-- "passes the checks 4, 5 and 7" (02, e)
pub record Asks : Type 0 where
  pub no_job : Bool
  pub a_job : Bool
  pub room : Bool

abbrev pub asking : Bool → Bool → Bool → Asks
asking no_job a_job room = record { no_job = no_job; a_job = a_job; room = room }

unfoldable pub asks : Operation → Asks
asks (set_key which held) = asking true false false
asks (take_results dkg ended) = asking true false false
asks (can_move p) = asking true false false
asks (start_signing s) = asking true false true
asks (receive entry bytes) = asking true false true
asks process_timeout = asking true false true
asks (aggregated ok) = asking false true false
asks reset = asking false false false
asks tell_arrivals = asking true false true

-- what every call on a coordinator is asked before its own work: 4, then 5, 6 and 7 where they are asked; the number of the first that is
-- answered no
unfoldable pub before : Call → Operation → Coordinator → Option ℕ
before k o c =
    cond (question4 k.store)
    (cond (not (asks o).no_job || question5 c)
    (cond (not (asks o).a_job || question6 c)
    (cond (not (asks o).room || question7 k.room) None (Some 7))
    (Some 6))
    (Some 5))
    (Some 4)

-- 9 of a start: "message ≤ 256 bytes"
unfoldable pub question9 : List ℕ → Bool
question9 message = leb (length message) message_limit

-- "group key held (10)?"
unfoldable pub question10 : Coordinator → Bool
question10 c = c.standing.keys.aggregate_public_key

-- "Move allowed (11)?"
unfoldable pub question11 : Coordinator → SignatureType → List ℕ → Bool
question11 c t root = can_move_to c.position (position (NonceRequest t) root)

-- "A timeout fires only where elapsed > timeout; None never fires"; "backward counts as elapsed 0"
unfoldable pub fires : ℕ → Option ℕ → Option ℕ → Bool
fires now None timeout = false
fires now (Some start) None = false
fires now (Some start) (Some timeout) = ltb timeout (now - start)

-- "record for the current message (12)?"
unfoldable pub question12 : Coordinator → Bool
question12 c = is_some (current_record c)

-- "coordinator key held (13)?"
unfoldable pub question13 : Coordinator → Bool
question13 c = c.standing.keys.coordinator_public_key

-- "Signer configured, for signer kinds, and host verdict good (14)?"
unfoldable pub question14 : Config → Message → Bool → Bool
question14 g m verdict = (not (signer_kind (header m).kind) || configured g (header m).signer_id) && verdict

-- "DkgBegin only with the current dkg id (15)?"
unfoldable pub question15 : Coordinator → ℕ → Bool
question15 c dkg = eqb dkg c.ids.dkg_id

-- 16 to 18 are asked of a response's ids: `eqb got expected`

-- "silently nothing unless, in this order: configured, key generation ended, key set entry, set equal, nonces valid, not struck"
unfoldable pub admitted : Config → List ℕ → List ℕ → NonceResponse → Bool
admitted g ended malicious q =
    configured g q.signer_id
    && member q.signer_id ended
    && is_some (key_set_of g q.signer_id)
    && same_set q.key_ids (keys_in (key_set_of g q.signer_id))
    && nonces_valid q.nonces
    && not (member q.signer_id malicious)

-- "Message known or under 4 recorded (19)?"
unfoldable pub question19 : Coordinator → NonceResponse → Bool
question19 c q = is_some (record_of q.message c.round.message_nonces) || ltb (length c.round.message_nonces) record_limit

-- "public key (20)?"
unfoldable pub question20 : Coordinator → ℕ → Bool
question20 c id = configured c.standing.config id

-- "key set entry (21)?"
unfoldable pub question21 : Coordinator → ℕ → Bool
question21 c id = is_some (key_set_of c.standing.config id)

-- "Set equal (22)?"
unfoldable pub question22 : Coordinator → ℕ → List ℕ → Bool
question22 c id keys = same_set keys (keys_in (key_set_of c.standing.config id))

-- "state Idle (24)?"
unfoldable pub question24 : Coordinator → Bool
question24 c = is_idle (phase_of c.position.state)

-- "At most 10 ids, repeats counted, all configured (25)?"
unfoldable pub question25 : Coordinator → List ℕ → Bool
question25 c ended = leb (length ended) signer_limit && every (configured c.standing.config) ended
