-- NonceGather on a response, at the level of struct and store.
use Rattle.std.specs.Prelude.{ℕ, ◌*◌, ◌/◌, ◌<◌, ◌≤◌, ◌≡◌, true, cond, List, [], ◌∷◌, leb, length, get_or}
use Rattle.layout.specs.Limits.{message_limit, store_length, answer_length}
use Rattle.layout.specs.declared.Ids.{Ids}
use Rattle.layout.specs.declared.SignatureType.{SignatureType}
use Rattle.layout.specs.Messages.{NonceResponse}
use Rattle.step_definition.specs.Calls as A
use Rattle.step_definition.specs.Effects.{recv_key_ids}
use Rattle.state.specs.declared.fields.Coordinator.{Coordinator}
use Rattle.state.specs.Counts.{is_within_limits}
use Rattle.state.specs.View.{slots_of, config_of, row_of, no_row, key_bytes, nonce_bytes}
use Rattle.state.specs.Setters.{set_records}
use Rattle.state.specs.Turns.{Turn, turn, error_turn}
use Rattle.records.specs.declared.verdicts.Verdict.{Verdict}
use Rattle.records.specs.declared.verdicts.Verdict.TheVariants.{Wrong, Full, Nothing, Record}
use Rattle.records.specs.Records.{record_place, added_records, added_store}
use Rattle.records.specs.Verdicts.{verdict_of}
use Rattle.share_request.specs.Asking.{with_current, share_request_turn}

-- the responses to a message, and how many different keys their signers have
unfoldable pub alike_in : List ℕ → Coordinator → List ℕ → List NonceResponse
alike_in m s store =
    let r = record_place m s.records store in
    (row_of (slots_of s.config) store r (get_or s.records.rows r no_row)).public_nonces

abbrev pub received_keys : List ℕ → Coordinator → List ℕ → ℕ
received_keys m s store = length (recv_key_ids (config_of s.config) (alike_in m s store))

-- what 4, 7, 8 and 9 have found of struct, store, response and buffer
pub record NoncesGathering (s : Coordinator) (store m keys nonces : List ℕ) (room : ℕ) : Type 0 where
  pub within : is_within_limits s ≡ true
  pub stored : store_length ≤ length store
  pub short : length m ≤ message_limit
  pub whole_keys : length keys / 4 * 4 ≡ length keys
  pub whole_nonces : length nonces / 66 * 66 ≡ length nonces
  pub few_keys : length keys ≤ key_bytes
  pub few_nonces : length nonces ≤ nonce_bytes
  pub wide : answer_length ≤ room

-- what is known once a response to the message has been recorded
pub record ResponseRecorded (s : Coordinator) (store m : List ℕ) (room : ℕ) : Type 0 where
  pub within : is_within_limits s ≡ true
  pub known : record_place m s.records store < s.records.count
  pub stored : store_length ≤ length store
  pub short : length m ≤ message_limit
  pub wide : answer_length ≤ room

-- the signer's response is recorded: its message's keys are too few; they suffice and no group key is held (10); they suffice
unfoldable pub record_turn : ℕ → SignatureType → ℕ → List ℕ → Coordinator → List ℕ → Turn
record_turn clock t id m s store =
    cond (leb s.config.sign_threshold (received_keys m s store))
    (cond s.keys.aggregate
    (share_request_turn clock t id m (record_place m s.records store) s store)
    (record { answer = A.refusing A.error 10 []; events = A.recorded id ∷ []; after = with_current m s; store = store }))
    (record { answer = A.plain; events = A.recorded id ∷ []; after = s; store = store })

-- the response on record r, in slot i; then the same
unfoldable pub recorded_turn : ℕ → SignatureType → ℕ → ℕ → Ids → ℕ → List ℕ → List ℕ → List ℕ → Coordinator → List ℕ → Turn
recorded_turn clock t r i ids id m keys nonces s store =
    record_turn clock t id m (set_records (added_records clock r i ids m keys nonces s.records) s)
    (added_store r i m keys nonces s.records store)

unfoldable pub verdict_turn : ℕ → SignatureType → Ids → ℕ → List ℕ → List ℕ → List ℕ → Coordinator → List ℕ → Verdict → Turn
verdict_turn clock t ids id m keys nonces s store (Wrong n got expected) = turn (A.refusing A.error n (got ∷ (expected ∷ []))) s store
verdict_turn clock t ids id m keys nonces s store Full = error_turn 19 s store
verdict_turn clock t ids id m keys nonces s store Nothing = turn A.plain s store
verdict_turn clock t ids id m keys nonces s store (Record r i) = recorded_turn clock t r i ids id m keys nonces s store

unfoldable pub gather_turn : ℕ → SignatureType → Ids → ℕ → List ℕ → List ℕ → List ℕ → Coordinator → List ℕ → Turn
gather_turn clock t ids id m keys nonces s store =
    verdict_turn clock t ids id m keys nonces s store (verdict_of s ids id store m keys nonces)
