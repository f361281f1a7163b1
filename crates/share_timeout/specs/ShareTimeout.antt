-- A share timeout at the level of struct and store. The store stays.
use Rattle.std.specs.Prelude.{ℕ, ◌≤◌, ◌≡◌, true, cond, List, [], ◌∷◌, ◌++◌, map, get_or}
use Rattle.layout.specs.Limits.{answer_length}
use Rattle.layout.specs.declared.SignatureType.{SignatureType}
use Rattle.layout.specs.Encode.{encode_insufficient_signers}
use Rattle.step_definition.specs.Ids.{without}
use Rattle.step_definition.specs.Calls as A
use Rattle.state.specs.declared.fields.SignRoundInfo.{SignRoundInfo}
use Rattle.state.specs.declared.fields.Coordinator.{Coordinator}
use Rattle.state.specs.Counts.{is_within_limits}
use Rattle.state.specs.View.{no_row}
use Rattle.state.specs.Turns.{Turn, unless}
use Rattle.starts.specs.Starts.{request_turn}
use Rattle.signer_ids.specs.Flags.{is_waiting}
use Rattle.timeouts.specs.Named.{waiters_in, flagged_signers}
use Rattle.timeouts.specs.NonceTimeout.{current_place, record_asked}
use Rattle.share_timeout.specs.Exclusion.{excluded_in, too_few_keys}

-- what 4 and 7 have found
pub record Late (s : Coordinator) (room : ℕ) : Type 0 where
  pub within : is_within_limits s ≡ true
  pub wide : answer_length ≤ room

-- "InsufficientSigners, state kept, strikes kept": who is named, and who was not malicious before
unfoldable pub insufficient_turn : List ℕ → List ℕ → Coordinator → List ℕ → Turn
insufficient_turn named new s store =
    record {
      answer = A.sending A.result (encode_insufficient_signers named);
      events = A.newly_malicious new ∷ [];
      after = s;
      store = store;
    }

-- the nonces asked for again, with the root that is held
unfoldable pub retry_turn : ℕ → SignatureType → List ℕ → Coordinator → List ℕ → Turn
retry_turn clock t new s store =
    let sent = request_turn clock t s.position.root s store in
    record {
      answer = sent.answer;
      events = A.newly_malicious new ∷ (sent.events ++ (A.retried ∷ []));
      after = sent.after;
      store = sent.store;
    }

-- "Then num_keys − struck keys < `threshold` is InsufficientSigners ..; equality retries", of a struct whose waiters are malicious: all who
-- are malicious count and are named, not the waiters alone
unfoldable pub excluded_turn : ℕ → SignatureType → List ℕ → Coordinator → List ℕ → Turn
excluded_turn clock t new s store =
    cond (too_few_keys s.marks.malicious s)
    (insufficient_turn (flagged_signers s.config s.marks.malicious) new s store)
    (retry_turn clock t new s store)

-- the waiters of a record who were not malicious before
unfoldable pub new_malicious : SignRoundInfo → Coordinator → List ℕ
new_malicious row s = without (waiters_in s.config row) (flagged_signers s.config s.marks.malicious)

unfoldable pub row_turn : ℕ → SignatureType → SignRoundInfo → Coordinator → List ℕ → Turn
row_turn clock t row s store = excluded_turn clock t (new_malicious row s) (excluded_in (map is_waiting row.slots) s) store

-- 12, or "Share timeout strikes every waiter", those of the current message's record
unfoldable pub share_timeout_turn : ℕ → SignatureType → Coordinator → List ℕ → Turn
share_timeout_turn clock t s store =
    unless (record_asked s store) s store (row_turn clock t (get_or s.records.rows (current_place s store) no_row) s store)
