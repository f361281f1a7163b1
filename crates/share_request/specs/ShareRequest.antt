-- The share request that a record's responses make, as the view has them, and what is asked of struct and buffers before it is written.
use Rattle.std.specs.Prelude.{ℕ, ◌<◌, ◌≤◌, ◌≡◌, true, List, get_or, take}
use Rattle.layout.specs.Limits.{message_limit, signer_limit, record_limit, store_length, answer_length}
use Rattle.layout.specs.declared.SignatureType.{SignatureType}
use Rattle.layout.specs.Types.{type_number, root_length}
use Rattle.layout.specs.Messages.{SignatureShareRequest, signature_share_request}
use Rattle.layout.specs.Encode.{encode}
use Rattle.state.specs.declared.fields.Coordinator.{Coordinator}
use Rattle.state.specs.Counts.{row_within_limits}
use Rattle.state.specs.View.{row_of, slots_of, no_row}

-- the message, the type with its root, and the responses of the record r
abbrev pub request_for : Coordinator → List ℕ → ℕ → List ℕ → SignatureType → SignatureShareRequest
request_for s store r m t =
    record {
      ids = s.ids;
      message = m;
      signature_type = t;
      root = take (root_length (type_number t)) s.position.root;
      nonce_responses = (row_of (slots_of s.config) store r (get_or s.records.rows r no_row)).public_nonces;
    }

abbrev pub request_bytes : Coordinator → List ℕ → ℕ → List ℕ → SignatureType → List ℕ
request_bytes s store r m t = encode (signature_share_request (request_for s store r m t))

-- what question 4 and the questions after it have found: counts within the limits, a record that is there, buffers that are long enough
pub record Sendable (s : Coordinator) (r store message room : ℕ) : Type 0 where
  pub signers : s.config.count ≤ signer_limit
  pub row : r < record_limit
  pub within : row_within_limits s.config.count (get_or s.records.rows r no_row) ≡ true
  pub stored : store_length ≤ store
  pub short : message ≤ message_limit
  pub wide : answer_length ≤ room
