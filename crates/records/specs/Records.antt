-- A response put on the record of its message, which is opened where there is none: records and store after.
use Rattle.std.specs.Prelude.{ℕ, ◌+◌, ◌/◌, ◌≤◌, ◌<◌, true, cond, List, [], ◌∷◌, ltb, length, take, set, get_or, replicate}
use Rattle.wire.specs.Bytes.{put, are_same_bytes}
use Rattle.layout.specs.Limits.{signer_limit, record_limit}
use Rattle.layout.specs.declared.Ids.{Ids}
use Rattle.layout.specs.Messages.{NonceResponse}
use Rattle.layout.specs.Decode.{ids_in, nonces_in}
use Rattle.pieces.specs.Places.{bytes_at}
use Rattle.state.specs.declared.fields.ResponseSlot.{ResponseSlot}
use Rattle.state.specs.declared.fields.SignRoundInfo.{SignRoundInfo}
use Rattle.state.specs.declared.fields.Records.{Records}
use Rattle.state.specs.Setters.{set_slot, set_row}
use Rattle.state.specs.View.{message_at, keys_at, nonces_at, no_slot, no_row}

-- the response that these bytes hold
abbrev pub response_for : Ids → ℕ → List ℕ → List ℕ → List ℕ → NonceResponse
response_for ids id m keys nonces = record { ids = ids; signer_id = id; message = m; key_ids = ids_in keys; nonces = nonces_in nonces }

-- the message of the record r
unfoldable pub row_message : ℕ → SignRoundInfo → List ℕ → List ℕ
row_message r row store = bytes_at 1 (record { at = message_at r; count = row.message }) store

-- the record of a message, of those from r on; where there is none, the place of the next
unfoldable pub record_from : List ℕ → List ℕ → ℕ → List SignRoundInfo → ℕ
record_from m store r [] = r
record_from m store r (row ∷ rows) = cond (are_same_bytes m (row_message r row store)) r (record_from m store (r + 1) rows)

unfoldable pub record_place : List ℕ → Records → List ℕ → ℕ
record_place m rs store = record_from m store 0 (take rs.count rs.rows)

-- a record without responses
abbrev pub empty_row : ℕ → SignRoundInfo
empty_row n = record { message = n; slots = replicate signer_limit no_slot }

-- the record r opened for a message, where it is not open
unfoldable pub opened : ℕ → ℕ → Records → Records
opened r n rs = cond (ltb r rs.count) rs (record { rows = set rs.rows r (empty_row n); count = rs.count + 1 })

unfoldable pub opened_store : ℕ → List ℕ → Records → List ℕ → List ℕ
opened_store r m rs store = cond (ltb r rs.count) store (put store (message_at r) m)

-- a response that is held, with the clock reading of its call; its signer is waited for
abbrev pub held_slot : ℕ → Ids → List ℕ → List ℕ → ResponseSlot
held_slot clock ids keys nonces =
    record { held = true; waits = true; ids = ids; key_ids = length keys / 4; nonces = length nonces / 66; clock = clock }

unfoldable pub added_records : ℕ → ℕ → ℕ → Ids → List ℕ → List ℕ → List ℕ → Records → Records
added_records clock r i ids m keys nonces rs =
    set_row r (set_slot i (held_slot clock ids keys nonces) (get_or (opened r (length m) rs).rows r no_row)) (opened r (length m) rs)

unfoldable pub added_store : ℕ → ℕ → List ℕ → List ℕ → List ℕ → Records → List ℕ → List ℕ
added_store r i m keys nonces rs store = put (put (opened_store r m rs store) (keys_at r i) keys) (nonces_at r i) nonces

-- what is asked of the places
pub record Placed (rs : Records) (r i : ℕ) : Type 0 where
  pub few : rs.count ≤ record_limit
  pub row : r < record_limit
  pub slot : i < signer_limit
