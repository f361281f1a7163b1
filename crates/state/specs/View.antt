-- The coordinator that a struct and a store stand for, in the step definition's terms.
use Rattle.state.specs.Clock.{Reading}
use Rattle.std.specs.Prelude.{Option, ℕ, ◌+◌, ◌*◌, Bool, true, false, ◌&&◌, List, [], ◌∷◌, map, take, get_or, None, Some}
use Rattle.layout.specs.Limits.{message_limit}
use Rattle.layout.specs.Types.{type_number, root_length}
use Rattle.layout.specs.Messages.{NonceResponse, Arrival}
use Rattle.layout.specs.Encode.{no_ids}
use Rattle.state_table.specs.States.{position, type_in, StateType}
use Rattle.state_table.specs.States.{Position as DefinedPosition}
use Rattle.pieces.specs.declared.places.ResponsePlace.{ResponsePlace}
use Rattle.pieces.specs.Places.{bytes_at, response_at}
use Rattle.job.specs.Job.{shares_from}
use Rattle.validity.specs.Keys.{listed}
use Rattle.step_definition.specs.Configuration as D
use Rattle.step_definition.specs.Coordinator as C
use Rattle.state.specs.declared.fields.SignerEntry.{SignerEntry}
use Rattle.state.specs.declared.fields.Config.{Config}
use Rattle.state.specs.declared.fields.ResponseSlot.{ResponseSlot}
use Rattle.state.specs.declared.fields.SignRoundInfo.{SignRoundInfo}
use Rattle.state.specs.declared.fields.Records.{Records}
use Rattle.state.specs.declared.fields.ShareSlot.{ShareSlot}
use Rattle.state.specs.declared.fields.Position.{Position}
use Rattle.state.specs.declared.fields.Coordinator.{Coordinator}
use Rattle.state.specs.declared.fields.SignerSlot.{SignerSlot}
use Rattle.state.specs.Slots.{slots_from, collect, when}
use Rattle.state.specs.Counts.{entries, is_within_limits}

-- Where things lie in the store: for each record its message and a response of each signer, the keys before the nonces; then each
-- signer's shares, before their key ids.
abbrev pub key_bytes : ℕ
key_bytes = 64

abbrev pub nonce_bytes : ℕ
nonce_bytes = 1056

abbrev pub response_bytes : ℕ
response_bytes = 1120

abbrev pub record_bytes : ℕ
record_bytes = 11456

abbrev pub shares_start : ℕ
shares_start = 45824

abbrev pub share_bytes : ℕ
share_bytes = 640

abbrev pub share_keys_start : ℕ
share_keys_start = 576

abbrev pub message_at : ℕ → ℕ
message_at r = record_bytes * r

abbrev pub keys_at : ℕ → ℕ → ℕ
keys_at r i = record_bytes * r + (message_limit + response_bytes * i)

abbrev pub nonces_at : ℕ → ℕ → ℕ
nonces_at r i = record_bytes * r + (message_limit + key_bytes + response_bytes * i)

abbrev pub shares_at_place : ℕ → ℕ
shares_at_place i = shares_start + share_bytes * i

abbrev pub share_keys_at : ℕ → ℕ
share_keys_at i = shares_at_place i + share_keys_start

abbrev pub reading : Reading → Option ℕ
reading r = r

abbrev pub entry_id : SignerEntry → ℕ
entry_id e = e.id.0

abbrev pub ids_of : Config → List ℕ
ids_of g = map entry_id (entries g)

abbrev pub slots_of : Config → List SignerSlot
slots_of g = slots_from 0 (ids_of g)

-- values past an array's end: nothing reads them
abbrev pub no_entry : SignerEntry
no_entry = record { id = record { 0 = 0 }; has_keys = false; keys = record { ids = []; count = 0 } }

abbrev pub no_slot : ResponseSlot
no_slot = record { held = false; waits = false; ids = no_ids; key_ids = 0; nonces = 0; clock = 0 }

abbrev pub no_row : SignRoundInfo
no_row = record { message = 0; slots = [] }

abbrev pub no_shares : ShareSlot
no_shares = record { held = false; count = 0; key_counts = [] }

-- the configuration
unfoldable pub signer_in : List SignerEntry → SignerSlot → D.SignerConfig
signer_in es e = record { id = e.id; key_ids = when (get_or es e.slot no_entry).has_keys (listed (get_or es e.slot no_entry).keys) }

abbrev pub timeouts_of : Config → D.Timeouts
timeouts_of g =
    record {
      dkg_public = reading g.timeouts.dkg_public;
      dkg_private = reading g.timeouts.dkg_private;
      dkg_end = reading g.timeouts.dkg_end;
      nonce = reading g.timeouts.nonce;
      sign = reading g.timeouts.sign;
    }

unfoldable pub config_of : Config → D.Config
config_of g =
    record {
      num_signers = g.num_signers;
      num_keys = g.num_keys;
      threshold = g.threshold;
      dkg_threshold = g.dkg_threshold;
      sign_threshold = g.sign_threshold;
      timeouts = timeouts_of g;
      signers = collect (λ (e : SignerSlot). Some (signer_in g.signers e)) (slots_of g);
      verify_packet_sigs = g.verify_packet_sigs;
    }

-- a state with its root: 32 bytes for type 3, else none
unfoldable pub root_bytes : StateType → List ℕ → List ℕ
root_bytes None root = []
root_bytes (Some t) root = take (root_length (type_number t)) root

unfoldable pub position_of : Position → DefinedPosition
position_of p = position p.state (root_bytes (type_in p.state) p.root)

-- the records: where a response's lists lie, in the writer's words
unfoldable pub place_of : ℕ → ℕ → List ResponseSlot → SignerSlot → ResponsePlace
place_of r n slots e =
    record {
      ids = (get_or slots e.slot no_slot).ids;
      signer_id = record { 0 = e.id };
      message = record { at = message_at r; count = n };
      key_ids = record { at = keys_at r e.slot; count = (get_or slots e.slot no_slot).key_ids };
      nonces = record { at = nonces_at r e.slot; count = (get_or slots e.slot no_slot).nonces };
    }

abbrev pub held_in : ℕ → ℕ → List ℕ → List ResponseSlot → SignerSlot → Option NonceResponse
held_in r n store slots e = when (get_or slots e.slot no_slot).held (response_at store (place_of r n slots e))

-- a response's arrival: its signer and the clock reading of its call
abbrev pub arrival_in : List ResponseSlot → SignerSlot → Option Arrival
arrival_in slots e =
    when (get_or slots e.slot no_slot).held (record { signer_id = e.id; clock = (get_or slots e.slot no_slot).clock })

abbrev pub waits_in : List ResponseSlot → SignerSlot → Option ℕ
waits_in slots e = when ((get_or slots e.slot no_slot).held && (get_or slots e.slot no_slot).waits) e.id

unfoldable pub row_of : List SignerSlot → List ℕ → ℕ → SignRoundInfo → C.SignRoundInfo
row_of es store r row =
    record {
      message = bytes_at 1 (record { at = message_at r; count = row.message }) store;
      public_nonces = collect (held_in r row.message store row.slots) es;
      arrivals = collect (arrival_in row.slots) es;
      sign_wait_signer_ids = collect (waits_in row.slots) es;
    }

unfoldable pub rows_from : List SignerSlot → List ℕ → ℕ → List SignRoundInfo → List C.SignRoundInfo
rows_from es store r [] = []
rows_from es store r (row ∷ rows) = row_of es store r row ∷ rows_from es store (r + 1) rows

abbrev pub records_of : List SignerSlot → List ℕ → Records → List C.SignRoundInfo
records_of es store rs = rows_from es store 0 (take rs.count rs.rows)

-- what one slot holds of shares
abbrev pub shares_of : List ℕ → SignerSlot → ShareSlot → C.SignerShares
shares_of store e slot =
    let counts = take slot.count slot.key_counts in
    record { signer_id = e.id; signature_shares = shares_from store (shares_at_place e.slot) (share_keys_at e.slot) counts }

abbrev pub shares_in : List ℕ → List ShareSlot → SignerSlot → Option C.SignerShares
shares_in store slots e = when (get_or slots e.slot no_shares).held (shares_of store e (get_or slots e.slot no_shares))

-- the signers whose flag is set
abbrev pub flagged_in : List Bool → SignerSlot → Option ℕ
flagged_in flags e = when (get_or flags e.slot false) e.id

unfoldable pub standing_of : Coordinator → C.Standing
standing_of s =
    record {
      config = config_of s.config;
      dkg_end_messages = collect (flagged_in s.marks.ended) (slots_of s.config);
      keys = record { coordinator_public_key = s.keys.coordinator; aggregate_public_key = s.keys.aggregate };
      malicious_signer_ids = collect (flagged_in s.marks.malicious) (slots_of s.config);
    }

unfoldable pub round_of : Coordinator → List ℕ → C.Round
round_of s store =
    record {
      message = take s.message.len s.message.bytes;
      message_nonces = records_of (slots_of s.config) store s.records;
      signature_shares = collect (shares_in store s.shares.slots) (slots_of s.config);
      clocks = record { nonce_start = reading s.clocks.nonce_start; sign_start = reading s.clocks.sign_start };
    }

unfoldable pub coordinator_of : Coordinator → List ℕ → C.Coordinator
coordinator_of s store =
    record {
      standing = standing_of s;
      ids = s.ids;
      position = position_of s.position;
      round = round_of s store;
      job = s.job;
    }

-- what is held: a coordinator where it is commissioned and its counts are within the limits
unfoldable pub held_if : Bool → Bool → C.Coordinator → C.Held
held_if false within c = C.uncommissioned
held_if true false c = C.miscounted
held_if true true c = C.commissioned c

unfoldable pub view : Coordinator → List ℕ → C.Held
view s store = held_if s.commissioned (is_within_limits s) (coordinator_of s store)
