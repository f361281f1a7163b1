-- What a refusal leaves of the struct and of the lent store: every field and every byte, those that nothing looks at included.
use Rattle.std.specs.Prelude.{Some, ℕ, ◌+◌, ◌≤◌, ◌<◌, ◌≡◌, ◌⊎◌, ◌≢◌, Bool, true, false, ◌||◌, ◌&&◌, List, eqb, leb, length, get_or, take, drop}
use Rattle.wire.specs.Bytes.{put}
use Rattle.layout.specs.declared.Ids.{Ids}
use Rattle.layout.specs.declared.SignatureType.{SignatureType}
use Rattle.layout.specs.LaidOut.{header_in, part_at}
use Rattle.step_definition.specs.Ids.{previous}
use Rattle.step_definition.specs.Phases.{idling, gathering_nonces, gathering_shares, phase_of}
use Rattle.state.specs.declared.fields.Message.{Message}
use Rattle.state.specs.declared.fields.ResponseSlot.{ResponseSlot}
use Rattle.state.specs.declared.fields.Records.{Records}
use Rattle.state.specs.declared.fields.Coordinator.{Coordinator}
use Rattle.state.specs.Setters.{set_ids, set_message, set_records, set_slot, set_row, set_job}
use Rattle.state.specs.View.{message_at, keys_at, nonces_at, no_row, no_slot}
use Rattle.configuration.specs.declared.new_config.NewConfig.{NewConfig}
use Rattle.commission.specs.Commission.{uncommissioned_struct}
use Rattle.records.specs.Admits.{slot_of}
use Rattle.records.specs.Records.{record_place, added_records, added_store}
use Rattle.timeouts.specs.NonceTimeout.{current_place}
use Rattle.starts.specs.declared.naming.Start.{Start}
use Rattle.starts.specs.Starts.{sign_id_of}
use Rattle.packet_entry.specs.declared.Entry.{Entry}
use Rattle.coordinator_theorems.specs.Host.{HostRequest, commission, set_key, take_results, can_move, start, receive, process_timeout}
use Rattle.coordinator_theorems.specs.Host.{aggregated, reset, tell_arrivals}

-- the numbers after which something may differ: 1 to 3, 10, 11, 20 to 23
abbrev pub changing : ℕ → Bool
changing n = (leb 1 n && leb n 3) || eqb n 10 || eqb n 11 || (leb 20 n && leb n 23)

-- a message over the old one: the bytes past it stay
abbrev pub over : List ℕ → Message → Message
over m old = record { bytes = put old.bytes 0 m; len = length m }

abbrev pub iterated_to : ℕ → Ids → Ids
iterated_to n ids = record { dkg_id = ids.dkg_id; sign_id = ids.sign_id; sign_iter_id = n }

abbrev pub signed_as : ℕ → Ids → Ids
signed_as n ids = record { dkg_id = ids.dkg_id; sign_id = n; sign_iter_id = ids.sign_iter_id }

-- the slot i of the record r no longer waits; nothing else of the records differs
abbrev pub unawaited : ResponseSlot → ResponseSlot
unawaited x = record { held = x.held; waits = false; ids = x.ids; key_ids = x.key_ids; nonces = x.nonces; clock = x.clock }

abbrev pub waiter_off : ℕ → ℕ → Records → Records
waiter_off r i rs =
    let row = get_or rs.rows r no_row in
    set_row r (set_slot i (unawaited (get_or row.slots i no_slot)) row) rs

-- whether a call is commissioning, which is asked 1 to 3 and nothing else
abbrev pub commissions : HostRequest → Bool
commissions (commission g) = true
commissions (set_key which held) = false
commissions (take_results dkg ended) = false
commissions (can_move next root) = false
commissions (start m by) = false
commissions (receive entry p) = false
commissions process_timeout = false
commissions (aggregated ok) = false
commissions reset = false
commissions tell_arrivals = false

-- the struct and the lent store after a call, at this clock reading, that was refused with this number; s and store are those before it
pub data RefusalLeaves (clock : ℕ) (s : Coordinator) (store : List ℕ) : HostRequest → ℕ → Coordinator → List ℕ → Type 0 where
  -- "After 1 to 3 the state is uncommissioned and the store untouched."
  commissioning : (g : NewConfig) (n : ℕ) → 1 ≤ n → n ≤ 3 → RefusalLeaves clock s store (commission g) n uncommissioned_struct store
  -- "10 on an Idle packet, the iteration", which is the packet's number minus 1, wrapping
  idle :
      (entry : Entry) (p : List ℕ) → phase_of s.position.state ≡ idling → (header_in p).kind ≡ 1
      → RefusalLeaves clock s store (receive entry p) 10 (set_ids (iterated_to (previous (header_in p).ids.sign_iter_id) s.ids) s) store
  -- "(on a start call, nothing)"
  unheld : (m : List ℕ) (by : Start) → RefusalLeaves clock s store (start m by) 10 s store
  -- "10 in NonceGather, the record made and the message": the packet's, in the slot of its signer, with the call's clock reading (02, e)
  gathering :
      (entry : Entry) (p : List ℕ) (t : SignatureType) (r i : ℕ) → phase_of s.position.state ≡ gathering_nonces t → (header_in p).kind ≡ 2
      → r ≡ record_place (part_at p 32) s.records store → slot_of (header_in p).signer_id s.config ≡ Some i
      → RefusalLeaves clock s store (receive entry p) 10
      (set_message (over (part_at p 32) s.message)
      (set_records (added_records clock r i (header_in p).ids (part_at p 32) (part_at p 40) (part_at p 48) s.records) s))
      (added_store r i (part_at p 32) (part_at p 40) (part_at p 48) s.records store)
  -- "11, message and sign id"
  unmoved :
      (m : List ℕ) (by : Start)
      → RefusalLeaves clock s store (start m by) 11
      (set_ids (signed_as (sign_id_of by.sign_id s.ids.sign_id) s.ids) (set_message (over m s.message) s)) store
  -- "20 to 22, the waiter", in the record of the current message
  waiter :
      (entry : Entry) (p : List ℕ) (t : SignatureType) (n r i : ℕ) → phase_of s.position.state ≡ gathering_shares t
      → (header_in p).kind ≡ 4 → 20 ≤ n → n ≤ 22 → r ≡ current_place s store → slot_of (header_in p).signer_id s.config ≡ Some i
      → RefusalLeaves clock s store (receive entry p) n (set_records (waiter_off r i s.records) s) store
  -- "23, the job is no longer out"
  failed : RefusalLeaves clock s store (aggregated false) 23 (set_job false s) store
  -- "Otherwise nothing."
  otherwise : (q : HostRequest) (n : ℕ) → commissions q ≡ false → changing n ≡ false → RefusalLeaves clock s store q n s store

-- the n bytes from `at` on lie before the `size` bytes from b on, or behind them
abbrev pub Apart : ℕ → ℕ → ℕ → ℕ → Type 0
Apart at n b size = (at + n ≤ b) ⊎ (b + size ≤ at)

-- what a record that is made leaves as it was: the other messages' records, the other responses to its message, and every byte of the
-- store but those of the key ids, the nonces and, where it had no record, the message
pub record RecordMade (r i : ℕ) (m keys nonces : List ℕ) (rs rs' : Records) (store store' : List ℕ) : Type 0 where
  pub rows : (j : ℕ) → j ≢ r → get_or rs'.rows j no_row ≡ get_or rs.rows j no_row
  pub count : r < rs.count → rs'.count ≡ rs.count
  pub message : r < rs.count → (get_or rs'.rows r no_row).message ≡ (get_or rs.rows r no_row).message
  pub slots :
      r < rs.count → (j : ℕ) → j ≢ i
      → get_or (get_or rs'.rows r no_row).slots j no_slot ≡ get_or (get_or rs.rows r no_row).slots j no_slot
  pub long : length store' ≡ length store
  pub bytes :
      (at n : ℕ) → (r < rs.count) ⊎ Apart at n (message_at r) (length m) → Apart at n (keys_at r i) (length keys)
      → Apart at n (nonces_at r i) (length nonces) → take n (drop at store') ≡ take n (drop at store)

-- the calls that may change the store: commissioning and the two that bring a packet
abbrev pub stores : HostRequest → Bool
stores (commission g) = true
stores (set_key which held) = false
stores (take_results dkg ended) = false
stores (can_move next root) = false
stores (start m by) = false
stores (receive entry p) = true
stores process_timeout = false
stores (aggregated ok) = false
stores reset = false
stores tell_arrivals = false
