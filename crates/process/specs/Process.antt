-- `process` and `process_message` at the level of struct and store.
use Rattle.std.specs.Prelude.{ℕ, ◌≤◌, ◌≡◌, Bool, true, false, List, length}
use Rattle.layout.specs.Limits.{store_length, answer_length}
use Rattle.layout.specs.Decode.{Decoded, taken, refused, decode}
use Rattle.state.specs.declared.answers.Asks.{Asks}
use Rattle.state.specs.declared.fields.Coordinator.{Coordinator}
use Rattle.state.specs.Counts.{is_within_limits}
use Rattle.state.specs.Turns.{Turn, error_turn, asked, unless}
use Rattle.packet_entry.specs.declared.Entry.{Entry}
use Rattle.packet_entry.specs.Entries.{entry_turn}

-- 8 and 9
unfoldable pub decoded_turn : Decoded → Entry → ℕ → Bool → List ℕ → Coordinator → List ℕ → Turn
decoded_turn (taken m) entry clock verdict p s store = entry_turn entry clock verdict p s store
decoded_turn (refused n) entry clock verdict p s store = error_turn n s store

abbrev pub read_turn : Entry → ℕ → Bool → List ℕ → Coordinator → List ℕ → Turn
read_turn entry clock verdict p s store = decoded_turn (decode p) entry clock verdict p s store

abbrev pub asking_packet : Asks
asking_packet = record { no_job = true; a_job = false; room = true }

-- 4, 5 and 7, then the packet
unfoldable pub receive_turn : Entry → ℕ → Bool → List ℕ → ℕ → Coordinator → List ℕ → Turn
receive_turn entry clock verdict p room s store =
    unless (asked asking_packet (length store) room s) s store (read_turn entry clock verdict p s store)

-- what 4 and 7 have found
pub record PacketReady (s : Coordinator) (store : List ℕ) (room : ℕ) : Type 0 where
  pub within : is_within_limits s ≡ true
  pub stored : store_length ≤ length store
  pub wide : answer_length ≤ room
