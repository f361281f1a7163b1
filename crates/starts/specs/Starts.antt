-- A start at the level of struct and store: what is stored, what `request_nonces` changes, and the packet that leaves. The store stays.
use Rattle.std.specs.Prelude.{◌≡◌, ℕ, true, false, cond, List, [], ◌∷◌, ◌++◌, length, take, drop, nat_le, Option, None, Some}
use Rattle.layout.specs.declared.SignatureType.{SignatureType}
use Rattle.layout.specs.Limits.{message_limit}
use Rattle.layout.specs.Messages as M
use Rattle.layout.specs.Encode.{encode}
use Rattle.state_table.specs.declared.State.TheVariants.{NonceRequest, NonceGather}
use Rattle.state_table.specs.States.{position}
use Rattle.state_table.specs.Moves.{can_move_to}
use Rattle.step_definition.specs.Ids.{next}
use Rattle.step_definition.specs.Effects.{root_for}
use Rattle.step_definition.specs.Calls as A
use Rattle.state.specs.declared.answers.Asks.{Asks}
use Rattle.state.specs.declared.fields.Coordinator.{Coordinator}
use Rattle.state.specs.Setters.{set_ids, set_message, set_position, set_records, set_clocks}
use Rattle.state.specs.Turns.{Turn, error_turn, asked, unless}
use Rattle.state.specs.Replaced.{message_with}
use Rattle.starts.specs.declared.naming.Start.{Start}

-- a given sign id, or none: then the one after the last round's
abbrev pub SignId : Type 0
SignId = Option ℕ

-- the next sign id, wrapping, or the given one
unfoldable pub sign_id_of : SignId → ℕ → ℕ
sign_id_of None last = next last
sign_id_of (Some n) last = n

-- message and sign id stored
unfoldable pub start_named : List ℕ → SignId → Coordinator → Coordinator
start_named message id s =
    let sign = sign_id_of id s.ids.sign_id in
    set_ids (record { dkg_id = s.ids.dkg_id; sign_id = sign; sign_iter_id = s.ids.sign_iter_id })
    (set_message (message_with message s.message) s)

-- request_nonces: no records, the next iteration, wrapping, the nonce clock; shares and the share clock stay. The root's 32 bytes are
-- stored for every type, and count for a Taproot root alone
unfoldable pub start_requested : ℕ → SignatureType → List ℕ → Coordinator → Coordinator
start_requested clock t root s =
    let iteration = next s.ids.sign_iter_id in
    set_clocks (record { nonce_start = Some clock; sign_start = s.clocks.sign_start })
    (set_position (record { state = NonceGather t; root = root })
    (set_records (record { rows = s.records.rows; count = 0 })
    (set_ids (record { dkg_id = s.ids.dkg_id; sign_id = s.ids.sign_id; sign_iter_id = iteration }) s)))

-- the nonce request of a coordinator that has asked
abbrev pub request_from : SignatureType → List ℕ → Coordinator → M.NonceRequest
request_from t root s =
    record {
      ids = s.ids;
      message = take s.message.len s.message.bytes;
      signature_type = t;
      root = root_for t root;
    }

unfoldable pub request_bytes : SignatureType → List ℕ → Coordinator → List ℕ
request_bytes t root s = encode (M.nonce_request (request_from t root s))

-- bytes at the front of the buffer, counted
pub record Sent (bytes out : List ℕ) (n : ℕ) (out' : List ℕ) : Type 0 where
  pub counted : n ≡ length bytes
  pub buffered : out' ≡ bytes ++ drop (length bytes) out

-- the nonces asked for
unfoldable pub request_turn : ℕ → SignatureType → List ℕ → Coordinator → List ℕ → Turn
request_turn clock t root s store =
    let after = start_requested clock t root s in
    record {
      answer = A.sending A.packet (request_bytes t root after);
      events = A.requested (request_from t root after) ∷ [];
      after = after;
      store = store;
    }

-- "Move allowed (11)?", of a coordinator with message and sign id stored
unfoldable pub named_turn : ℕ → SignatureType → List ℕ → Coordinator → List ℕ → Turn
named_turn clock t root s store =
    cond (can_move_to (position s.position.state s.position.root) (position (NonceRequest t) root))
    (request_turn clock t root s store)
    (error_turn 11 s store)

-- "group key held (10)?" 11 leaves message and sign id changed
unfoldable pub round_turn : ℕ → List ℕ → Start → Coordinator → List ℕ → Turn
round_turn clock message by s store =
    cond s.keys.aggregate
    (named_turn clock by.signature_type by.root (start_named message by.sign_id s) store)
    (error_turn 10 s store)

abbrev pub asking_start : Asks
asking_start = record { no_job = true; a_job = false; room = true }

-- 4, 5, 7, 9, 10, 11
unfoldable pub start_turn : ℕ → List ℕ → Start → ℕ → Coordinator → List ℕ → Turn
start_turn clock message by room s store =
    unless (asked asking_start (length store) room s) s store
    (cond (nat_le (length message) message_limit) (round_turn clock message by s store) (error_turn 9 s store))
