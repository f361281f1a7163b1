-- Rounds for the view: a struct with a value of its own in each field, beside a store whose bytes tell their place, and the coordinator
-- that they stand for, written out in the step definition's words. Places are numbers here, so that one that is moved shows too.
use Rattle.state.specs.Clock.{Reading}
use Rattle.std.specs.Prelude.{Option, ℕ, ◌+◌, ◌-◌, Bool, true, false, List, [], ◌∷◌, ◌++◌, map, length, replicate, None, Some}
use Rattle.layout.specs.declared.Ids.{Ids}
use Rattle.layout.specs.declared.SignatureType.TheVariants.{Frost, Schnorr, Taproot, TaprootRoot}
use Rattle.layout.specs.Messages.{Arrival, Nonce, NonceResponse, SignatureShare}
use Rattle.validity.specs.declared.keys.KeyIds.{KeyIds}
use Rattle.validity.specs.Keys.{key_of}
use Rattle.state_table.specs.declared.State.{State}
use Rattle.state_table.specs.declared.State.TheVariants.{Idle, DkgEndGather, NonceRequest, NonceGather, SigShareRequest, SigShareGather}
use Rattle.state_table.specs.States.{position}
use Rattle.state_table.specs.States.{Position as DefinedPosition}
use Rattle.step_definition.specs.Configuration as D
use Rattle.step_definition.specs.Coordinator as C
use Rattle.step_definition.specs.Calls as A
use Rattle.state.specs.declared.fields.SignerEntry.{SignerEntry}
use Rattle.state.specs.declared.fields.Config.{Config}
use Rattle.state.specs.declared.fields.ResponseSlot.{ResponseSlot}
use Rattle.state.specs.declared.fields.SignRoundInfo.{SignRoundInfo}
use Rattle.state.specs.declared.fields.Records.{Records}
use Rattle.state.specs.declared.fields.ShareSlot.{ShareSlot}
use Rattle.state.specs.declared.fields.Position.{Position}
use Rattle.state.specs.declared.fields.Coordinator.{Coordinator}
use Rattle.state.specs.declared.answers.Class.{Class}
use Rattle.state.specs.declared.answers.Class.TheVariants.{Nothing, Packet, Job, Result, Error}
use Rattle.state.specs.declared.answers.Answer.{Answer}
use Rattle.state.specs.Counts.{is_within_limits}
use Rattle.state.specs.View.{position_of, view}
use Rattle.state.specs.Turns.{said, answer_of}
use Rattle.state.specs.Setters.{set_config, set_position, set_message, set_records, set_shares, set_clocks, set_keys, set_job}

-- The store: bytes at places that ascend; 255 lies between them.
pub record Part : Type 0 where
  pub place : ℕ
  pub bytes : List ℕ

infix 68 ◌puts◌
abbrev pub ◌puts◌ : ℕ → List ℕ → Part
◌puts◌ place bytes = record { place = place; bytes = bytes }

unfoldable pub laid : ℕ → List Part → List ℕ
laid from [] = []
laid from (p ∷ ps) = replicate (p.place - from) 255 ++ (p.bytes ++ laid (p.place + length p.bytes) ps)

-- a number below 256 in four bytes
abbrev four : ℕ → List ℕ
four n = n ∷ 0 ∷ 0 ∷ 0 ∷ []

-- record 0: its message, then the keys and nonces of slot 0, then those of slot 1; record 1: its message, and those of slot 2; then the
-- shares of slots 0 and 1, each before their key ids
abbrev pub store : List ℕ
store =
    laid 0
    (0 puts (11 ∷ 12 ∷ [])
    ∷ 256 puts four 5
    ∷ 320 puts (replicate 33 61 ++ replicate 33 62)
    ∷ 1376 puts (four 4 ++ four 6)
    ∷ 1440 puts (replicate 33 63 ++ replicate 33 64)
    ∷ 11456 puts (13 ∷ [])
    ∷ 13952 puts four 9
    ∷ 14016 puts (replicate 33 65 ++ replicate 33 66 ++ replicate 33 67 ++ replicate 33 68)
    ∷ 45824 puts (four 71 ++ replicate 32 72)
    ∷ 46400 puts four 5
    ∷ 46464 puts (four 73 ++ replicate 32 74 ++ four 75 ++ replicate 32 76)
    ∷ 47040 puts (four 4 ++ four 4 ++ four 6)
    ∷ [])

-- The struct. Signers 30, 10 and 20 in slots 0, 1 and 2, of whom 20 has no key set. A second 10, in slot 3, is not seen, nor is what
-- stands past a count
abbrev keys_of : List ℕ → ℕ → KeyIds
keys_of keys count = record { ids = map key_of keys; count = count }

abbrev entry : ℕ → Bool → KeyIds → SignerEntry
entry id has keys = record { id = record { 0 = id }; has_keys = has; keys = keys }

abbrev config_with : Reading → Bool → Config
config_with nonce verify =
    record {
      num_signers = 81;
      num_keys = 82;
      threshold = 83;
      dkg_threshold = 84;
      sign_threshold = 85;
      timeouts = record { dkg_public = Some 21; dkg_private = Some 22; dkg_end = Some 23; nonce = nonce; sign = Some 25 };
      signers =
          entry 30 true (keys_of (5 ∷ 7 ∷ []) 1)
          ∷ entry 10 true (keys_of (4 ∷ 6 ∷ 7 ∷ []) 2)
          ∷ entry 20 false (keys_of (7 ∷ []) 1)
          ∷ entry 10 true (keys_of (7 ∷ []) 1)
          ∷ entry 15 true (keys_of (7 ∷ []) 1)
          ∷ [];
      count = 4;
      verify_packet_sigs = verify;
    }

abbrev ids : ℕ → ℕ → ℕ → Ids
ids dkg sign iteration = record { dkg_id = dkg; sign_id = sign; sign_iter_id = iteration }

-- a slot whose response came at this reading; at 0
abbrev slot_at : Bool → Bool → Ids → ℕ → ℕ → ℕ → ResponseSlot
slot_at held waits i keys nonces clock =
    record { held = held; waits = waits; ids = i; key_ids = keys; nonces = nonces; clock = clock }

abbrev slot : Bool → Bool → Ids → ℕ → ℕ → ResponseSlot
slot held waits i keys nonces = slot_at held waits i keys nonces 0

-- of record 0 slots 0 and 1 are held, and 1 waits; slot 2 is not held, and so doesn't wait whatever its flag says. Of record 1 slot 2 is
-- held and waits
abbrev records : Records
records =
    let no = ids 0 0 0 in
    let row0 = slot_at true false (ids 31 32 33) 1 1 91 ∷ slot_at true true (ids 34 35 36) 2 1 92 ∷ slot_at false true no 1 1 93 ∷ [] in
    let row1 = slot_at false false no 1 1 94 ∷ slot_at false true no 1 1 95 ∷ slot_at true true (ids 37 38 39) 1 2 96 ∷ [] in
    let row2 = slot true true no 1 1 ∷ [] in
    record {
      rows = record { message = 2; slots = row0 } ∷ record { message = 1; slots = row1 } ∷ record { message = 1; slots = row2 } ∷ [];
      count = 2;
    }

abbrev share_slot_of : Bool → ℕ → List ℕ → ShareSlot
share_slot_of held count counts = record { held = held; count = count; key_counts = counts }

abbrev pub struct : Coordinator
struct =
    record {
      commissioned = true;
      config = config_with (Some 24) true;
      ids = ids 1 2 3;
      position = record { state = SigShareGather TaprootRoot; root = replicate 32 6 };
      message = record { bytes = 7 ∷ 8 ∷ 9 ∷ []; len = 2 };
      records = records;
      shares =
          record { slots = share_slot_of true 1 (1 ∷ 9 ∷ []) ∷ share_slot_of true 2 (1 ∷ 2 ∷ 9 ∷ []) ∷ share_slot_of false 1 (1 ∷ []) ∷ [] };
      marks = record { ended = true ∷ false ∷ true ∷ true ∷ true ∷ []; malicious = false ∷ true ∷ false ∷ false ∷ true ∷ [] };
      clocks = record { nonce_start = Some 41; sign_start = Some 42 };
      keys = record { coordinator = true; aggregate = false };
      job = true;
    }

-- What they stand for: signers ascend by id, each with what stands in its slot.
abbrev signer : ℕ → List ℕ → D.SignerConfig
signer id keys = record { id = id; key_ids = Some keys }

abbrev standing_with : Option ℕ → Bool → C.Keys → C.Standing
standing_with nonce verify keys =
    record {
      config = record {
        num_signers = 81;
        num_keys = 82;
        threshold = 83;
        dkg_threshold = 84;
        sign_threshold = 85;
        timeouts = record { dkg_public = Some 21; dkg_private = Some 22; dkg_end = Some 23; nonce = nonce; sign = Some 25 };
        signers = signer 10 (4 ∷ 6 ∷ []) ∷ record { id = 20; key_ids = None } ∷ signer 30 (5 ∷ []) ∷ [];
        verify_packet_sigs = verify;
      };
      dkg_end_messages = 20 ∷ 30 ∷ [];
      keys = keys;
      malicious_signer_ids = 10 ∷ [];
    }

abbrev nonce : ℕ → ℕ → Nonce
nonce d e = record { D = replicate 33 d; E = replicate 33 e }

abbrev response : Ids → ℕ → List ℕ → List ℕ → List Nonce → NonceResponse
response i id message keys nonces = record { ids = i; signer_id = id; message = message; key_ids = keys; nonces = nonces }

abbrev came : ℕ → ℕ → Arrival
came id clock = record { signer_id = id; clock = clock }

abbrev share : ℕ → ℕ → List ℕ → SignatureShare
share id z keys = record { id = id; z_i = replicate 32 z; key_ids = keys }

abbrev round_with : C.Clocks → C.Round
round_with clocks =
    record {
      message = 7 ∷ 8 ∷ [];
      message_nonces =
          record {
            message = 11 ∷ 12 ∷ [];
            public_nonces =
                response (ids 34 35 36) 10 (11 ∷ 12 ∷ []) (4 ∷ 6 ∷ []) (nonce 63 64 ∷ [])
                ∷ response (ids 31 32 33) 30 (11 ∷ 12 ∷ []) (5 ∷ []) (nonce 61 62 ∷ [])
                ∷ [];
            arrivals = came 10 92 ∷ came 30 91 ∷ [];
            sign_wait_signer_ids = 10 ∷ [];
          }
          ∷ record {
            message = 13 ∷ [];
            public_nonces = response (ids 37 38 39) 20 (13 ∷ []) (9 ∷ []) (nonce 65 66 ∷ nonce 67 68 ∷ []) ∷ [];
            arrivals = came 20 96 ∷ [];
            sign_wait_signer_ids = 20 ∷ [];
          }
          ∷ [];
      signature_shares =
          record { signer_id = 10; signature_shares = share 73 74 (4 ∷ []) ∷ share 75 76 (4 ∷ 6 ∷ []) ∷ [] }
          ∷ record { signer_id = 30; signature_shares = share 71 72 (5 ∷ []) ∷ [] }
          ∷ [];
      clocks = clocks;
    }

abbrev pub stands : C.Coordinator
stands =
    record {
      standing = standing_with (Some 24) true (record { coordinator_public_key = true; aggregate_public_key = false });
      ids = ids 1 2 3;
      position = position (SigShareGather TaprootRoot) (replicate 32 6);
      round = round_with (record { nonce_start = Some 41; sign_start = Some 42 });
      job = true;
    }

-- the same with the other key held, no job out, verification off, the share clock not started, no nonce timeout, in NonceGather
abbrev turned : Coordinator
turned =
    set_config (config_with None false)
    (set_position (record { state = NonceGather Schnorr; root = replicate 32 6 })
    (set_clocks (record { nonce_start = Some 41; sign_start = None })
    (set_keys (record { coordinator = false; aggregate = true }) (set_job false struct))))

abbrev stands_turned : C.Coordinator
stands_turned =
    record {
      standing = standing_with None false (record { coordinator_public_key = false; aggregate_public_key = true });
      ids = ids 1 2 3;
      position = position (NonceGather Schnorr) [];
      round = round_with (record { nonce_start = Some 41; sign_start = None });
      job = false;
    }

-- the struct, commissioned or not
abbrev with_flag : Bool → Coordinator → Coordinator
with_flag commissioned s =
    record {
      commissioned = commissioned;
      config = s.config;
      ids = s.ids;
      position = s.position;
      message = s.message;
      records = s.records;
      shares = s.shares;
      marks = s.marks;
      clocks = s.clocks;
      keys = s.keys;
      job = s.job;
    }

-- What is held: a struct that is not commissioned, and one whose counts are out of the limits, stand for no coordinator.
pub record Held : Type 0 where
  pub struct : Coordinator
  pub held : C.Held

abbrev held_as : Coordinator → C.Held → Held
held_as s h = record { struct = s; held = h }

unfoldable pub holding : Held → Held
holding r = held_as r.struct (view r.struct store)

unfoldable pub helds : List Held
helds =
    held_as struct (C.commissioned stands)
    ∷ held_as turned (C.commissioned stands_turned)
    ∷ held_as (with_flag false struct) C.uncommissioned
    ∷ held_as (set_message (record { bytes = []; len = 257 }) struct) C.miscounted
    ∷ held_as (with_flag false (set_message (record { bytes = []; len = 257 }) struct)) C.uncommissioned
    ∷ []

-- The root beside a state counts where its type has one.
pub record Placed : Type 0 where
  pub struct : Position
  pub stands : DefinedPosition

abbrev placed : State → List ℕ → Placed
placed s root = record { struct = record { state = s; root = replicate 32 6 }; stands = position s root }

unfoldable pub placing : Placed → Placed
placing r = record { struct = r.struct; stands = position_of r.struct }

unfoldable pub positions : List Placed
positions =
    placed Idle []
    ∷ placed DkgEndGather []
    ∷ placed (NonceRequest TaprootRoot) (replicate 32 6)
    ∷ placed (NonceGather Frost) []
    ∷ placed (NonceGather Schnorr) []
    ∷ placed (SigShareRequest Taproot) []
    ∷ placed (SigShareGather TaprootRoot) (replicate 32 6)
    ∷ []

-- "its counts within these limits (4)?": at each limit, and one more. What stands past a count, and what is not held, is not counted
pub record Counted : Type 0 where
  pub struct : Coordinator
  pub within : Bool

abbrev counted : Coordinator → Bool → Counted
counted s within = record { struct = s; within = within }

unfoldable pub counting : Counted → Counted
counting r = counted r.struct (is_within_limits r.struct)

-- so many signers in ten places, of whom the first has so many keys, and num_keys
abbrev signers_of : ℕ → ℕ → ℕ → Coordinator
signers_of count keys num_keys =
    set_config
    (record {
      num_signers = 0;
      num_keys = num_keys;
      threshold = 0;
      dkg_threshold = 0;
      sign_threshold = 0;
      timeouts = record { dkg_public = None; dkg_private = None; dkg_end = None; nonce = None; sign = None };
      signers =
          entry 1 true (keys_of [] keys)
          ∷ entry 2 true (keys_of [] 1)
          ∷ entry 3 false (keys_of [] 99)
          ∷ replicate 9 (entry 4 true (keys_of [] 1));
      count = count;
      verify_packet_sigs = true;
    })
    struct

abbrev records_with : ℕ → ℕ → ResponseSlot → Coordinator
records_with count message s =
    let unheld = slot false false (ids 0 0 0) 99 99 in
    let full = slot true true (ids 0 0 0) 16 16 in
    let past = slot true true (ids 0 0 0) 99 99 in
    let row : SignRoundInfo = record { message = message; slots = unheld ∷ s ∷ full ∷ full ∷ past ∷ [] } in
    set_records (record { rows = replicate count row ++ (record { message = 999; slots = [] } ∷ []); count = count }) struct

abbrev held_slot : ℕ → ℕ → ResponseSlot
held_slot keys nonces = slot true false (ids 0 0 0) keys nonces

abbrev shares_with : ShareSlot → Coordinator
shares_with s =
    let empty = share_slot_of false 0 [] in
    set_shares (record { slots = share_slot_of false 99 (99 ∷ []) ∷ s ∷ empty ∷ empty ∷ share_slot_of true 99 (99 ∷ []) ∷ [] }) struct

unfoldable pub counts : List Counted
counts =
    counted struct true
    ∷ counted (signers_of 10 16 24) true
    ∷ counted (signers_of 11 16 99) false
    ∷ counted (signers_of 10 17 99) false
    ∷ counted (signers_of 10 16 23) false
    ∷ counted (signers_of 3 16 17) true
    ∷ counted (set_message (record { bytes = []; len = 256 }) struct) true
    ∷ counted (set_message (record { bytes = []; len = 257 }) struct) false
    ∷ counted (records_with 4 256 (held_slot 16 16)) true
    ∷ counted (records_with 5 256 (held_slot 16 16)) false
    ∷ counted (records_with 4 257 (held_slot 16 16)) false
    ∷ counted (records_with 4 256 (held_slot 17 16)) false
    ∷ counted (records_with 4 256 (held_slot 16 17)) false
    ∷ counted (shares_with (share_slot_of true 16 (9 ∷ 7 ∷ replicate 14 0))) true
    ∷ counted (shares_with (share_slot_of true 2 (9 ∷ 7 ∷ 99 ∷ []))) true
    ∷ counted (shares_with (share_slot_of true 17 (replicate 16 0))) false
    ∷ counted (shares_with (share_slot_of true 2 (9 ∷ 8 ∷ []))) false
    ∷ []

-- Answers: a struct's answer with the buffer after the call, and 01's answer that it is.
pub record Said : Type 0 where
  pub answer : Answer
  pub out : List ℕ
  pub said : A.Answer

abbrev said_as : Answer → List ℕ → A.Answer → Said
said_as a out x = record { answer = a; out = out; said = x }

unfoldable pub saying : Said → Said
saying r = said_as (answer_of r.said) r.out (said r.answer r.out)

abbrev answer : Class → ℕ → ℕ → ℕ → ℕ → Bool → ℕ → Answer
answer class number first second values mark length =
    record { class = class; number = number; first = first; second = second; values = values; mark = mark; length = length }

abbrev told : A.Class → ℕ → List ℕ → Bool → List ℕ → A.Answer
told class number values mark bytes = record { class = class; number = number; values = values; mark = mark; bytes = bytes }

unfoldable pub answers : List Said
answers =
    said_as (answer Nothing 0 0 0 0 false 0) (5 ∷ 6 ∷ []) (told A.nothing 0 [] false [])
    ∷ said_as (answer Packet 0 0 0 0 false 2) (5 ∷ 6 ∷ 7 ∷ []) (told A.packet 0 [] false (5 ∷ 6 ∷ []))
    ∷ said_as (answer Job 0 0 0 0 true 1) (5 ∷ 6 ∷ []) (told A.job 0 [] true (5 ∷ []))
    ∷ said_as (answer Result 22 9 0 1 false 0) (5 ∷ []) (told A.result 22 (9 ∷ []) false [])
    ∷ said_as (answer Error 16 7 8 2 false 0) [] (told A.error 16 (7 ∷ 8 ∷ []) false [])
    ∷ []
