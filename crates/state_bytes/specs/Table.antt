-- The saved form as a table: each field's name and its bytes, for a struct with a value of its own in each field. The bytes of the table
-- one after the other are all that is saved, so each field stands after the bytes of those before it.
use Rattle.std.specs.Prelude.{ℕ, ◌+◌, Bool, true, false, List, [], ◌∷◌, ◌++◌, take, replicate, None, Some}
use Prim.Native.String.{String}
use Rattle.wire.specs.Bytes.{joined}
use Rattle.layout.specs.declared.Ids.{Ids}
use Rattle.layout.specs.declared.SignatureType.TheVariants.{Frost, Schnorr, Taproot, TaprootRoot}
use Rattle.state_table.specs.declared.State.{State}
use Rattle.state_table.specs.declared.State.TheVariants.{Idle, DkgPublicDistribute, DkgPublicGather}
use Rattle.state_table.specs.declared.State.TheVariants.{DkgPublicSharesDoneDistribute, DkgPublicSharesDoneGather}
use Rattle.state_table.specs.declared.State.TheVariants.{DkgPrivateDistribute, DkgPrivateGather}
use Rattle.state_table.specs.declared.State.TheVariants.{DkgPrivateSharesDoneDistribute, DkgPrivateSharesDoneGather}
use Rattle.state_table.specs.declared.State.TheVariants.{DkgEndDistribute, DkgEndGather}
use Rattle.state_table.specs.declared.State.TheVariants.{NonceRequest, NonceGather, SigShareRequest, SigShareGather}
use Rattle.validity.specs.Keys.{key_of}
use Rattle.state.specs.declared.fields.SignerEntry.{SignerEntry}
use Rattle.state.specs.declared.fields.Config.{Config}
use Rattle.state.specs.declared.fields.ResponseSlot.{ResponseSlot}
use Rattle.state.specs.declared.fields.SignRoundInfo.{SignRoundInfo}
use Rattle.state.specs.declared.fields.ShareSlot.{ShareSlot}
use Rattle.state.specs.declared.fields.Coordinator.{Coordinator}
use Rattle.state_bytes.specs.Description.{position_form}

-- Numbers of four and of eight bytes that differ in each byte; and their bytes.
abbrev n4 : ℕ → ℕ
n4 n = n + 50462976

abbrev four : ℕ → List ℕ
four n = n ∷ 1 ∷ 2 ∷ 3 ∷ []

abbrev n8 : ℕ → ℕ
n8 n = n + 506097522914230528

abbrev eight : ℕ → List ℕ
eight n = n ∷ 1 ∷ 2 ∷ 3 ∷ 4 ∷ 5 ∷ 6 ∷ 7 ∷ []

-- The struct. The five flags that stand alone are given, so that each can be told from the others
pub record Flags : Type 0 where
  pub commissioned : Bool
  pub verify : Bool
  pub coordinator : Bool
  pub aggregate : Bool
  pub job : Bool

abbrev ids : ℕ → ℕ → ℕ → Ids
ids dkg sign iteration = record { dkg_id = n8 dkg; sign_id = n8 sign; sign_iter_id = n8 iteration }

-- sixteen keys, of which the first two have a value of their own
abbrev entry : ℕ → Bool → ℕ → ℕ → ℕ → SignerEntry
entry id has first second count =
    record {
      id = record { 0 = n4 id };
      has_keys = has;
      keys = record { ids = key_of (n4 first) ∷ key_of (n4 second) ∷ replicate 14 (key_of (n4 0)); count = n8 count };
    }

abbrev config : Bool → Config
config verify =
    record {
      num_signers = n4 11;
      num_keys = n4 12;
      threshold = n4 13;
      dkg_threshold = n4 14;
      sign_threshold = n4 15;
      timeouts = record {
        dkg_public = Some (n8 21);
        dkg_private = None;
        dkg_end = Some (n8 23);
        nonce = Some (n8 24);
        sign = Some (n8 25);
      };
      signers = entry 31 true 32 33 34 ∷ entry 35 false 36 37 38 ∷ replicate 8 (entry 0 false 0 0 0);
      count = n8 39;
      verify_packet_sigs = verify;
    }

abbrev slot : Bool → Bool → ℕ → ResponseSlot
slot held waits n =
    record { held = held; waits = waits; ids = ids n (n + 1) (n + 2); key_ids = n8 (n + 3); nonces = n8 (n + 4); clock = n8 (n + 5) }

abbrev none : ResponseSlot
none = slot false false 0

abbrev row : ℕ → ResponseSlot → ResponseSlot → SignRoundInfo
row message a b = record { message = n8 message; slots = a ∷ b ∷ replicate 8 none }

abbrev shares : Bool → ℕ → ℕ → ShareSlot
shares held count n = record { held = held; count = n8 count; key_counts = n ∷ (n + 1) ∷ replicate 14 2 }

abbrev pub struct : Flags → Coordinator
struct f =
    record {
      commissioned = f.commissioned;
      config = config f.verify;
      ids = ids 41 42 43;
      position = record { state = SigShareGather TaprootRoot; root = 44 ∷ replicate 31 45 };
      message = record { bytes = 46 ∷ replicate 255 47; len = n8 48 };
      records = record {
        rows = row 51 (slot true false 60) (slot false true 70) ∷ row 52 (slot true true 80) none ∷ replicate 2 (row 0 none none);
        count = n8 53;
      };
      shares = record { slots = shares true 91 92 ∷ shares false 94 95 ∷ replicate 8 (shares false 0 0) };
      marks = record { ended = true ∷ true ∷ replicate 8 false; malicious = false ∷ true ∷ replicate 8 true };
      clocks = record { nonce_start = Some (n8 101); sign_start = Some (n8 102) };
      keys = record { coordinator = f.coordinator; aggregate = f.aggregate };
      job = f.job;
    }

-- The table.
pub record Field : Type 0 where
  pub name : String
  pub bytes : List ℕ

abbrev field : String → List ℕ → Field
field name bytes = record { name = name; bytes = bytes }

abbrev pub bytes_of : Field → List ℕ
bytes_of f = f.bytes

abbrev flag : Bool → List ℕ
flag true = 1 ∷ []
flag false = 0 ∷ []

abbrev no_slot : List ℕ
no_slot = 0 ∷ 0 ∷ (eight 0 ++ eight 1 ++ eight 2 ++ eight 3 ++ eight 4 ++ eight 5)

abbrev times : ℕ → List ℕ → List ℕ
times n bytes = joined (replicate n bytes)

-- from the mark to the signers
abbrev head : Flags → List Field
head f =
    field "mark, ROUNDCAB" (82 ∷ 79 ∷ 85 ∷ 78 ∷ 68 ∷ 67 ∷ 65 ∷ 66 ∷ [])
    ∷ field "version" (2 ∷ replicate 7 0)
    ∷ field "commissioned" (flag f.commissioned)
    ∷ field "num_signers" (four 11)
    ∷ field "num_keys" (four 12)
    ∷ field "threshold" (four 13)
    ∷ field "dkg_threshold" (four 14)
    ∷ field "sign_threshold" (four 15)
    ∷ field "dkg_public timeout: whether, nanoseconds" (1 ∷ eight 21)
    ∷ field "dkg_private timeout" (replicate 9 0)
    ∷ field "dkg_end timeout" (1 ∷ eight 23)
    ∷ field "nonce timeout" (1 ∷ eight 24)
    ∷ field "sign timeout" (1 ∷ eight 25)
    ∷ []

-- ten signers of 77 bytes: id, whether there is a key set, sixteen keys, how many count
abbrev signers : Flags → List Field
signers f =
    field "signer 0, id" (four 31)
    ∷ field "signer 0, has_keys" (1 ∷ [])
    ∷ field "signer 0, key 0" (four 32)
    ∷ field "signer 0, key 1" (four 33)
    ∷ field "signer 0, keys 2 to 15" (times 14 (four 0))
    ∷ field "signer 0, count of keys" (eight 34)
    ∷ field "signer 1, id" (four 35)
    ∷ field "signer 1, has_keys" (0 ∷ [])
    ∷ field "signer 1, keys" (four 36 ++ four 37 ++ times 14 (four 0))
    ∷ field "signer 1, count of keys" (eight 38)
    ∷ field "signers 2 to 9" (times 8 (four 0 ++ (0 ∷ times 16 (four 0)) ++ eight 0))
    ∷ field "count of signers" (eight 39)
    ∷ field "verify_packet_sigs" (flag f.verify)
    ∷ []

abbrev middle : List Field
middle =
    field "dkg_id" (eight 41)
    ∷ field "sign_id" (eight 42)
    ∷ field "sign_iter_id" (eight 43)
    ∷ field "state" (14 ∷ [])
    ∷ field "signature type" (3 ∷ [])
    ∷ field "root" (44 ∷ replicate 31 45)
    ∷ field "message" (46 ∷ replicate 255 47)
    ∷ field "length of the message" (eight 48)
    ∷ []

-- four records of 508 bytes: the length of the message, and ten slots of 50
abbrev records : List Field
records =
    field "record 0, length of the message" (eight 51)
    ∷ field "record 0, slot 0, held" (1 ∷ [])
    ∷ field "record 0, slot 0, waits" (0 ∷ [])
    ∷ field "record 0, slot 0, dkg_id" (eight 60)
    ∷ field "record 0, slot 0, sign_id" (eight 61)
    ∷ field "record 0, slot 0, sign_iter_id" (eight 62)
    ∷ field "record 0, slot 0, count of key ids" (eight 63)
    ∷ field "record 0, slot 0, count of nonces" (eight 64)
    ∷ field "record 0, slot 0, clock" (eight 65)
    ∷ field "record 0, slot 1" (0 ∷ 1 ∷ (eight 70 ++ eight 71 ++ eight 72 ++ eight 73 ++ eight 74 ++ eight 75))
    ∷ field "record 0, slots 2 to 9" (times 8 no_slot)
    ∷ field "record 1, length of the message" (eight 52)
    ∷ field "record 1, slot 0" (1 ∷ 1 ∷ (eight 80 ++ eight 81 ++ eight 82 ++ eight 83 ++ eight 84 ++ eight 85))
    ∷ field "record 1, slots 1 to 9" (times 9 no_slot)
    ∷ field "records 2 and 3" (times 2 (eight 0 ++ times 10 no_slot))
    ∷ field "count of records" (eight 53)
    ∷ []

-- ten signers' shares of 25 bytes; then the marks, the clocks, the keys, the job
abbrev tail : Flags → List Field
tail f =
    field "shares of signer 0, held" (1 ∷ [])
    ∷ field "shares of signer 0, count" (eight 91)
    ∷ field "shares of signer 0, key ids of each" (92 ∷ 93 ∷ replicate 14 2)
    ∷ field "shares of signer 1" (0 ∷ (eight 94 ++ (95 ∷ 96 ∷ replicate 14 2)))
    ∷ field "shares of signers 2 to 9" (times 8 (0 ∷ (eight 0 ++ (0 ∷ 1 ∷ replicate 14 2))))
    ∷ field "ended, a byte for each signer" (1 ∷ 1 ∷ replicate 8 0)
    ∷ field "malicious, a byte for each signer" (0 ∷ 1 ∷ replicate 8 1)
    ∷ field "nonce_start: whether, nanoseconds" (1 ∷ eight 101)
    ∷ field "sign_start" (1 ∷ eight 102)
    ∷ field "coordinator key held" (flag f.coordinator)
    ∷ field "group key held" (flag f.aggregate)
    ∷ field "job" (flag f.job)
    ∷ field "zeros" (replicate 6 0)
    ∷ []

abbrev pub fields : Flags → List Field
fields f = head f ++ signers f ++ middle ++ records ++ tail f

-- no two of the five flags agree in all three
abbrev flags : Bool → Bool → Bool → Bool → Bool → Flags
flags a b c d e = record { commissioned = a; verify = b; coordinator = c; aggregate = d; job = e }

abbrev pub three_flags : List Flags
three_flags = flags true false true false false ∷ flags false true true false true ∷ flags true true false false true ∷ []

-- The byte of each state and of each signature type.
pub record StateBytes : Type 0 where
  pub state : State
  pub bytes : List ℕ

abbrev state_bytes : State → ℕ → ℕ → StateBytes
state_bytes s n t = record { state = s; bytes = n ∷ t ∷ [] }

unfoldable pub state_saved : StateBytes → StateBytes
state_saved r = record { state = r.state; bytes = take 2 (position_form.save (record { state = r.state; root = replicate 32 9 })) }

unfoldable pub states : List StateBytes
states =
    state_bytes Idle 0 0
    ∷ state_bytes DkgPublicDistribute 1 0
    ∷ state_bytes DkgPublicGather 2 0
    ∷ state_bytes DkgPublicSharesDoneDistribute 3 0
    ∷ state_bytes DkgPublicSharesDoneGather 4 0
    ∷ state_bytes DkgPrivateDistribute 5 0
    ∷ state_bytes DkgPrivateGather 6 0
    ∷ state_bytes DkgPrivateSharesDoneDistribute 7 0
    ∷ state_bytes DkgPrivateSharesDoneGather 8 0
    ∷ state_bytes DkgEndDistribute 9 0
    ∷ state_bytes DkgEndGather 10 0
    ∷ state_bytes (NonceRequest Frost) 11 0
    ∷ state_bytes (NonceGather Schnorr) 12 1
    ∷ state_bytes (SigShareRequest Taproot) 13 2
    ∷ state_bytes (SigShareGather TaprootRoot) 14 3
    ∷ []
