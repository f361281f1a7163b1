-- The coordinator's state as bytes, described once: the fields in the order of the struct, each with its form. What a save writes, where
-- each field stands, what bytes say and whether a save left them follow from this (form, Form.antt).
use Rattle.state.specs.Clock.{Reading}
use Rattle.std.specs.Prelude.{ℕ, Bool, true, false, cond, not, ◌&&◌, ◌||◌, List, [], eqb, None, Some}
use Rattle.wire.specs.Bytes.{le}
use Rattle.layout.specs.Limits.{message_limit, list_limit, signer_limit, record_limit}
use Rattle.layout.specs.declared.KeyId.{KeyId}
use Rattle.layout.specs.declared.SignerId.{SignerId}
use Rattle.layout.specs.declared.Ids.{Ids}
use Rattle.layout.specs.declared.SignatureType.{SignatureType}
use Rattle.layout.specs.Types.{type_number, type_of}
use Rattle.state_table.specs.declared.State.{State}
use Rattle.state_table.specs.declared.State.TheVariants.{Idle, DkgPublicDistribute, DkgPublicGather}
use Rattle.state_table.specs.declared.State.TheVariants.{DkgPublicSharesDoneDistribute, DkgPublicSharesDoneGather}
use Rattle.state_table.specs.declared.State.TheVariants.{DkgPrivateDistribute, DkgPrivateGather}
use Rattle.state_table.specs.declared.State.TheVariants.{DkgPrivateSharesDoneDistribute, DkgPrivateSharesDoneGather}
use Rattle.state_table.specs.declared.State.TheVariants.{DkgEndDistribute, DkgEndGather}
use Rattle.state_table.specs.declared.State.TheVariants.{NonceRequest, NonceGather, SigShareRequest, SigShareGather}
use Rattle.state_table.specs.States.{state_number, type_in, StateType}
use Rattle.state.specs.declared.fields.Timeouts.{Timeouts}
use Rattle.state.specs.declared.fields.SignerEntry.{SignerEntry}
use Rattle.state.specs.declared.fields.Config.{Config}
use Rattle.state.specs.declared.fields.ResponseSlot.{ResponseSlot}
use Rattle.state.specs.declared.fields.SignRoundInfo.{SignRoundInfo}
use Rattle.state.specs.declared.fields.Records.{Records}
use Rattle.state.specs.declared.fields.ShareSlot.{ShareSlot}
use Rattle.state.specs.declared.fields.Marks.{Marks}
use Rattle.state.specs.declared.fields.Position.{Position}
use Rattle.state.specs.declared.fields.Message.{Message}
use Rattle.state.specs.declared.fields.Clocks.{Clocks}
use Rattle.state.specs.declared.fields.Keys.{Keys}
use Rattle.state.specs.declared.fields.Coordinator.{Coordinator}
use Rattle.form.specs.Form.{Form, Fields, Like, Code, number, byte, flag, bytes, constant, each, field, end, ◌▸◌, tuple, ◌&◌}
use Rattle.form.specs.Form.{like, enum, pieces}
use Rattle.state_bytes.specs.Version.{mark, version}

-- a clock reading or a timeout: whether there is one, and the number, 0 where there is none
abbrev given : Reading → Bool
given None = false
given (Some n) = true

abbrev nanoseconds : Reading → ℕ
nanoseconds None = 0
nanoseconds (Some n) = n

abbrev pub reading_code : Code Reading (Bool × (ℕ × Unit {0}))
reading_code =
    record {
      coded = λ r. given r & nanoseconds r & tt;
      value = λ t. cond t.0 (Some t.1.0) None;
      told = λ t. t.0 || eqb t.1.0 0;
    }

unfoldable pub reading_parts : Form (Bool × (ℕ × Unit {0}))
reading_parts =
    tuple
    (field "given" flag
    ▸ field "nanoseconds" (number 8)
    ▸ end)

unfoldable pub reading_form : Form Reading
reading_form = enum reading_code reading_parts

unfoldable pub timeouts_form : Form Timeouts
timeouts_form =
    like
    (record {
      apart = λ t. t.dkg_public & t.dkg_private & t.dkg_end & t.nonce & t.sign & tt;
      whole = λ (a, (b, (c, (d, (e, u))))). record { dkg_public = a; dkg_private = b; dkg_end = c; nonce = d; sign = e };
    })
    (tuple
    (field "dkg_public" reading_form
    ▸ field "dkg_private" reading_form
    ▸ field "dkg_end" reading_form
    ▸ field "nonce" reading_form
    ▸ field "sign" reading_form
    ▸ end))

unfoldable pub key_form : Form KeyId
key_form = like (record { apart = λ k. k.0; whole = λ n. record { 0 = n } }) (number 4)

-- a configured signer: sixteen places for keys, of which the first `count` count
unfoldable pub signer_form : Form SignerEntry
signer_form =
    like
    (record {
      apart = λ e. e.id.0 & e.has_keys & e.keys.ids & e.keys.count & tt;
      whole = λ (id, (has, (ids, (count, u)))).
          record { id = record { 0 = id }; has_keys = has; keys = record { ids = ids; count = count } };
    })
    (tuple
    (field "id" (number 4)
    ▸ field "has_keys" flag
    ▸ field "keys" (each list_limit key_form)
    ▸ field "count" (number 8)
    ▸ end))

unfoldable pub config_form : Form Config
config_form =
    like
    (record {
      apart = λ g.
          g.num_signers & g.num_keys & g.threshold & g.dkg_threshold & g.sign_threshold
          & g.timeouts & g.signers & g.count & g.verify_packet_sigs & tt;
      whole = λ (signers, (keys, (threshold, (dkg, (sign, (timeouts, (entries, (count, (verify, u))))))))).
          record {
            num_signers = signers;
            num_keys = keys;
            threshold = threshold;
            dkg_threshold = dkg;
            sign_threshold = sign;
            timeouts = timeouts;
            signers = entries;
            count = count;
            verify_packet_sigs = verify;
          };
    })
    (tuple
    (field "num_signers" (number 4)
    ▸ field "num_keys" (number 4)
    ▸ field "threshold" (number 4)
    ▸ field "dkg_threshold" (number 4)
    ▸ field "sign_threshold" (number 4)
    ▸ field "timeouts" timeouts_form
    ▸ field "signers" (each signer_limit signer_form)
    ▸ field "count" (number 8)
    ▸ field "verify_packet_sigs" flag
    ▸ end))

unfoldable pub ids_form : Form Ids
ids_form =
    like
    (record {
      apart = λ i. i.dkg_id & i.sign_id & i.sign_iter_id & tt;
      whole = λ (dkg, (sign, (iteration, u))). record { dkg_id = dkg; sign_id = sign; sign_iter_id = iteration };
    })
    (tuple
    (field "dkg_id" (number 8)
    ▸ field "sign_id" (number 8)
    ▸ field "sign_iter_id" (number 8)
    ▸ end))

-- a state is its number in the Rust's order and the number of its type, 0 where it has none
abbrev pub saved_type : StateType → ℕ
saved_type None = 0
saved_type (Some t) = type_number t

-- the state of a number and a type; a number that no state has stands for the last
unfoldable pub state_for : ℕ → SignatureType → State
state_for n t =
    cond (eqb n 0) Idle
    (cond (eqb n 1) DkgPublicDistribute
    (cond (eqb n 2) DkgPublicGather
    (cond (eqb n 3) DkgPublicSharesDoneDistribute
    (cond (eqb n 4) DkgPublicSharesDoneGather
    (cond (eqb n 5) DkgPrivateDistribute
    (cond (eqb n 6) DkgPrivateGather
    (cond (eqb n 7) DkgPrivateSharesDoneDistribute
    (cond (eqb n 8) DkgPrivateSharesDoneGather
    (cond (eqb n 9) DkgEndDistribute
    (cond (eqb n 10) DkgEndGather
    (cond (eqb n 11) (NonceRequest t)
    (cond (eqb n 12) (NonceGather t)
    (cond (eqb n 13) (SigShareRequest t) (SigShareGather t))))))))))))))

-- two numbers tell a state where it has just these
abbrev pub is_state : State → ℕ → ℕ → Bool
is_state x n t = eqb (state_number x) n && eqb (saved_type (type_in x)) t

abbrev pub state_code : Code State (ℕ × (ℕ × Unit {0}))
state_code =
    record {
      coded = λ x. state_number x & saved_type (type_in x) & tt;
      value = λ t. state_for t.0 (type_of t.1.0);
      told = λ t. is_state (state_for t.0 (type_of t.1.0)) t.0 t.1.0;
    }

unfoldable pub state_parts : Form (ℕ × (ℕ × Unit {0}))
state_parts =
    tuple
    (field "state" byte
    ▸ field "signature type" byte
    ▸ end)

unfoldable pub state_form : Form State
state_form = enum state_code state_parts

unfoldable pub position_form : Form Position
position_form =
    like
    (record { apart = λ p. p.state & p.root & tt; whole = λ (state, (root, u)). record { state = state; root = root } })
    (tuple
    (field "state" state_form
    ▸ field "root" (bytes 32)
    ▸ end))

unfoldable pub message_form : Form Message
message_form =
    like
    (record { apart = λ m. m.bytes & m.len & tt; whole = λ (bytes, (len, u)). record { bytes = bytes; len = len } })
    (tuple
    (field "bytes" (bytes message_limit)
    ▸ field "len" (number 8)
    ▸ end))

-- a response: its lists lie in the store; clock is the reading of the call that brought it
unfoldable pub slot_form : Form ResponseSlot
slot_form =
    like
    (record {
      apart = λ r. r.held & r.waits & r.ids & r.key_ids & r.nonces & r.clock & tt;
      whole = λ (held, (waits, (ids, (keys, (nonces, (clock, u)))))).
          record { held = held; waits = waits; ids = ids; key_ids = keys; nonces = nonces; clock = clock };
    })
    (tuple
    (field "held" flag
    ▸ field "waits" flag
    ▸ field "ids" ids_form
    ▸ field "key_ids" (number 8)
    ▸ field "nonces" (number 8)
    ▸ field "clock" (number 8)
    ▸ end))

-- a record: the length of its message, and a response for each signer
unfoldable pub row_form : Form SignRoundInfo
row_form =
    like
    (record { apart = λ r. r.message & r.slots & tt; whole = λ (message, (slots, u)). record { message = message; slots = slots } })
    (tuple
    (field "message" (number 8)
    ▸ field "slots" (each signer_limit slot_form)
    ▸ end))

unfoldable pub records_form : Form Records
records_form =
    like
    (record { apart = λ r. r.rows & r.count & tt; whole = λ (rows, (count, u)). record { rows = rows; count = count } })
    (tuple
    (field "rows" (each record_limit row_form)
    ▸ field "count" (number 8)
    ▸ end))

-- a signer's shares: how many, and how many key ids each has
unfoldable pub share_form : Form ShareSlot
share_form =
    like
    (record {
      apart = λ h. h.held & h.count & h.key_counts & tt;
      whole = λ (held, (count, (counts, u))). record { held = held; count = count; key_counts = counts };
    })
    (tuple
    (field "held" flag
    ▸ field "count" (number 8)
    ▸ field "key_counts" (bytes list_limit)
    ▸ end))

unfoldable pub marks_form : Form Marks
marks_form =
    like
    (record {
      apart = λ m. m.ended & m.malicious & tt;
      whole = λ (ended, (malicious, u)). record { ended = ended; malicious = malicious };
    })
    (tuple
    (field "ended" (each signer_limit flag)
    ▸ field "malicious" (each signer_limit flag)
    ▸ end))

unfoldable pub clocks_form : Form Clocks
clocks_form =
    like
    (record {
      apart = λ c. c.nonce_start & c.sign_start & tt;
      whole = λ (nonce, (sign, u)). record { nonce_start = nonce; sign_start = sign };
    })
    (tuple
    (field "nonce_start" reading_form
    ▸ field "sign_start" reading_form
    ▸ end))

unfoldable pub keys_form : Form Keys
keys_form =
    like
    (record {
      apart = λ k. k.coordinator & k.aggregate & tt;
      whole = λ (coordinator, (aggregate, u)). record { coordinator = coordinator; aggregate = aggregate };
    })
    (tuple
    (field "coordinator" flag
    ▸ field "aggregate" flag
    ▸ end))

-- The whole: a mark and the version stand in front; six bytes of 0 at the end make the length a multiple of 8.
unfoldable pub coordinator_form : Form Coordinator
coordinator_form =
    like
    (record {
      apart = λ s.
          tt & tt & s.commissioned & s.config & s.ids & s.position & s.message & s.records
          & s.shares.slots & s.marks & s.clocks & s.keys & s.job & tt & tt;
      whole = λ
          (m, (v, (commissioned, (config, (ids, (position, (message, (records, (slots, (marks, (clocks, (keys, (job, (z, u)))))))))))))).
          record {
            commissioned = commissioned;
            config = config;
            ids = ids;
            position = position;
            message = message;
            records = records;
            shares = record { slots = slots };
            marks = marks;
            clocks = clocks;
            keys = keys;
            job = job;
          };
    })
    (tuple
    (field "mark" (constant mark)
    ▸ field "version" (constant (le 8 version))
    ▸ field "commissioned" flag
    ▸ field "config" config_form
    ▸ field "ids" ids_form
    ▸ field "position" position_form
    ▸ field "message" message_form
    ▸ field "records" records_form
    ▸ field "shares" (each signer_limit share_form)
    ▸ field "marks" marks_form
    ▸ field "clocks" clocks_form
    ▸ field "keys" keys_form
    ▸ field "job" flag
    ▸ field "zeros" (constant (le 6 0))
    ▸ end))

-- to unfold this is to unfold the whole description
unfoldable pub description : Unit {0}
unfolding pieces reading_parts reading_form timeouts_form key_form signer_form config_form ids_form state_parts state_form position_form message_form
    slot_form row_form records_form share_form marks_form clocks_form keys_form coordinator_form le
description = tt
