-- The coordinator as a value: the fields of fire.rs's Coordinator that signing uses, maps and sets as lists that ascend by signer id.
-- Fields that change together stand together.
use Rattle.std.specs.Prelude.{Option, None, ℕ, Bool, false, List, [], ◌∷◌, eqb}
use Rattle.wire.specs.Bytes.{are_same_bytes}
use Rattle.layout.specs.declared.Ids.{Ids}
use Rattle.layout.specs.Messages.{NonceResponse, SignatureShare, Arrival}
use Rattle.layout.specs.Encode.{no_ids, arrival_signer}
use Rattle.state_table.specs.declared.State.TheVariants.{Idle}
use Rattle.state_table.specs.States.{Position, position}
use Rattle.step_definition.specs.Lists.{is_some, given, find, change, insert_by}
use Rattle.step_definition.specs.Ids.{insert, remove}
use Rattle.step_definition.specs.Configuration.{Config}

-- the two held keys, "each kept as held or not, the bytes staying with the host"
pub record Keys : Type 0 where
  pub coordinator_public_key : Bool
  pub aggregate_public_key : Bool

-- what outlives a round: with the dkg id, the four things that demand 3 wants equal. malicious-signer-ids is 01's struck list
pub record Standing : Type 0 where
  pub config : Config
  pub dkg_end_messages : List ℕ
  pub keys : Keys
  pub malicious_signer_ids : List ℕ

-- SignRoundInfo: the responses to one message, each with its own ids, key ids and nonces as sent; when each came, which the Rust does not
-- keep (02, e); and who is waited for. (The Rust's nonce_recv_key_ids is the union of the responders' key sets, which the configuration
-- gives.)
pub record SignRoundInfo : Type 0 where
  pub message : List ℕ
  pub public_nonces : List NonceResponse
  pub arrivals : List Arrival
  pub sign_wait_signer_ids : List ℕ

-- signature_shares: what one signer sent
pub record SignerShares : Type 0 where
  pub signer_id : ℕ
  pub signature_shares : List SignatureShare

-- when the nonces and when the shares were asked for
pub record Clocks : Type 0 where
  pub nonce_start : Option ℕ
  pub sign_start : Option ℕ

-- a signing round: the message, what came, and since when it is waited for
pub record Round : Type 0 where
  pub message : List ℕ
  pub message_nonces : List SignRoundInfo
  pub signature_shares : List SignerShares
  pub clocks : Clocks

-- job: whether a job is out
pub record Coordinator : Type 0 where
  pub standing : Standing
  pub ids : Ids
  pub position : Position
  pub round : Round
  pub job : Bool

-- What a host holds. A struct whose counts are out of question 4's limits stands for no coordinator.
pub data Held : Type 0 where
  uncommissioned : Held
  miscounted : Held
  commissioned : Coordinator → Held

-- "the fields are those that the Rust's `new` gives: Idle, ids 0, nothing held, nobody struck"
abbrev pub no_keys : Keys
no_keys = record { coordinator_public_key = false; aggregate_public_key = false }

abbrev pub no_clocks : Clocks
no_clocks = record { nonce_start = None; sign_start = None }

abbrev pub fresh : Config → Coordinator
fresh g =
    record {
      standing = record { config = g; dkg_end_messages = []; keys = no_keys; malicious_signer_ids = [] };
      ids = no_ids;
      position = position Idle [];
      round = record { message = []; message_nonces = []; signature_shares = []; clocks = no_clocks };
      job = false;
    }

-- One setter for each field of the coordinator, and one for each field that changes alone inside it.
abbrev pub with_standing : Standing → Coordinator → Coordinator
with_standing s c = record { standing = s; ids = c.ids; position = c.position; round = c.round; job = c.job }

abbrev pub with_ids : Ids → Coordinator → Coordinator
with_ids ids c = record { standing = c.standing; ids = ids; position = c.position; round = c.round; job = c.job }

abbrev pub with_position : Position → Coordinator → Coordinator
with_position p c = record { standing = c.standing; ids = c.ids; position = p; round = c.round; job = c.job }

abbrev pub with_round : Round → Coordinator → Coordinator
with_round r c = record { standing = c.standing; ids = c.ids; position = c.position; round = r; job = c.job }

abbrev pub with_job : Bool → Coordinator → Coordinator
with_job j c = record { standing = c.standing; ids = c.ids; position = c.position; round = c.round; job = j }

abbrev pub with_keys : Keys → Coordinator → Coordinator
with_keys k c =
    let s = c.standing in
    with_standing
    (record { config = s.config; dkg_end_messages = s.dkg_end_messages; keys = k; malicious_signer_ids = s.malicious_signer_ids }) c

abbrev pub with_ended : List ℕ → Coordinator → Coordinator
with_ended ended c =
    let s = c.standing in
    with_standing (record { config = s.config; dkg_end_messages = ended; keys = s.keys; malicious_signer_ids = s.malicious_signer_ids }) c

abbrev pub with_malicious : List ℕ → Coordinator → Coordinator
with_malicious ids c =
    let s = c.standing in
    with_standing (record { config = s.config; dkg_end_messages = s.dkg_end_messages; keys = s.keys; malicious_signer_ids = ids }) c

abbrev pub with_message : List ℕ → Coordinator → Coordinator
with_message m c =
    let r = c.round in
    with_round (record { message = m; message_nonces = r.message_nonces; signature_shares = r.signature_shares; clocks = r.clocks }) c

abbrev pub with_records : List SignRoundInfo → Coordinator → Coordinator
with_records rs c =
    let r = c.round in
    with_round (record { message = r.message; message_nonces = rs; signature_shares = r.signature_shares; clocks = r.clocks }) c

abbrev pub with_shares : List SignerShares → Coordinator → Coordinator
with_shares ss c =
    let r = c.round in
    with_round (record { message = r.message; message_nonces = r.message_nonces; signature_shares = ss; clocks = r.clocks }) c

abbrev pub with_clocks : Clocks → Coordinator → Coordinator
with_clocks k c =
    let r = c.round in
    with_round (record { message = r.message; message_nonces = r.message_nonces; signature_shares = r.signature_shares; clocks = k }) c

abbrev pub with_sign_id : ℕ → Coordinator → Coordinator
with_sign_id n c = with_ids (record { dkg_id = c.ids.dkg_id; sign_id = n; sign_iter_id = c.ids.sign_iter_id }) c

abbrev pub with_iteration : ℕ → Coordinator → Coordinator
with_iteration n c = with_ids (record { dkg_id = c.ids.dkg_id; sign_id = c.ids.sign_id; sign_iter_id = n }) c

abbrev pub with_dkg_id : ℕ → Coordinator → Coordinator
with_dkg_id n c = with_ids (record { dkg_id = n; sign_id = c.ids.sign_id; sign_iter_id = c.ids.sign_iter_id }) c

-- Records. The record of a message; its responses, their arrivals and its waiters, none where there is no record
abbrev pub is_for : List ℕ → SignRoundInfo → Bool
is_for m r = are_same_bytes m r.message

abbrev pub record_of : List ℕ → List SignRoundInfo → Option SignRoundInfo
record_of m rs = find (is_for m) rs

abbrev pub responses_of : Option SignRoundInfo → List NonceResponse
responses_of o = given o (λ (r : SignRoundInfo). r.public_nonces) []

abbrev pub arrivals_of : Option SignRoundInfo → List Arrival
arrivals_of o = given o (λ (r : SignRoundInfo). r.arrivals) []

abbrev pub waiters_of : Option SignRoundInfo → List ℕ
waiters_of o = given o (λ (r : SignRoundInfo). r.sign_wait_signer_ids) []

-- the record of the current message
abbrev pub current_record : Coordinator → Option SignRoundInfo
current_record c = record_of c.round.message c.round.message_nonces

abbrev pub responder_id : NonceResponse → ℕ
responder_id q = q.signer_id

-- whether the signer is among the responders
abbrev pub responded : ℕ → List NonceResponse → Bool
responded id qs = is_some (find (λ (q : NonceResponse). eqb id q.signer_id) qs)

-- "Each recorded nonce response keeps the clock reading of its call" (02, e)
abbrev pub arriving : ℕ → NonceResponse → Arrival
arriving now q = record { signer_id = q.signer_id; clock = now }

-- a response and its arrival in their places by signer id; its signer is waited for
abbrev pub with_response : ℕ → NonceResponse → SignRoundInfo → SignRoundInfo
with_response now q r =
    record {
      message = r.message;
      public_nonces = insert_by responder_id q r.public_nonces;
      arrivals = insert_by arrival_signer (arriving now q) r.arrivals;
      sign_wait_signer_ids = insert q.signer_id r.sign_wait_signer_ids;
    }

abbrev pub without_waiter : ℕ → SignRoundInfo → SignRoundInfo
without_waiter id r =
    let waiters = remove id r.sign_wait_signer_ids in
    record { message = r.message; public_nonces = r.public_nonces; arrivals = r.arrivals; sign_wait_signer_ids = waiters }

-- a record with its first response
abbrev pub opened : ℕ → NonceResponse → SignRoundInfo
opened now q =
    record { message = q.message; public_nonces = q ∷ []; arrivals = arriving now q ∷ []; sign_wait_signer_ids = q.signer_id ∷ [] }

-- a response put on the record of its message, which is opened where there is none
abbrev pub add_response : ℕ → NonceResponse → List SignRoundInfo → List SignRoundInfo
add_response now q rs = change (is_for q.message) (with_response now q) (opened now q ∷ []) rs

-- the waiter taken off the record of a message
abbrev pub remove_waiter : List ℕ → ℕ → List SignRoundInfo → List SignRoundInfo
remove_waiter m id rs = change (is_for m) (without_waiter id) [] rs

-- Shares. What a signer sent, if it is held
abbrev pub shares_by : ℕ → List SignerShares → Option SignerShares
shares_by id held = find (λ (s : SignerShares). eqb id s.signer_id) held

abbrev pub sharer_id : SignerShares → ℕ
sharer_id s = s.signer_id
