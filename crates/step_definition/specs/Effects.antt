-- What fire.rs's functions change, and the packets that they send.
use Rattle.std.specs.Prelude.{Some, ℕ, Bool, false, ◌&&◌, List, [], ◌∷◌, ◌++◌, take}
use Rattle.wire.specs.Bytes.{every}
use Rattle.layout.specs.declared.SignatureType.{SignatureType}
use Rattle.layout.specs.Types.{type_number, root_length}
use Rattle.layout.specs.Messages.{Nonce, SignatureShare, NonceRequest, NonceResponse, SignatureShareRequest, SignatureShareResponse, Job}
use Rattle.state_table.specs.declared.State.TheVariants.{Idle, NonceGather, SigShareGather}
use Rattle.state_table.specs.States.{position}
use Rattle.step_definition.specs.Lists.{is_some, given, insert_by}
use Rattle.step_definition.specs.Ids.{insert_all, distinct, next}
use Rattle.step_definition.specs.Configuration.{Config, keys_in, key_set_of}
use Rattle.step_definition.specs.Coordinator.{Coordinator, SignerShares, shares_by, sharer_id, add_response, remove_waiter}
use Rattle.step_definition.specs.Coordinator.{no_clocks, with_position, with_records, with_shares, with_ended, with_clocks, with_job, with_iteration}

-- the root of a type: its 32 bytes for a Taproot root, nothing for the others
unfoldable pub root_for : SignatureType → List ℕ → List ℕ
root_for t root = take (root_length (type_number t)) root

-- request_nonces: the records are emptied, the iteration grows by 1, wrapping, and the clock is started; shares and the share clock stay
abbrev pub request_nonces : ℕ → SignatureType → List ℕ → Coordinator → Coordinator
request_nonces now t root c =
    with_clocks (record { nonce_start = Some now; sign_start = c.round.clocks.sign_start })
    (with_position (position (NonceGather t) root) (with_records [] (with_iteration (next c.ids.sign_iter_id) c)))

-- the nonce request that leaves, of the coordinator after
abbrev pub nonce_request_of : SignatureType → List ℕ → Coordinator → NonceRequest
nonce_request_of t root c = record { ids = c.ids; message = c.round.message; signature_type = t; root = root }

-- a response recorded, with the clock reading of its call
abbrev pub recording : ℕ → NonceResponse → Coordinator → Coordinator
recording now q c = with_records (add_response now q c.round.message_nonces) c

-- nonce_recv_key_ids: the different keys of the responders' key sets
unfoldable pub recv_key_ids : Config → List NonceResponse → List ℕ
recv_key_ids g [] = []
recv_key_ids g (q ∷ qs) = insert_all (keys_in (key_set_of g q.signer_id)) (recv_key_ids g qs)

-- request_sig_shares: the shares are emptied and the share clock is started
abbrev pub request_shares : ℕ → SignatureType → List ℕ → Coordinator → Coordinator
request_shares now t root c =
    with_clocks (record { nonce_start = c.round.clocks.nonce_start; sign_start = Some now })
    (with_position (position (SigShareGather t) root) (with_shares [] c))

-- the share request: the message and its recorded responses, each as it was sent
abbrev pub share_request_of : SignatureType → List ℕ → List NonceResponse → Coordinator → SignatureShareRequest
share_request_of t root qs c =
    record { ids = c.ids; message = c.round.message; signature_type = t; root = root; nonce_responses = qs }

-- the current message's waiter taken off
abbrev pub freeing : ℕ → Coordinator → Coordinator
freeing id c = with_records (remove_waiter c.round.message id c.round.message_nonces) c

-- a signer's shares recorded
abbrev pub keeping : SignatureShareResponse → Coordinator → Coordinator
keeping r c =
    with_shares
    (insert_by sharer_id (record { signer_id = r.signer_id; signature_shares = r.signature_shares }) c.round.signature_shares) c

-- the key ids of all shares of a response, joined
unfoldable pub share_key_ids : List SignatureShare → List ℕ
share_key_ids [] = []
share_key_ids (s ∷ ss) = s.key_ids ++ share_key_ids ss

-- "lists are each signer's list, joined in ascending signer id"
unfoldable pub joined_keys : List NonceResponse → List ℕ
joined_keys [] = []
joined_keys (q ∷ qs) = q.key_ids ++ joined_keys qs

unfoldable pub joined_nonces : List NonceResponse → List Nonce
joined_nonces [] = []
joined_nonces (q ∷ qs) = q.nonces ++ joined_nonces qs

unfoldable pub joined_shares : List NonceResponse → List SignerShares → List SignatureShare
joined_shares [] held = []
joined_shares (q ∷ qs) held = given (shares_by q.signer_id held) (λ (s : SignerShares). s.signature_shares) [] ++ joined_shares qs held

-- the aggregator's input
abbrev pub job_of : SignatureType → List ℕ → List NonceResponse → Coordinator → Job
job_of t root qs c =
    record {
      ids = c.ids;
      message = c.round.message;
      signature_type = t;
      root = root;
      key_ids = joined_keys qs;
      nonces = joined_nonces qs;
      signature_shares = joined_shares qs c.round.signature_shares;
    }

-- every responder's shares are held
unfoldable pub all_shared : List NonceResponse → List SignerShares → Bool
all_shared qs held = every (λ (q : NonceResponse). is_some (shares_by q.signer_id held)) qs

-- 02, c): "whole is yes exactly when every responder's shares are held and no key id occurs twice in the job's joined list"
unfoldable pub whole : List NonceResponse → List SignerShares → Bool
whole qs held = all_shared qs held && distinct (joined_keys qs)

-- "`reset` empties `dkg_end_messages`, records, shares and clocks and keeps the struck list, ids, message and group key. Here it also
-- drops a job that is out": in two steps, one after the other
abbrev pub abandon : Coordinator → Coordinator
abandon c = with_job false (with_clocks no_clocks (with_shares [] (with_records [] (with_position (position Idle []) c))))

abbrev pub forget : Coordinator → Coordinator
forget c = with_ended [] c
