-- Question 4, "its counts within these limits", of a coordinator as a value: what a host's struct that passes 4 has to stand for. And
-- numbers that fit their fields, which every struct's do.
use Rattle.std.specs.Prelude.{ℕ, Bool, ◌&&◌, leb, length, None, Some}
use Rattle.wire.specs.Bytes.{Bytes, every, All}
use Rattle.layout.specs.Limits.{message_limit, list_limit, signer_limit, record_limit}
use Rattle.layout.specs.Types.{type_number, root_length}
use Rattle.layout.specs.Decode.{response_within, key_count}
use Rattle.layout.specs.Fits.{IdsFit, Sized, ResponseFits, ShareFits}
use Rattle.state_table.specs.States.{type_in, StateType}
use Rattle.step_definition.specs.Configuration.{Config, SignerConfig, keys_in, question3}
use Rattle.step_definition.specs.Coordinator.{Coordinator, SignRoundInfo, SignerShares}
use Rattle.step_definition.specs.Calls.{Brought, a_packet, a_start, a_key, no_more}

-- at most 10 signers, sets of at most 16 keys, "Set sizes together at most num_keys"
unfoldable pub config_within : Config → Bool
config_within g =
    leb (length g.signers) signer_limit
    && every (λ (s : SignerConfig). leb (length (keys_in s.key_ids)) list_limit) g.signers
    && question3 g

-- a message, at most 10 responses, arrivals and waiters, each response within 9's limits
unfoldable pub record_within : SignRoundInfo → Bool
record_within r =
    leb (length r.message) message_limit
    && leb (length r.public_nonces) signer_limit
    && every response_within r.public_nonces
    && leb (length r.arrivals) signer_limit
    && leb (length r.sign_wait_signer_ids) signer_limit

-- at most 16 shares with at most 16 key ids in all
unfoldable pub shares_within : SignerShares → Bool
shares_within s = leb (length s.signature_shares) list_limit && leb (key_count s.signature_shares) list_limit

unfoldable pub within_limits : Coordinator → Bool
within_limits c =
    config_within c.standing.config
    && leb (length c.standing.dkg_end_messages) signer_limit
    && leb (length c.standing.malicious_signer_ids) signer_limit
    && leb (length c.round.message) message_limit
    && leb (length c.round.message_nonces) record_limit
    && every record_within c.round.message_nonces
    && leb (length c.round.signature_shares) signer_limit
    && every shares_within c.round.signature_shares

-- the root beside a state: 32 bytes for a Taproot root, else none
abbrev pub root_size : StateType → ℕ
root_size None = 0
root_size (Some t) = root_length (type_number t)

-- the numbers of a coordinator fit their fields: those that a nonce request tells, and all that packets tell
pub record RoundFits (c : Coordinator) : Type 0 where
  pub ids : IdsFit c.ids
  pub message : Bytes c.round.message
  pub root : Sized (root_size (type_in c.position.state)) c.position.root

pub record CoordinatorFits (c : Coordinator) : Type 0 where
  pub ids : IdsFit c.ids
  pub message : Bytes c.round.message
  pub root : Sized (root_size (type_in c.position.state)) c.position.root
  pub responses : All (λ (r : SignRoundInfo). All ResponseFits r.public_nonces) c.round.message_nonces
  pub shares : All (λ (s : SignerShares). All ShareFits s.signature_shares) c.round.signature_shares

-- a packet that a call brings is made of bytes
abbrev pub BroughtFits : Brought → Type 0
BroughtFits (a_packet entry bytes) = Bytes bytes
BroughtFits (a_start s) = Unit {0}
BroughtFits (a_key which held) = Unit {0}
BroughtFits no_more = Unit {0}
