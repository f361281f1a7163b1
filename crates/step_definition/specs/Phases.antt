-- What is looked at of a state and of a message when a packet comes: three states gather, and four kinds of message are heard in them.
use Rattle.std.specs.Prelude.{Option, Some, None, ℕ, Bool, true, false}
use Rattle.layout.specs.declared.SignatureType.{SignatureType}
use Rattle.layout.specs.Messages.{NonceRequest, NonceResponse, SignatureShareResponse, Message}
use Rattle.layout.specs.Messages.{nonce_request, nonce_response, signature_share_request, signature_share_response, dkg_begin, dkg_signer, dkg_coordinator}
use Rattle.state_table.specs.declared.State.{State}
use Rattle.state_table.specs.declared.State.TheVariants.{Idle, DkgPublicDistribute, DkgPublicGather, DkgPublicSharesDoneDistribute, DkgPublicSharesDoneGather, DkgPrivateDistribute, DkgPrivateGather, DkgPrivateSharesDoneDistribute, DkgPrivateSharesDoneGather, DkgEndDistribute, DkgEndGather, NonceGather, SigShareRequest, SigShareGather}
use Rattle.state_table.specs.declared.State.TheVariants.{NonceRequest as NonceRequestState}

-- at rest: the DKG states, and NonceRequest and SigShareRequest, in which packets and timeouts do nothing
pub data Phase : Type 0 where
  idling : Phase
  gathering_nonces : SignatureType → Phase
  gathering_shares : SignatureType → Phase
  resting : Phase

abbrev pub phase_of : State → Phase
phase_of Idle = idling
phase_of DkgPublicDistribute = resting
phase_of DkgPublicGather = resting
phase_of DkgPublicSharesDoneDistribute = resting
phase_of DkgPublicSharesDoneGather = resting
phase_of DkgPrivateDistribute = resting
phase_of DkgPrivateGather = resting
phase_of DkgPrivateSharesDoneDistribute = resting
phase_of DkgPrivateSharesDoneGather = resting
phase_of DkgEndDistribute = resting
phase_of DkgEndGather = resting
phase_of (NonceRequestState t) = resting
phase_of (NonceGather t) = gathering_nonces t
phase_of (SigShareRequest t) = resting
phase_of (SigShareGather t) = gathering_shares t

abbrev pub is_idle : Phase → Bool
is_idle idling = true
is_idle (gathering_nonces t) = false
is_idle (gathering_shares t) = false
is_idle resting = false

-- kinds 1, 2, 4 and 5 are heard in some state; 3, 6 and 7 in none
pub data Content : Type 0 where
  a_nonce_request : NonceRequest → Content
  a_nonce_response : NonceResponse → Content
  a_share_response : SignatureShareResponse → Content
  a_dkg_begin : ℕ → Content
  unheard : Content

abbrev pub content_of : Message → Content
content_of (nonce_request r) = a_nonce_request r
content_of (nonce_response q) = a_nonce_response q
content_of (signature_share_request r) = unheard
content_of (signature_share_response r) = a_share_response r
content_of (dkg_begin dkg) = a_dkg_begin dkg
content_of (dkg_signer signer dkg) = unheard
content_of (dkg_coordinator dkg) = unheard

abbrev pub nonce_response_in : Content → Option NonceResponse
nonce_response_in (a_nonce_request r) = None
nonce_response_in (a_nonce_response q) = Some q
nonce_response_in (a_share_response r) = None
nonce_response_in (a_dkg_begin dkg) = None
nonce_response_in unheard = None

abbrev pub share_response_in : Content → Option SignatureShareResponse
share_response_in (a_nonce_request r) = None
share_response_in (a_nonce_response q) = None
share_response_in (a_share_response r) = Some r
share_response_in (a_dkg_begin dkg) = None
share_response_in unheard = None
