-- Which messages can be encoded: numbers that fit their fields, bytes that are bytes, points of 33 bytes, scalars and roots of 32.
use Rattle.std.specs.Prelude.{ℕ, ◌<◌, ◌^◌, ◌≡◌, List, length}
use Rattle.wire.specs.Bytes.{Bytes, All}
use Rattle.layout.specs.declared.Ids.{Ids}
use Rattle.layout.specs.Types.{type_number, root_length}
use Rattle.layout.specs.Messages.{Nonce, SignatureShare, NonceRequest, NonceResponse, SignatureShareRequest}
use Rattle.layout.specs.Messages.{SignatureShareResponse, Message}
use Rattle.layout.specs.Messages.{nonce_request, nonce_response, signature_share_request, signature_share_response, dkg_begin}
use Rattle.layout.specs.Messages.{dkg_signer, dkg_coordinator}
use Rattle.layout.specs.Encode.{parts, encode}

pub record IdsFit (i : Ids) : Type 0 where
  pub dkg_id : i.dkg_id < 2 ^ 64
  pub sign_id : i.sign_id < 2 ^ 64
  pub sign_iter_id : i.sign_iter_id < 2 ^ 64

pub record Sized (n : ℕ) (s : List ℕ) : Type 0 where
  pub bytes : Bytes s
  pub size : length s ≡ n

pub record NonceFits (n : Nonce) : Type 0 where
  pub D : Sized 33 n.D
  pub E : Sized 33 n.E

abbrev pub IdsListed : List ℕ → Type 0
IdsListed ids = All (λ (k : ℕ). k < 2 ^ 32) ids

pub record ShareFits (s : SignatureShare) : Type 0 where
  pub id : s.id < 2 ^ 32
  pub z_i : Sized 32 s.z_i
  pub key_ids : IdsListed s.key_ids

pub record RequestFits (r : NonceRequest) : Type 0 where
  pub ids : IdsFit r.ids
  pub message : Bytes r.message
  pub root : Sized (root_length (type_number r.signature_type)) r.root

pub record ResponseFits (r : NonceResponse) : Type 0 where
  pub ids : IdsFit r.ids
  pub signer_id : r.signer_id < 2 ^ 32
  pub message : Bytes r.message
  pub key_ids : IdsListed r.key_ids
  pub nonces : All NonceFits r.nonces

pub record ShareRequestFits (r : SignatureShareRequest) : Type 0 where
  pub ids : IdsFit r.ids
  pub message : Bytes r.message
  pub root : Sized (root_length (type_number r.signature_type)) r.root
  pub nonce_responses : All ResponseFits r.nonce_responses

pub record ShareResponseFits (r : SignatureShareResponse) : Type 0 where
  pub ids : IdsFit r.ids
  pub signer_id : r.signer_id < 2 ^ 32
  pub signature_shares : All ShareFits r.signature_shares

abbrev pub Fits : Message → Type 0
Fits (nonce_request r) = RequestFits r
Fits (nonce_response r) = ResponseFits r
Fits (signature_share_request r) = ShareRequestFits r
Fits (signature_share_response r) = ShareResponseFits r
Fits (dkg_begin dkg) = dkg < 2 ^ 64
Fits (dkg_signer signer dkg) = (signer < 2 ^ 32) × (dkg < 2 ^ 64)
Fits (dkg_coordinator dkg) = dkg < 2 ^ 64

-- offsets and lengths fit four bytes, the number of pairs two
abbrev pub Addressable : Message → Type 0
Addressable m = (length (encode m) < 2 ^ 32) × (length (parts m) < 2 ^ 16)
