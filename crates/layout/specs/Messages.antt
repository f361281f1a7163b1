-- Messages: "A kind has the fields of its net.rs struct". Numbers as numbers, lists as lists, points and scalars as their bytes.
use Rattle.std.specs.Prelude.{ℕ, List}
use Rattle.layout.specs.declared.SignatureType.{SignatureType}
use Rattle.layout.specs.declared.Ids.{Ids}

-- a public nonce: two points of 33 bytes
pub record Nonce : Type 0 where
  pub D : List ℕ
  pub E : List ℕ

-- a share: its party's id, the scalar z_i of 32 bytes, its key ids
pub record SignatureShare : Type 0 where
  pub id : ℕ
  pub z_i : List ℕ
  pub key_ids : List ℕ

-- root: the 32 bytes of a Taproot root, empty for the other types
pub record NonceRequest : Type 0 where
  pub ids : Ids
  pub message : List ℕ
  pub signature_type : SignatureType
  pub root : List ℕ

pub record NonceResponse : Type 0 where
  pub ids : Ids
  pub signer_id : ℕ
  pub message : List ℕ
  pub key_ids : List ℕ
  pub nonces : List Nonce

pub record SignatureShareRequest : Type 0 where
  pub ids : Ids
  pub message : List ℕ
  pub signature_type : SignatureType
  pub root : List ℕ
  pub nonce_responses : List NonceResponse

pub record SignatureShareResponse : Type 0 where
  pub ids : Ids
  pub signer_id : ℕ
  pub signature_shares : List SignatureShare

-- kinds 1 to 7. 5 is DkgBegin, 6 another key-generation message of a signer, 7 of a coordinator; each with its dkg id
pub data Message : Type 0 where
  nonce_request : NonceRequest → Message
  nonce_response : NonceResponse → Message
  signature_share_request : SignatureShareRequest → Message
  signature_share_response : SignatureShareResponse → Message
  dkg_begin : ℕ → Message
  dkg_signer : ℕ → ℕ → Message
  dkg_coordinator : ℕ → Message

-- "Out only: 32 job (message, root, key ids, nonces, a part per share)": the aggregator's input
pub record Job : Type 0 where
  pub ids : Ids
  pub message : List ℕ
  pub signature_type : SignatureType
  pub root : List ℕ
  pub key_ids : List ℕ
  pub nonces : List Nonce
  pub signature_shares : List SignatureShare

-- 02, e): "Each recorded nonce response keeps the clock reading of its call": whose it is, and the reading
pub record Arrival : Type 0 where
  pub signer_id : ℕ
  pub clock : ℕ
