-- What the reader tells a host, field by field: against 01's places in the packet's bytes, and against the names of the message's header.
use Rattle.std.specs.Prelude.{ℕ, ◌≡◌, List, length, take, drop}
use Rattle.wire.specs.Bytes.{number_at}
use Rattle.layout.specs.declared.Header.{Header}
use Rattle.library_reader.specs.declared.RcPacket.{RcPacket}
use Rattle.library_reader.specs.declared.RcPart.{RcPart}

-- "Byte 0 kind; byte 1 signature type; bytes 2-3 number of pairs; 4-7 signer id; 8-15 dkg id; 16-23 sign id; 24-31 iteration."
pub record AtPlaces (s : List ℕ) (p : RcPacket) : Type 0 where
  pub refusal : p.refusal ≡ 0
  pub kind : p.kind ≡ number_at 1 0 s
  pub signature_type : p.signature_type ≡ number_at 1 1 s
  pub pairs : p.pairs ≡ number_at 2 2 s
  pub signer_id : p.signer_id ≡ number_at 4 4 s
  pub reserved : p.reserved ≡ 0
  pub dkg_id : p.dkg_id ≡ number_at 8 8 s
  pub sign_id : p.sign_id ≡ number_at 8 16 s
  pub sign_iter_id : p.sign_iter_id ≡ number_at 8 24 s

-- the same by name, of a message's header
pub record Tells (h : Header) (p : RcPacket) : Type 0 where
  pub refusal : p.refusal ≡ 0
  pub kind : p.kind ≡ h.kind
  pub signature_type : p.signature_type ≡ h.signature_type
  pub pairs : p.pairs ≡ h.pairs
  pub signer_id : p.signer_id ≡ h.signer_id
  pub reserved : p.reserved ≡ 0
  pub dkg_id : p.dkg_id ≡ h.ids.dkg_id
  pub sign_id : p.sign_id ≡ h.ids.sign_id
  pub sign_iter_id : p.sign_iter_id ≡ h.ids.sign_iter_id

-- a packet that is not taken: the question's number, and all else is 0
pub record NotTaken (n : ℕ) (p : RcPacket) : Type 0 where
  pub refusal : p.refusal ≡ n
  pub kind : p.kind ≡ 0
  pub signature_type : p.signature_type ≡ 0
  pub pairs : p.pairs ≡ 0
  pub signer_id : p.signer_id ≡ 0
  pub reserved : p.reserved ≡ 0
  pub dkg_id : p.dkg_id ≡ 0
  pub sign_id : p.sign_id ≡ 0
  pub sign_iter_id : p.sign_iter_id ≡ 0

-- a part: where it begins in the packet, how long it is, and its bytes
pub record PartTold (s : List ℕ) (begins : ℕ) (part : List ℕ) (p : RcPart) : Type 0 where
  pub at : p.at ≡ begins
  pub size : p.length ≡ length part
  pub bytes : take p.length (drop p.at s) ≡ part
