-- A signer's packets, as a C host has them: what it gives the writers, what it is told, what lies in its buffer, and what the library's
-- reader tells of the packet.
use Rattle.std.specs.Prelude.{ℕ, zero, suc, ◌^◌, ◌≤◌, ◌<◌, ◌≡◌, List, [], ◌∷◌, ◌++◌, map, length, drop}
use Rattle.layout.specs.Decode.{ids_in, share_in, decode}
use Rattle.parts.specs.Parts.{part_in}
use Rattle.std.specs.Result.{result_unwrap_or}
use Rattle.packet_in_hand.specs.InHand.{counted}
use Rattle.library_reader.specs.declared.RcPacket.{RcPacket}
use Rattle.library_reader.specs.Plain.{packet_of}
use Rattle.responses.specs.Responses.{write_nonce_response, write_signature_share_response}
use Rattle.responses.specs.ReadBack.{SharesRead}
use Rattle.library_writers.specs.declared.given.RcResponseHead.{RcResponseHead}
use Rattle.library_writers.specs.declared.written.RcWritten.{RcWritten}
use Rattle.library_writers.specs.Given.{response_head_of}
use Rattle.library_writers.specs.Written.{WrotePlain}

-- what a call of each writer promises, of its buffer before, its arguments, its answer, and its buffer after
abbrev pub WroteNonceResponse : List ℕ → RcResponseHead → List ℕ → List ℕ → List ℕ → RcWritten → List ℕ → Type 0
WroteNonceResponse out h message key_ids nonces w out' =
    WrotePlain (write_nonce_response (length out) (response_head_of h) message key_ids nonces) out w out'

abbrev pub WroteShareResponse : List ℕ → RcResponseHead → List ℕ → List ℕ → List ℕ → List ℕ → RcWritten → List ℕ → Type 0
WroteShareResponse out h ids z_i counts key_ids w out' =
    WrotePlain (write_signature_share_response (length out) (response_head_of h) ids z_i counts key_ids) out w out'

-- what a head's types hold
pub record HeadHolds (h : RcResponseHead) : Type 0 where
  pub dkg_id : h.dkg_id < 2 ^ 64
  pub sign_id : h.sign_id < 2 ^ 64
  pub sign_iter_id : h.sign_iter_id < 2 ^ 64
  pub signer_id : h.signer_id < 2 ^ 32

-- the header that rc_read_packet tells of a packet under this head, and the bytes of the part that rc_packet_part names
abbrev pub packet_told : ℕ → ℕ → RcResponseHead → RcPacket
packet_told kind pairs h =
    record {
      refusal = 0;
      kind = kind;
      signature_type = 0;
      pairs = pairs;
      signer_id = h.signer_id;
      reserved = 0;
      dkg_id = h.dkg_id;
      sign_id = h.sign_id;
      sign_iter_id = h.sign_iter_id;
    }

abbrev pub part_told : List ℕ → ℕ → List ℕ
part_told s i = part_in s (result_unwrap_or (counted (decode s)) 0) i

-- the n parts from part i on
unfoldable pub parts_told : List ℕ → ℕ → ℕ → List (List ℕ)
parts_told s i zero = []
parts_told s i (suc n) = part_told s i ∷ parts_told s (suc i) n

-- the reader tells what was given, number by number and list by list
pub record NonceResponseTold (h : RcResponseHead) (message key_ids nonces s : List ℕ) : Type 0 where
  pub header_told : packet_of (decode s) ≡ packet_told 2 3 h
  pub message_told : part_told s 0 ≡ message
  pub key_ids_told : ids_in (part_told s 1) ≡ key_ids
  pub nonces_told : part_told s 2 ≡ nonces

pub record ShareResponseTold (h : RcResponseHead) (ids z_i counts key_ids s : List ℕ) : Type 0 where
  pub header_told : packet_of (decode s) ≡ packet_told 4 (length ids) h
  pub shares_told : SharesRead ids z_i counts key_ids (map share_in (parts_told s 0 (length ids)))

-- a number and no length; a length and no number
abbrev pub refusing : ℕ → RcWritten
refusing n = record { refusal = n; reserved = 0; length = 0 }

abbrev pub counting : ℕ → RcWritten
counting n = record { refusal = 0; reserved = 0; length = n }

-- the three answers with what is in the buffer after: as it was, or a packet and then what lay past it
pub data Answered (Taken : Type 0) (size : ℕ) (out : List ℕ) : RcWritten → List ℕ → Type 0 where
  above : (Taken → ⊥) → Answered Taken size out (refusing 9) out
  short : Taken → length out < size → Answered Taken size out (refusing 26) out
  whole : (s : List ℕ) → Taken → size ≤ length out → length s ≡ size → Answered Taken size out (counting size) (s ++ drop size out)

-- the other way: a head with the numbers that the reader tells
abbrev pub head_told : RcPacket → ℕ → RcResponseHead
head_told p reserved =
    record {
      dkg_id = p.dkg_id;
      sign_id = p.sign_id;
      sign_iter_id = p.sign_iter_id;
      signer_id = p.signer_id;
      reserved = reserved;
    }

-- the packet s, written into a buffer that it fits, or refused with 26
pub record WrittenBack (s out : List ℕ) (w : RcWritten) (out' : List ℕ) : Type 0 where
  pub fits : length s ≤ length out → (w ≡ counting (length s)) × (out' ≡ s ++ drop (length s) out)
  pub short : length out < length s → (w ≡ refusing 26) × (out' ≡ out)
