-- What a packet says, question 9, and `decode`: the message, or the number of the question that is answered no.
use Rattle.std.specs.Prelude.{ℕ, zero, suc, ◌+◌, ◌-◌, ◌/◌, Bool, true, cond, ◌&&◌, List, [], ◌∷◌, map, leb, length, take, drop}
use Rattle.wire.specs.Bytes.{number, number_at, every}
use Rattle.layout.specs.Limits.{message_limit, list_limit, signer_limit}
use Rattle.layout.specs.Types.{type_of}
use Rattle.layout.specs.LaidOut.{header_in, part_at, parts_from, by_kind, is_laid_out}
use Rattle.layout.specs.Messages.{Nonce, SignatureShare, NonceRequest, NonceResponse, SignatureShareRequest}
use Rattle.layout.specs.Messages.{SignatureShareResponse, Message}
use Rattle.layout.specs.Messages.{nonce_request, nonce_response, signature_share_request, signature_share_response, dkg_begin}
use Rattle.layout.specs.Messages.{dkg_signer, dkg_coordinator}

-- the first k entries of w bytes each
unfoldable pub entries : ℕ → ℕ → List ℕ → List (List ℕ)
entries w zero s = []
entries w (suc k) s = take w s ∷ entries w k (drop w s)

unfoldable pub ids_in : List ℕ → List ℕ
ids_in s = map number (entries 4 (length s / 4) s)

unfoldable pub nonce_in : List ℕ → Nonce
nonce_in s = record { D = take 33 s; E = drop 33 s }

unfoldable pub nonces_in : List ℕ → List Nonce
nonces_in s = map nonce_in (entries 66 (length s / 66) s)

unfoldable pub share_in : List ℕ → SignatureShare
share_in s = record { id = number_at 4 0 s; z_i = take 32 (drop 4 s); key_ids = ids_in (drop 36 s) }

unfoldable pub response_in : List ℕ → NonceResponse
response_in s =
    record {
      ids = (header_in s).ids;
      signer_id = (header_in s).signer_id;
      message = part_at s 32;
      key_ids = ids_in (part_at s 40);
      nonces = nonces_in (part_at s 48);
    }

unfoldable pub request_in : List ℕ → NonceRequest
request_in s =
    record {
      ids = (header_in s).ids;
      message = part_at s 32;
      signature_type = type_of (header_in s).signature_type;
      root = part_at s 40;
    }

unfoldable pub share_request_in : List ℕ → SignatureShareRequest
share_request_in s =
    record {
      ids = (header_in s).ids;
      message = part_at s 32;
      signature_type = type_of (header_in s).signature_type;
      root = part_at s 40;
      nonce_responses = map response_in (parts_from s 48 ((header_in s).pairs - 2));
    }

unfoldable pub share_response_in : List ℕ → SignatureShareResponse
share_response_in s =
    record {
      ids = (header_in s).ids;
      signer_id = (header_in s).signer_id;
      signature_shares = map share_in (parts_from s 32 (header_in s).pairs);
    }

-- what a packet that is laid out says
unfoldable pub message_in : List ℕ → Message
message_in s =
    by_kind (header_in s).kind
    (nonce_request (request_in s))
    (nonce_response (response_in s))
    (signature_share_request (share_request_in s))
    (signature_share_response (share_response_in s))
    (dkg_begin (header_in s).ids.dkg_id)
    (dkg_signer (header_in s).signer_id (header_in s).ids.dkg_id)
    (dkg_coordinator (header_in s).ids.dkg_id)
    (dkg_coordinator 0)

-- Question 9: "message ≤ 256 bytes; per response ≤ 16 key ids, ≤ 16 nonces, ≤ 16 shares with ≤ 16 key ids in all; ≤ 10 responses
-- nested (9)?"
unfoldable pub response_within : NonceResponse → Bool
response_within r = leb (length r.message) message_limit && leb (length r.key_ids) list_limit && leb (length r.nonces) list_limit

-- the key ids of all shares, counted
unfoldable pub key_count : List SignatureShare → ℕ
key_count [] = 0
key_count (s ∷ ss) = length s.key_ids + key_count ss

unfoldable pub within : Message → Bool
within (nonce_request r) = leb (length r.message) message_limit
within (nonce_response r) = response_within r
within (signature_share_request r) =
    leb (length r.message) message_limit && leb (length r.nonce_responses) signer_limit && every response_within r.nonce_responses
within (signature_share_response r) = leb (length r.signature_shares) list_limit && leb (key_count r.signature_shares) list_limit
within (dkg_begin dkg) = true
within (dkg_signer signer dkg) = true
within (dkg_coordinator dkg) = true

-- the reader's answer: a message, or the number of a question
pub data Decoded : Type 0 where
  taken : Message → Decoded
  refused : ℕ → Decoded

unfoldable pub decode : List ℕ → Decoded
decode s = cond (is_laid_out s) (cond (within (message_in s)) (taken (message_in s)) (refused 9)) (refused 8)
