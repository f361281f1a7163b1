-- Which part of a packet is which list of its message.
use Rattle.std.specs.Prelude.{ℕ, ◌+◌, ◌*◌, ◌<◌, ◌≡◌, cond, List, [], ltb, length, get_or}
use Rattle.layout.specs.LaidOut.{part_at}
use Rattle.layout.specs.Messages.{NonceRequest, NonceResponse, SignatureShareRequest, SignatureShareResponse}
use Rattle.layout.specs.Messages.{nonce_request, nonce_response, signature_share_request, signature_share_response}
use Rattle.layout.specs.Decode.{taken, decode, ids_in, nonces_in, response_in, share_in}

-- part i of a packet with so many pairs; nothing where there is none
unfoldable pub part_in : List ℕ → ℕ → ℕ → List ℕ
part_in s pairs i = cond (ltb i pairs) (part_at s (32 + 8 * i)) []

-- the bytes r are the message of the packet s
pub record MessageOf (s r : List ℕ) : Type 0 where
  pub request : (m : NonceRequest) → decode s ≡ taken (nonce_request m) → r ≡ m.message
  pub response : (m : NonceResponse) → decode s ≡ taken (nonce_response m) → r ≡ m.message
  pub share_request : (m : SignatureShareRequest) → decode s ≡ taken (signature_share_request m) → r ≡ m.message

-- the root
pub record RootOf (s r : List ℕ) : Type 0 where
  pub request : (m : NonceRequest) → decode s ≡ taken (nonce_request m) → r ≡ m.root
  pub share_request : (m : SignatureShareRequest) → decode s ≡ taken (signature_share_request m) → r ≡ m.root

-- the key ids of a response, four bytes each
abbrev pub KeyIdsOf : List ℕ → List ℕ → Type 0
KeyIdsOf s r = (m : NonceResponse) → decode s ≡ taken (nonce_response m) → ids_in r ≡ m.key_ids

-- the nonces of a response, 66 bytes each
abbrev pub NoncesOf : List ℕ → List ℕ → Type 0
NoncesOf s r = (m : NonceResponse) → decode s ≡ taken (nonce_response m) → nonces_in r ≡ m.nonces

-- response i nested in a share request: a kind 2 packet of its own
abbrev pub NestedOf : List ℕ → ℕ → List ℕ → Type 0
NestedOf s i r =
    (m : SignatureShareRequest) → decode s ≡ taken (signature_share_request m) → i < length m.nonce_responses
    → decode r ≡ taken (nonce_response (get_or m.nonce_responses i (response_in [])))

-- share i of a share response: id, z_i and key ids
abbrev pub ShareOf : List ℕ → ℕ → List ℕ → Type 0
ShareOf s i r =
    (m : SignatureShareResponse) → decode s ≡ taken (signature_share_response m) → i < length m.signature_shares
    → share_in r ≡ get_or m.signature_shares i (share_in [])
