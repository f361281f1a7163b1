-- What a signer's packet says: each field and each list as it was given, read at 01's places.
use Rattle.std.specs.Prelude.{ℕ, ◌+◌, ◌*◌, ◌/◌, ◌%◌, ◌^◌, ◌≤◌, ◌<◌, ◌≡◌, cond, List, map, ltb, length}
use Rattle.wire.specs.Bytes.{number_at, joined}
use Rattle.layout.specs.declared.Ids.{Ids}
use Rattle.layout.specs.Messages.{SignatureShare, nonce_response, signature_share_response}
use Rattle.layout.specs.LaidOut.{header_in, part_at, parts_from}
use Rattle.layout.specs.Decode.{ids_in, share_in, decode, taken}
use Rattle.layout.specs.Fits.{IdsFit}
use Rattle.layout.specs.Limits.{message_limit, list_limit}
use Rattle.framing.specs.Writing.{Writing, written, refused, total}
use Rattle.responses.specs.declared.lists.ResponseHead.{ResponseHead}
use Rattle.responses.specs.Responses.{nonce_response_given, share_response_given}

-- numbers that fit their fields, as those of a head of u64 and u32 do
pub record HeadFits (h : ResponseHead) : Type 0 where
  pub ids : IdsFit h.ids
  pub signer_id : h.signer_id.0 < 2 ^ 32

-- "Byte 0 kind; byte 1 signature type; bytes 2-3 number of pairs; 4-7 signer id; 8-15 dkg id; 16-23 sign id; 24-31 iteration."
pub record HeadRead (k n : ℕ) (h : ResponseHead) (s : List ℕ) : Type 0 where
  pub kind : number_at 1 0 s ≡ k
  pub signature_type : number_at 1 1 s ≡ 0
  pub pairs : number_at 2 2 s ≡ n
  pub signer_id : number_at 4 4 s ≡ h.signer_id.0
  pub dkg_id : number_at 8 8 s ≡ h.ids.dkg_id
  pub sign_id : number_at 8 16 s ≡ h.ids.sign_id
  pub sign_iter_id : number_at 8 24 s ≡ h.ids.sign_iter_id

-- the header and three pairs, then the three lists, four bytes a key id
abbrev pub nonce_response_length : List ℕ → List ℕ → List ℕ → ℕ
nonce_response_length message key_ids nonces = 56 + length message + length key_ids * 4 + length nonces

-- "2 NonceResponse: message, key ids (4 bytes each), nonces (66: D, E)": each list in its pair's part
pub record NonceResponseRead (room : ℕ) (h : ResponseHead) (message key_ids nonces s : List ℕ) : Type 0 where
  pub decoded : decode s ≡ taken (nonce_response (nonce_response_given h message key_ids nonces))
  pub head : HeadRead 2 3 h s
  pub message_read : part_at s 32 ≡ message
  pub key_ids_read : ids_in (part_at s 40) ≡ key_ids
  pub nonces_read : part_at s 48 ≡ nonces
  pub size : length s ≡ nonce_response_length message key_ids nonces
  pub fits_room : length s ≤ room

-- the four lists of some shares, as a writer is given them
abbrev pub ids_of : List SignatureShare → List ℕ
ids_of ss = map (λ (x : SignatureShare). x.id) ss

abbrev pub z_is_of : List SignatureShare → List ℕ
z_is_of ss = joined (map (λ (x : SignatureShare). x.z_i) ss)

abbrev pub counts_of : List SignatureShare → List ℕ
counts_of ss = map (λ (x : SignatureShare). length x.key_ids) ss

abbrev pub key_ids_of : List SignatureShare → List ℕ
key_ids_of ss = joined (map (λ (x : SignatureShare). x.key_ids) ss)

pub record SharesRead (ids z_i counts key_ids : List ℕ) (ss : List SignatureShare) : Type 0 where
  pub ids_read : ids_of ss ≡ ids
  pub z_i_read : z_is_of ss ≡ z_i
  pub counts_read : counts_of ss ≡ counts
  pub key_ids_read : key_ids_of ss ≡ key_ids

-- the header; of each share a pair, its id and its z_i; and the key ids
abbrev pub share_response_length : List ℕ → List ℕ → ℕ
share_response_length ids key_ids = 32 + length ids * 8 + length ids * 36 + length key_ids * 4

-- "4 SignatureShareResponse: a part per share (id 4, z_i 32, key ids)": the parts, share by share
pub record ShareResponseRead (room : ℕ) (h : ResponseHead) (ids z_i counts key_ids s : List ℕ) : Type 0 where
  pub decoded : decode s ≡ taken (signature_share_response (share_response_given h ids z_i counts key_ids))
  pub head : HeadRead 4 (length ids) h s
  pub shares : SharesRead ids z_i counts key_ids (map share_in (parts_from s 32 (length ids)))
  pub size : length s ≡ share_response_length ids key_ids
  pub fits_room : length s ≤ room

-- the other way: who sent a packet, as a head; and a packet lent a buffer of so much room
abbrev pub sender_of : ℕ → Ids → ResponseHead
sender_of signer ids = record { ids = ids; signer_id = record { 0 = signer } }

abbrev pub head_in : List ℕ → ResponseHead
head_in s = sender_of (header_in s).signer_id (header_in s).ids

abbrev pub lent : ℕ → List ℕ → Writing
lent room s = cond (ltb room (length s)) (refused 26) (written s)

-- what 9 asks, in plain conditions
pub record NoncesTaken (message key_ids nonces : List ℕ) : Type 0 where
  pub message_short : length message ≤ message_limit
  pub keys_few : length key_ids ≤ list_limit
  pub nonces_whole : length nonces % 66 ≡ 0
  pub nonces_few : length nonces / 66 ≤ list_limit

-- a z_i and a count for each share, and as many key ids as the counts say
pub record Agree (ids z_i counts key_ids : List ℕ) : Type 0 where
  pub z_i_each : length z_i ≡ length ids * 32
  pub counts_each : length counts ≡ length ids
  pub counts_sum : total counts ≡ length key_ids

pub record SharesTaken (ids z_i counts key_ids : List ℕ) : Type 0 where
  pub shares_few : length ids ≤ list_limit
  pub keys_few : length key_ids ≤ list_limit
  pub agree : Agree ids z_i counts key_ids

-- the three answers, each with the condition that it is given under; no two of the conditions hold together
pub data Answers (Taken : Type 0) (size room : ℕ) : Writing → Type 0 where
  above : (Taken → ⊥) → Answers Taken size room (refused 9)
  short : Taken → room < size → Answers Taken size room (refused 26)
  whole : {s : List ℕ} → Taken → size ≤ room → length s ≡ size → Answers Taken size room (written s)
