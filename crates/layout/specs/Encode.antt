-- How a message is laid out in bytes.
use Rattle.std.specs.Prelude.{ℕ, ◌+◌, ◌*◌, List, [], ◌∷◌, ◌++◌, map, length}
use Rattle.wire.specs.Bytes.{le, joined}
use Rattle.layout.specs.declared.Header.{Header}
use Rattle.layout.specs.declared.Ids.{Ids}
use Rattle.layout.specs.Types.{type_number}
use Rattle.layout.specs.Messages.{Nonce, SignatureShare, NonceResponse, Job, Arrival, Message}
use Rattle.layout.specs.Messages.{nonce_request, nonce_response, signature_share_request, signature_share_response, dkg_begin}
use Rattle.layout.specs.Messages.{dkg_signer, dkg_coordinator}

-- "Byte 0 kind; byte 1 signature type; bytes 2-3 number of pairs; 4-7 signer id; 8-15 dkg id; 16-23 sign id; 24-31 iteration."
unfoldable pub header_bytes : Header → List ℕ
header_bytes h =
    le 1 h.kind
    ++ (le 1 h.signature_type
    ++ (le 2 h.pairs
    ++ (le 4 h.signer_id
    ++ (le 8 h.ids.dkg_id
    ++ (le 8 h.ids.sign_id
    ++ le 8 h.ids.sign_iter_id)))))

-- "Then pairs of offset and length, four bytes each": the first part begins at `at`, "each next where the last ended"
unfoldable pub table : ℕ → List (List ℕ) → List ℕ
table at [] = []
table at (p ∷ ps) = le 4 at ++ (le 4 (length p) ++ table (at + length p) ps)

-- header, pairs, parts: "the first part begins after the pairs", "the last ends the packet"
unfoldable pub packet : Header → List (List ℕ) → List ℕ
packet h ps = header_bytes h ++ (table (32 + 8 * length ps) ps ++ joined ps)

-- "key ids (4 bytes each)", "Signer ids in lists take 4 bytes"
unfoldable pub id_bytes : List ℕ → List ℕ
id_bytes ids = joined (map (le 4) ids)

-- "nonces (66: D, E)"
unfoldable pub nonce_bytes : Nonce → List ℕ
nonce_bytes n = n.D ++ n.E

-- "a part per share (id 4, z_i 32, key ids)"
unfoldable pub share_bytes : SignatureShare → List ℕ
share_bytes s = le 4 s.id ++ (s.z_i ++ id_bytes s.key_ids)

-- a header of a kind with its other fields; a field that the kind lacks is 0
abbrev pub header_of : ℕ → ℕ → ℕ → ℕ → Ids → Header
header_of kind type pairs signer ids = record { kind = kind; signature_type = type; pairs = pairs; signer_id = signer; ids = ids }

-- the ids of a key-generation message
abbrev pub dkg_ids : ℕ → Ids
dkg_ids dkg = record { dkg_id = dkg; sign_id = 0; sign_iter_id = 0 }

-- "2 NonceResponse: message, key ids, nonces"
unfoldable pub response_parts : NonceResponse → List (List ℕ)
response_parts r = r.message ∷ (id_bytes r.key_ids ∷ (joined (map nonce_bytes r.nonces) ∷ []))

unfoldable pub encode_response : NonceResponse → List ℕ
encode_response r = packet (header_of 2 0 3 r.signer_id r.ids) (response_parts r)

-- the header of a message
unfoldable pub header : Message → Header
header (nonce_request r) = header_of 1 (type_number r.signature_type) 2 0 r.ids
header (nonce_response r) = header_of 2 0 3 r.signer_id r.ids
header (signature_share_request r) = header_of 3 (type_number r.signature_type) (2 + length r.nonce_responses) 0 r.ids
header (signature_share_response r) = header_of 4 0 (length r.signature_shares) r.signer_id r.ids
header (dkg_begin dkg) = header_of 5 0 0 0 (dkg_ids dkg)
header (dkg_signer signer dkg) = header_of 6 0 0 signer (dkg_ids dkg)
header (dkg_coordinator dkg) = header_of 7 0 0 0 (dkg_ids dkg)

-- "1 NonceRequest: message, root. 3 SignatureShareRequest: message, root, then each response as a whole kind 2 packet.
-- 4 SignatureShareResponse: a part per share. 5, 6, 7: no pairs."
unfoldable pub parts : Message → List (List ℕ)
parts (nonce_request r) = r.message ∷ (r.root ∷ [])
parts (nonce_response r) = response_parts r
parts (signature_share_request r) = r.message ∷ (r.root ∷ map encode_response r.nonce_responses)
parts (signature_share_response r) = map share_bytes r.signature_shares
parts (dkg_begin dkg) = []
parts (dkg_signer signer dkg) = []
parts (dkg_coordinator dkg) = []

unfoldable pub encode : Message → List ℕ
encode m = packet (header m) (parts m)

-- "Kind 32 has the signature type and the three ids; 33 and 34 have only their lists."
abbrev pub no_ids : Ids
no_ids = record { dkg_id = 0; sign_id = 0; sign_iter_id = 0 }

unfoldable pub encode_job : Job → List ℕ
encode_job j =
    packet (header_of 32 (type_number j.signature_type) (4 + length j.signature_shares) 0 j.ids)
    (j.message ∷ (j.root ∷ (id_bytes j.key_ids ∷ (joined (map nonce_bytes j.nonces) ∷ map share_bytes j.signature_shares))))

-- "33 NonceTimeout (waiters, struck)"
unfoldable pub encode_nonce_timeout : List ℕ → List ℕ → List ℕ
encode_nonce_timeout waiters malicious = packet (header_of 33 0 2 0 no_ids) (id_bytes waiters ∷ (id_bytes malicious ∷ []))

-- "34 InsufficientSigners (struck)"
unfoldable pub encode_insufficient_signers : List ℕ → List ℕ
encode_insufficient_signers malicious = packet (header_of 34 0 1 0 no_ids) (id_bytes malicious ∷ [])

-- "35, with two parts: .. responder ids ascending, and their readings, eight bytes each" (02, e)
abbrev pub arrival_signer : Arrival → ℕ
arrival_signer a = a.signer_id

abbrev pub arrival_clock : Arrival → ℕ
arrival_clock a = a.clock

unfoldable pub clock_bytes : List ℕ → List ℕ
clock_bytes clocks = joined (map (le 8) clocks)

-- "Like 33 and 34, this and later out-only kinds have only their parts."
unfoldable pub encode_arrivals : List Arrival → List ℕ
encode_arrivals arrivals =
    packet (header_of 35 0 2 0 no_ids) (id_bytes (map arrival_signer arrivals) ∷ (clock_bytes (map arrival_clock arrivals) ∷ []))
