-- What is written, in the numbers and the bytes that a host gave: the packet of each kind, part by part.
use Rattle.std.specs.Prelude.{ℕ, ◌+◌, ◌*◌, List, [], ◌∷◌, ◌++◌, map, length, take, drop}
use Rattle.wire.specs.Bytes.{joined}
use Rattle.layout.specs.declared.Header.{Header}
use Rattle.layout.specs.Types.{root_length}
use Rattle.layout.specs.Encode.{packet, id_bytes, clock_bytes, header_of, no_ids}
use Rattle.library_writers.specs.declared.given.RcHead.{RcHead}
use Rattle.library_writers.specs.declared.given.RcSignerIds.{RcSignerIds}
use Rattle.library_writers.specs.declared.given.RcArrival.{RcArrival}
use Rattle.library_writers.specs.declared.given.RcArrivals.{RcArrivals}
use Rattle.library_writers.specs.declared.given.RcPlace.{RcPlace}
use Rattle.library_writers.specs.declared.given.RcResponse.{RcResponse}
use Rattle.library_writers.specs.declared.given.RcResponses.{RcResponses}
use Rattle.library_writers.specs.declared.given.RcJobPlace.{RcJobPlace}
use Rattle.library_writers.specs.declared.given.RcJobPlaces.{RcJobPlaces}
use Rattle.library_writers.specs.ReadBack.{header_given}

-- the bytes of a list of entries of w bytes each, as they lie in the source
abbrev pub list_given : ℕ → List ℕ → RcPlace → List ℕ
list_given w source p = take (p.count * w) (drop p.at source)

-- "root (32 bytes for type 3, else 0)"
abbrev pub root_given : RcHead → List ℕ
root_given h = take (root_length h.signature_type) h.root

-- a packet of a kind under a head's numbers, with these parts
unfoldable pub laid : ℕ → RcHead → List (List ℕ) → List ℕ
laid kind h ps = packet (header_given kind (length ps) h) ps

-- "1 NonceRequest: message, root"
abbrev pub request_laid : RcHead → List ℕ → List ℕ
request_laid h message = laid 1 h (message ∷ (root_given h ∷ []))

-- "2 NonceResponse: message, key ids (4 bytes each), nonces (66: D, E)": a nested response's own numbers, and its lists
abbrev pub response_header : RcResponse → Header
response_header p =
    record {
      kind = 2;
      signature_type = 0;
      pairs = 3;
      signer_id = p.signer_id;
      ids = record { dkg_id = p.dkg_id; sign_id = p.sign_id; sign_iter_id = p.sign_iter_id };
    }

abbrev pub response_lists : List ℕ → RcResponse → List (List ℕ)
response_lists source p =
    list_given 1 source p.message ∷ (list_given 4 source p.key_ids ∷ (list_given 66 source p.nonces ∷ []))

unfoldable pub response_laid : List ℕ → RcResponse → List ℕ
response_laid source p = packet (response_header p) (response_lists source p)

-- "3 SignatureShareRequest: message, root, then each response as a whole kind 2 packet"
abbrev pub share_request_laid : RcHead → List ℕ → List ℕ → RcResponses → List ℕ
share_request_laid h message source ps =
    laid 3 h (message ∷ (root_given h ∷ map (response_laid source) (take ps.count ps.places)))

-- "a part per share (id 4, z_i 32, key ids)": 36 bytes of each share from `at` on, its so many key ids from `keys` on
unfoldable pub shares_laid : List ℕ → ℕ → ℕ → List ℕ → List (List ℕ)
shares_laid source at keys [] = []
shares_laid source at keys (n ∷ ns) =
    (take 36 (drop at source) ++ take (n * 4) (drop keys source)) ∷ shares_laid source (at + 36) (keys + n * 4) ns

unfoldable pub all_shares : List ℕ → List RcJobPlace → List (List ℕ)
all_shares source [] = []
all_shares source (p ∷ ps) =
    shares_laid source p.shares.at p.share_keys_at (take p.shares.count p.share_key_counts) ++ all_shares source ps

-- "32 job (message, root, key ids, nonces, a part per share)", "each signer's list, joined"
unfoldable pub job_laid : RcHead → List ℕ → List ℕ → RcJobPlaces → List ℕ
job_laid h message source ps =
    let signers = take ps.count ps.places in
    let keys = map (λ (p : RcJobPlace). list_given 4 source p.key_ids) signers in
    let nonces = map (λ (p : RcJobPlace). list_given 66 source p.nonces) signers in
    laid 32 h (message ∷ (root_given h ∷ (joined keys ∷ (joined nonces ∷ all_shares source signers))))

-- "33 NonceTimeout (waiters, struck), 34 InsufficientSigners (struck)": "33 and 34 have only their lists"
abbrev pub ids_laid : RcSignerIds → List ℕ
ids_laid s = id_bytes (take s.count s.ids)

abbrev pub nonce_timeout_laid : RcSignerIds → RcSignerIds → List ℕ
nonce_timeout_laid waiters malicious = packet (header_of 33 0 2 0 no_ids) (ids_laid waiters ∷ (ids_laid malicious ∷ []))

abbrev pub insufficient_signers_laid : RcSignerIds → List ℕ
insufficient_signers_laid malicious = packet (header_of 34 0 1 0 no_ids) (ids_laid malicious ∷ [])

-- 35, "responder ids .., and their readings, eight bytes each" (02, e)
abbrev pub arrivals_laid : RcArrivals → List ℕ
arrivals_laid s =
    let all = take s.count s.arrivals in
    let signers = map (λ (a : RcArrival). a.signer_id) all in
    let clocks = map (λ (a : RcArrival). a.clock) all in
    packet (header_of 35 0 2 0 no_ids) (id_bytes signers ∷ (clock_bytes clocks ∷ []))
