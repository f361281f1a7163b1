-- What is written is laid out as the given numbers and bytes say.
-- Assumes nothing.
use Prim.Native.Nat.{ℕ, suc, zero, ◌+◌, ◌*◌, ◌^◌, ◌≤◌, ◌<◌}
use mathlib.Core.Path.{◌≡◌, refl, sym, ap, ◌∙◌}
use mathlib.Core.Bool.{Bool, true, false, cond}
use mathlib.Core.List.{List, [], ◌∷◌, ◌++◌, map, map-append, map-map}
use native.Mathlib.Omega.{arith}
use borrow.Author.Tests.{ltb-false, lt-ltb}
use lib.Dec.{ltb, leb}
use lib.ListN.{length, take, drop, length-map}
use Rattle.wire.specs.Bytes.{Bytes, every}
use Rattle.wire.proofs.Lists.{and_left, and_right}
use Rattle.layout.specs.declared.Header.{Header}
use Rattle.layout.specs.declared.SignatureType.{SignatureType}
use Rattle.layout.specs.declared.SignatureType.TheVariants.{Frost, Schnorr, Taproot, TaprootRoot}
use Rattle.layout.specs.Limits.{message_limit, answer_length}
use Rattle.layout.specs.Messages.{Arrival, nonce_request}
use Rattle.layout.specs.Types.{type_number, type_of, root_length}
use Rattle.layout.specs.Encode.{header_of, packet, header, parts, encode, encode_response, share_bytes, encode_job, encode_nonce_timeout, encode_insufficient_signers}
use Rattle.layout.specs.Encode.{arrival_signer, arrival_clock, encode_arrivals}
use Rattle.layout.specs.LaidOut.{header_in, parts_from}
use Rattle.layout.proofs.Headed.{type_number-type_of}
use Rattle.layout.proofs.Frame.{HeaderFits, header_in_packet, parts_from_packet}
use Rattle.framing.specs.Writing.{Writing, written, refused, writing, write_message, answer, total}
use Rattle.body.specs.Body.{root_of, request_of}
use Rattle.pieces.specs.Places.{bytes_at, response_holds, response_at, places_of, signer_number, signers_of, arrival_of, arrivals_of}
use Rattle.pieces.proofs.Given.{response_held, encode_at, places_hold}
use Rattle.requests.specs.Requests.{share_request_of, write_share_request}
use Rattle.writer.specs.Results.{write_nonce_timeout, write_insufficient_signers, write_arrivals}
use Rattle.job.specs.declared.JobList.TheVariants.{KeyIds, Nonces}
use Rattle.job.specs.Job.{key_counts, share_keys_of, job_holds, signers_in, shares_from, shares_at_place, shares_of, job_of, write_job, list_bytes}
use Rattle.job.proofs.Held.{job_held, counts-few, signers_hold}
use Rattle.job.proofs.Lists.{shares_next, the_key_bytes, nonces_bytes}
use Rattle.library_writers.specs.declared.given.RcHead.{RcHead}
use Rattle.library_writers.specs.declared.given.RcSignerIds.{RcSignerIds}
use Rattle.library_writers.specs.declared.given.RcArrival.{RcArrival}
use Rattle.library_writers.specs.declared.given.RcArrivals.{RcArrivals}
use Rattle.library_writers.specs.declared.given.RcResponse.{RcResponse}
use Rattle.library_writers.specs.declared.given.RcResponses.{RcResponses}
use Rattle.library_writers.specs.declared.given.RcJobPlace.{RcJobPlace}
use Rattle.library_writers.specs.declared.given.RcJobPlaces.{RcJobPlaces}
use Rattle.library_writers.specs.Given.{head_of, signer_id_of, signers_given, place_of, response_of, responses_of, job_place_of, job_places_of}
use Rattle.library_writers.specs.Given.{arrival_given, arrivals_given}
use Rattle.library_writers.specs.Written.{plain, typed}
use Rattle.library_writers.specs.ReadBack.{header_given}
use Rattle.library_writers.proofs.ReadBack.{type_given}
use Rattle.library_writers.specs.Laid.{list_given, root_given, laid, request_laid, response_header, response_lists, response_laid, share_request_laid, shares_laid, all_shares, job_laid, nonce_timeout_laid, insufficient_signers_laid}
use Rattle.library_writers.specs.Laid.{arrivals_laid}

-- bytes that are written are those of a writer that was not refused
abbrev bytes_in : Writing → List ℕ
bytes_in (written s) = s
bytes_in (refused n) = []

unwritten : {P : Type 0} (n : ℕ) (s : List ℕ) → refused n ≡ written s → P
unwritten n s e = let z : ◌≡◌ {A = ℕ} 0 1 = cc in let f : ⊥ = omega arith in absurd f

module _ (s : List ℕ) where
  fine : (room : ℕ) (f : Bool) (bytes : List ℕ) → writing room f bytes ≡ written s → (f ≡ true) × (s ≡ bytes)
  unfolding writing
  fine room f bytes = go (ltb room answer_length) f
    where
      go : (short g : Bool) → cond short (refused 7) (cond g (written bytes) (refused 9)) ≡ written s → (g ≡ true) × (s ≡ bytes)
      go true g e = unwritten 7 s e
      go false true e = (refl, sym (ap bytes_in e))
      go false false e = unwritten 9 s e

  -- a type above 3 is not written
  pub type_written : (t : ℕ) (w : Writing) → typed t w ≡ written s → (t ≤ 3) × (w ≡ written s)
  unfolding typed
  type_written t w = go (ltb 3 t) refl
    where
      go : (b : Bool) → ltb 3 t ≡ b → cond b (refused 8) w ≡ written s → (t ≤ 3) × (w ≡ written s)
      go true h e = unwritten 8 s e
      go false h e = (ltb-false 3 t h, e)

-- it is refused with 8, and any other is asked what the writer asks
pub type_refused : (t : ℕ) (w : Writing) → 3 < t → typed t w ≡ refused 8
unfolding typed
type_refused t w l = rw (lt-ltb 3 t l)

pub type_asked : (t : SignatureType) (w : Writing) → typed (type_number t) w ≡ w
unfolding typed
type_asked Frost w = refl
type_asked Schnorr w = refl
type_asked Taproot w = refl
type_asked TaprootRoot w = refl

-- what C is told: how many bytes were written, or the question's number and no length
pub bytes-told : (s : List ℕ) → plain (answer (written s)) ≡ record { refusal = 0; reserved = 0; length = length s }
unfolding answer
bytes-told s = refl

pub refusal-told : (n : ℕ) → plain (answer (refused n)) ≡ record { refusal = n; reserved = 0; length = 0 }
unfolding answer
refusal-told n = refl

take-map : {A B : Type 0} (f : A → B) (n : ℕ) (xs : List A) → take n (map f xs) ≡ map f (take n xs)
take-map f zero xs = refl
take-map f (suc n) [] = refl
take-map f (suc n) (x ∷ xs) = rw (take-map f n xs)

-- a head's header and root, the type by its number
module _ (h : RcHead) (few : h.signature_type ≤ 3) where
  under-head :
      (kind pairs : ℕ) (ps : List (List ℕ)) → pairs ≡ length ps
      → packet (header_of kind (type_number (type_of h.signature_type)) pairs 0 (header_given kind pairs h).ids) ps ≡ laid kind h ps
  unfolding laid
  under-head kind pairs ps e = rw e (ap (λ (x : Header). packet x ps) (type_given kind (length ps) h few))

  root_laid : root_of (head_of h) ≡ root_given h
  unfolding root_of head_of
  root_laid = ap (λ (t : ℕ). take (root_length t) h.root) (type_number-type_of h.signature_type few)

module _ (h : RcHead) (message s : List ℕ) (room : ℕ) where
  -- kind 1
  pub nonce-request-written :
      typed h.signature_type (write_message room (nonce_request (request_of (head_of h) message))) ≡ written s → s ≡ request_laid h message
  unfolding write_message encode header parts request_of head_of
  nonce-request-written e =
      let t = type_written s h.signature_type _ e in
      (fine s room _ _ t.1).1 ∙ rw (root_laid h t.0) (under-head h t.0 1 2 (message ∷ (root_given h ∷ [])) refl)

  -- kind 3, with the responses nested in it, numbers and lists
  module _ (source : List ℕ) (b : Bytes source) where
    responses-laid :
        (qs : List RcResponse) → every (response_holds (length source)) (map response_of qs) ≡ true
        → map encode_response (map (response_at source) (map response_of qs)) ≡ map (response_laid source) qs
    unfolding response_of place_of response_laid bytes_at
    responses-laid [] e = refl
    responses-laid (q ∷ qs) e =
        let held = response_held (length source) (response_of q) (and_left _ _ e) in
        rw (encode_at source b (response_of q) held, responses-laid qs (and_right (response_holds (length source) (response_of q)) _ e))

    pub share-request-written :
        (ps : RcResponses) → typed h.signature_type (write_share_request room (head_of h) message source (responses_of ps)) ≡ written s
        → s ≡ share_request_laid h message source ps
    unfolding write_share_request encode header parts share_request_of head_of places_of responses_of
    share-request-written ps e =
        let t = type_written s h.signature_type _ e in
        let f = fine s room _ _ t.1 in
        let qs = take ps.count ps.places in
        let live : places_of (responses_of ps) ≡ map response_of qs = take-map response_of ps.count ps.places in
        let hold = places_hold (length source) (responses_of ps) (and_right (leb (length message) message_limit) _ f.0) in
        let nested = responses-laid qs (rw live at hold) in
        let count : 2 + length (map (response_at source) (map response_of qs)) ≡ suc (suc (length (map (response_laid source) qs))) =
        rw (length-map, length-map, length-map) (omega arith) in
        f.1 ∙ rw (live, nested, root_laid h t.0) (under-head h t.0 3 _ _ count)

    -- kind 32
    shares-laid :
        (at keys : ℕ) (ns : List ℕ) → at + 36 * length ns ≤ length source → keys + total ns * 4 ≤ length source
        → map share_bytes (shares_from source at keys ns) ≡ shares_laid source at keys ns
    unfolding shares_from shares_laid total
    shares-laid at keys [] l k = refl
    shares-laid at keys (n ∷ ns) l k =
        shares_next source b at keys n ns (omega arith) (omega arith)
        ∙ ap (λ (ps : List (List ℕ)). (take 36 (drop at source) ++ take (n * 4) (drop keys source)) ∷ ps)
        (shares-laid (at + 36) (keys + n * 4) ns (omega arith) (omega arith))

    all-shares-laid :
        (qs : List RcJobPlace) → every (job_holds (length source)) (map job_place_of qs) ≡ true
        → map share_bytes (shares_of source (map job_place_of qs)) ≡ all_shares source qs
    unfolding shares_of shares_at_place all_shares job_place_of place_of key_counts share_keys_of
    all-shares-laid [] e = refl
    all-shares-laid (q ∷ qs) e =
        let p = job_place_of q in
        let held = job_held (length source) p (and_left _ _ e) in
        let own =
        shares-laid q.shares.at q.share_keys_at (key_counts p) (omega (arith, held.shares, counts-few p))
        (omega (arith, held.share_keys)) in
        rw (map-append share_bytes, own, all-shares-laid qs (and_right (job_holds (length source) p) _ e))

    lists-laid :
        (qs : List RcJobPlace)
        → (map (list_bytes KeyIds source) (map job_place_of qs) ≡ map (λ (p : RcJobPlace). list_given 4 source p.key_ids) qs)
        × (map (list_bytes Nonces source) (map job_place_of qs) ≡ map (λ (p : RcJobPlace). list_given 66 source p.nonces) qs)
    unfolding bytes_at place_of job_place_of
    lists-laid [] = (refl, refl)
    lists-laid (q ∷ qs) = let more = lists-laid qs in (rw more.0, rw more.1)

    pub job-written :
        (ps : RcJobPlaces) → typed h.signature_type (write_job room (head_of h) message source (job_places_of ps)) ≡ written s
        → s ≡ job_laid h message source ps
    unfolding write_job encode_job job_of head_of signers_in job_places_of job_laid
    job-written ps e =
        let t = type_written s h.signature_type _ e in
        let f = fine s room _ _ t.1 in
        let qs = take ps.count ps.places in
        let live : signers_in (job_places_of ps) ≡ map job_place_of qs = take-map job_place_of ps.count ps.places in
        let hold : every (job_holds (length source)) (map job_place_of qs) ≡ true =
        rw live at (signers_hold (length source) (job_places_of ps) (and_right (leb (length message) message_limit) _ f.0)) in
        let lists = lists-laid qs in
        let shares = all-shares-laid qs hold in
        let count : 4 + length (shares_of source (map job_place_of qs)) ≡ suc (suc (suc (suc (length (all_shares source qs))))) =
        rw (← shares, length-map) (omega arith) in
        f.1
        ∙ rw (live, the_key_bytes source b (map job_place_of qs) hold, nonces_bytes source b (map job_place_of qs) hold, lists.0, lists.1, shares)
        (rw (root_laid h t.0) (under-head h t.0 32 _ _ count))

-- read back at 01's places: a packet under a head, and a response nested in it
pub laid_read :
    (kind : ℕ) (h : RcHead) (ps : List (List ℕ)) → HeaderFits (header_given kind (length ps) h) → length (laid kind h ps) < 2 ^ 32
    → (header_in (laid kind h ps) ≡ header_given kind (length ps) h) × (parts_from (laid kind h ps) 32 (length ps) ≡ ps)
unfolding laid
laid_read kind h ps f small =
    let g = header_given kind (length ps) h in (header_in_packet g ps f small, parts_from_packet g ps f small)

pub response_read :
    (source : List ℕ) (p : RcResponse) → HeaderFits (response_header p) → length (response_laid source p) < 2 ^ 32
    → (header_in (response_laid source p) ≡ response_header p) × (parts_from (response_laid source p) 32 3 ≡ response_lists source p)
unfolding response_laid
response_read source p f small =
    let lists = response_lists source p in
    (header_in_packet (response_header p) lists f small, parts_from_packet (response_header p) lists f small)

-- kinds 33 and 34
ids-laid : (s : RcSignerIds) → signers_of (signers_given s) ≡ take s.count s.ids
unfolding signers_of signers_given
ids-laid s = ap (take s.count) (back s.ids)
  where
    back : (ns : List ℕ) → map signer_number (map signer_id_of ns) ≡ ns
    back [] = refl
    back (n ∷ ns) = rw (back ns)

module _ (s : List ℕ) (room : ℕ) (malicious : RcSignerIds) where
  pub nonce-timeout-written :
      (waiters : RcSignerIds) → write_nonce_timeout room (signers_given waiters) (signers_given malicious) ≡ written s
      → s ≡ nonce_timeout_laid waiters malicious
  unfolding write_nonce_timeout encode_nonce_timeout
  nonce-timeout-written waiters e = (fine s room _ _ e).1 ∙ rw (ids-laid waiters, ids-laid malicious)

  pub insufficient-signers-written :
      write_insufficient_signers room (signers_given malicious) ≡ written s → s ≡ insufficient_signers_laid malicious
  unfolding write_insufficient_signers encode_insufficient_signers
  insufficient-signers-written e = (fine s room _ _ e).1 ∙ rw (ids-laid malicious)

-- kind 35
module _ (given : RcArrivals) where
  column-laid :
      (f : Arrival → ℕ)
      → map f (arrivals_of (arrivals_given given))
      ≡ map (λ (a : RcArrival). f (arrival_of (arrival_given a))) (take given.count given.arrivals)
  unfolding arrivals_of arrivals_given
  column-laid f = rw (map-map arrival_of arrival_given, take-map, map-map f)

  pub arrivals-written :
      (s : List ℕ) (room : ℕ) → write_arrivals room (arrivals_given given) ≡ written s → s ≡ arrivals_laid given
  unfolding write_arrivals encode_arrivals arrival_given
  arrivals-written s room e = (fine s room _ _ e).1 ∙ rw (column-laid arrival_signer, column-laid arrival_clock)
