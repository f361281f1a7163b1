-- 01, "Demand 3", the round's book: "fed the request, its clock, the four things that demand 3 wants equal, then each call's arguments,
-- clock reading, buffer lengths and verdict. It starts empty." It looks at no coordinator and builds none.
use Rattle.std.specs.Prelude.{Option, Some, None, ℕ, suc, ◌-◌, Bool, false, cond, not, ◌&&◌, ◌||◌, List, [], ◌∷◌, ◌++◌, eqb, ltb, leb, length}
use Rattle.wire.specs.Bytes.{are_same_bytes}
use Rattle.layout.specs.Limits.{record_limit, store_length, answer_length}
use Rattle.layout.specs.declared.Ids.{Ids}
use Rattle.layout.specs.Messages.{NonceRequest, NonceResponse, SignatureShareRequest}
use Rattle.layout.specs.Decode.{Decoded, taken, refused, decode}
use Rattle.step_definition.specs.Lists.{is_some, given, find, change, insert_by}
use Rattle.step_definition.specs.Ids.{insert_all}
use Rattle.step_definition.specs.Configuration.{configured}
use Rattle.step_definition.specs.Coordinator.{Keys, Standing, responder_id, responded}
use Rattle.step_definition.specs.Calls.{Entry, process, process_message, Call, Brought, a_packet, a_start, a_key, no_more, brought, setting}
use Rattle.step_definition.specs.Phases.{content_of, nonce_response_in}
use Rattle.step_definition.specs.Questions.{admitted}

-- the request, its clock, and the four things: configuration, key-generation results (their dkg id stands in the request), held keys,
-- malicious list (01: struck)
pub record Opened : Type 0 where
  pub request : NonceRequest
  pub clock : ℕ
  pub standing : Standing

-- the entries for one message, ascending by signer
pub record Page : Type 0 where
  pub message : List ℕ
  pub entries : List NonceResponse

pub record ResponseLog : Type 0 where
  pub keys : Keys
  pub pages : List Page

abbrev pub is_page : List ℕ → Page → Bool
is_page m p = are_same_bytes m p.message

abbrev pub has_page : List ℕ → List Page → Bool
has_page m ps = is_some (find (is_page m) ps)

abbrev pub entries_for : List ℕ → List Page → List NonceResponse
entries_for m ps = given (find (is_page m) ps) (λ (p : Page). p.entries) []

-- an entry on the page of its message, a new one where there is none
abbrev pub enter : NonceResponse → List Page → List Page
enter q ps =
    change (is_page q.message)
    (λ (p : Page). record { message = p.message; entries = insert_by responder_id q p.entries })
    (record { message = q.message; entries = q ∷ [] } ∷ [])
    ps

unfoldable pub same_ids : Ids → Ids → Bool
same_ids a b = eqb a.dkg_id b.dkg_id && eqb a.sign_id b.sign_id && eqb a.sign_iter_id b.sign_iter_id

-- "the nonce timeout, if the call tests it, doesn't fire": `process` tests it, and the clock was started by the request
unfoldable pub late : Entry → Option ℕ → ℕ → ℕ → Bool
late process timeout began now = given timeout (λ (t : ℕ). ltb t (now - began)) false
late process_message timeout began now = false

-- "A call enters its kind 2 packet ... where each question asked of it before 12 is yes (what 4 and 5 ask of the state counts as yes);
-- the nonce timeout, if the call tests it, doesn't fire; 13 and 14 (where verification is on), 16 to 18 (against the request's ids) and
-- the silent tests are yes; under 4 messages have entries or this one has; its signer has none for it."
unfoldable pub enters : Opened → ResponseLog → Call → Entry → NonceResponse → Bool
enters o l k entry q =
    let s = o.standing in
    let verify = s.config.verify_packet_sigs in
    leb store_length k.store
    && leb answer_length k.room
    && not (late entry s.config.timeouts.nonce o.clock k.clock)
    && (not verify || l.keys.coordinator_public_key)
    && (not verify || (configured s.config q.signer_id && k.verdict))
    && same_ids q.ids o.request.ids
    && admitted s.config s.dkg_end_messages s.malicious_signer_ids q
    && (has_page q.message l.pages || ltb (length l.pages) record_limit)
    && not (responded q.signer_id (entries_for q.message l.pages))

-- 8 and 9: the kind 2 packet that the bytes are
unfoldable pub response_in : Decoded → Option NonceResponse
response_in (taken m) = nonce_response_in (content_of m)
response_in (refused n) = None

abbrev pub when : (NonceResponse → Bool) → Option NonceResponse → Option NonceResponse
when f None = None
when f (Some q) = cond (f q) (Some q) None

-- the entry that a call makes
unfoldable pub entry_of : Opened → ResponseLog → Call → Brought → Option NonceResponse
entry_of o l k (a_packet entry bytes) = when (enters o l k entry) (response_in (decode bytes))
entry_of o l k (a_start s) = None
entry_of o l k (a_key which held) = None
entry_of o l k no_more = None

-- "a call that sets or clears held keys and isn't refused does so in the book too"
unfoldable pub keys_after : Call → Brought → Keys → Keys
keys_after k (a_packet entry bytes) keys = keys
keys_after k (a_start s) keys = keys
keys_after k (a_key which held) keys = cond (leb store_length k.store) (setting which held keys) keys
keys_after k no_more keys = keys

abbrev pub entered : Option NonceResponse → List Page → List Page
entered entry ps = given entry (λ (q : NonceResponse). enter q ps) ps

unfoldable pub logged : Opened → ResponseLog → Call → ResponseLog
logged o l k =
    let b = brought k.request in
    record { keys = keys_after k b l.keys; pages = entered (entry_of o l k b) l.pages }

unfoldable pub empty : Opened → ResponseLog
empty o = record { keys = o.standing.keys; pages = [] }

-- the different key ids over a message's entries
unfoldable pub all_keys : List NonceResponse → List ℕ
all_keys [] = []
all_keys (q ∷ qs) = q.key_ids ++ all_keys qs

unfoldable pub different_keys : List NonceResponse → ℕ
different_keys qs = length (insert_all (all_keys qs) [])

-- "that message and its entries, ascending by signer, lists as sent"
unfoldable pub share_request_for : Opened → List ℕ → List NonceResponse → SignatureShareRequest
share_request_for o m qs =
    let r = o.request in
    record { ids = r.ids; message = m; signature_type = r.signature_type; root = r.root; nonce_responses = qs }

-- where a call's entry leaves its message with `sign_threshold` or more different key ids: the share request
unfoldable pub completes : Opened → List Page → Option NonceResponse → Option SignatureShareRequest
completes o ps None = None
completes o ps (Some q) =
    let qs = entries_for q.message (enter q ps) in
    cond (leb o.standing.config.sign_threshold (different_keys qs)) (Some (share_request_for o q.message qs)) None

-- the first call of a list that does so, by its place, with the share request
pub record Place : Type 0 where
  pub call : ℕ
  pub request : SignatureShareRequest

unfoldable pub or_later : Option SignatureShareRequest → Option Place → Option Place
or_later None rest = given rest (λ (p : Place). Some (record { call = suc p.call; request = p.request })) None
or_later (Some r) rest = Some (record { call = 0; request = r })

unfoldable pub first_named : Opened → ResponseLog → List Call → Option Place
first_named o l [] = None
first_named o l (k ∷ ks) = or_later (completes o l.pages (entry_of o l k (brought k.request))) (first_named o (logged o l k) ks)

-- the log after a list of calls
unfoldable pub log_after : Opened → ResponseLog → List Call → ResponseLog
log_after o l [] = l
log_after o l (k ∷ ks) = log_after o (logged o l k) ks
