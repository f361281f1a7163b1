-- What a step can come to, of the packets that it sends: a nonce request, a share request, or neither.
-- Assumes nothing.
use Rattle.std.proofs.lemmas.Option.{none-some}
use Prim.Native.Nat.{ℕ}
use mathlib.Core.Path.{◌≡◌, refl, sym, ◌∙◌}
use mathlib.Core.Bool.{Bool, true, false, cond}
use mathlib.Core.List.{List, [], ◌∷◌}
use Rattle.std.specs.Prelude.{Option, Some, None}
use lib.Dec.{eqb}
use lib.ListN.{get_or}
use Rattle.wire.specs.Bytes.{le}
use Rattle.layout.specs.declared.SignatureType.{SignatureType}
use Rattle.layout.specs.Messages.{NonceRequest, NonceResponse, SignatureShareRequest, SignatureShareResponse, Message, nonce_request, signature_share_request}
use Rattle.layout.specs.Encode.{header_bytes, packet, encode, encode_job, encode_nonce_timeout, encode_insufficient_signers, encode_arrivals}
use Rattle.layout.specs.Decode.{Decoded, taken, refused, decode}
use Rattle.state_table.specs.declared.State.TheVariants.{NonceGather}
use Rattle.state_table.specs.States.{position}
use Rattle.step_definition.specs.Lists.{given, first}
use Rattle.step_definition.specs.Coordinator.{Coordinator, Held, uncommissioned, miscounted, commissioned}
use Rattle.step_definition.specs.Calls.{Start, Entry, process, process_message, Request, commission, other, Call, failing, quiet}
use Rattle.step_definition.specs.Calls.{Operation, set_key, take_results, can_move, start_signing, receive, process_timeout, aggregated}
use Rattle.step_definition.specs.Calls.{reset, tell_arrivals}
use Rattle.step_definition.specs.Calls.{packet as packet_class, Answer, Event, recorded, share_requested, nonce_request_in, share_request_in, Outcome, outcome, sending}
use Rattle.step_definition.specs.Demand3.{Opens}
use Rattle.step_definition.specs.Effects.{recording, freeing}
use Rattle.step_definition.specs.Phases.{Phase, idling, gathering_nonces, gathering_shares, resting, phase_of}
use Rattle.step_definition.specs.Phases.{Content, a_nonce_request, a_nonce_response, a_share_response, a_dkg_begin, unheard, content_of, nonce_response_in, share_response_in}
use Rattle.step_definition.specs.Questions.{asks}
use Rattle.step_definition.specs.Starts.{start_round, idle_request, idle}
use Rattle.step_definition.specs.Timeouts.{nonce_timeout, share_timeout}
use Rattle.step_definition.specs.NonceGather.{NonceVerdict, wrong_id, ignored, no_room, records, nonce_verdict, RecordVerdict, too_few, no_group_key, suffices, record_verdict, on_record, on_nonces}
use Rattle.step_definition.specs.SigShareGather.{ShareVerdict, unawaited, wrong_id as wrong_share_id, refused as refused_shares, unended, good, share_verdict}
use Rattle.step_definition.specs.SigShareGather.{TakeVerdict, already_held, others, last, take_verdict, on_take, on_shares}
use Rattle.step_definition.specs.Step.{message_in, on_message, on_entry, on_packet, on_aggregated, on_results, on_arrivals, own}
use Rattle.step_definition.specs.Step.{on_commission, on_held, step_of, step}
use Rattle.step_definition.proofs.Cases.{cond_case, given_both}
use Rattle.step_definition.proofs.Verdicts.{Before, gets4, gets5, gets6, gets7, goes_on, before_case, TimeoutCase, on_time, nonces_late, shares_late, timeout_case}

-- the coordinator that the nonce request r has just opened a round with
pub record Fresh (now : ℕ) (r : NonceRequest) (c : Coordinator) : Type 0 where
  pub ids : c.ids ≡ r.ids
  pub message : c.round.message ≡ r.message
  pub position : c.position ≡ position (NonceGather r.signature_type) r.root
  pub records : c.round.message_nonces ≡ []
  pub nonce_start : c.round.clocks.nonce_start ≡ Some now
  pub job : c.job ≡ false

-- bytes that are no packet of this kind
abbrev NotKind : ℕ → List ℕ → Type 0
NotKind kind bytes = eqb (get_or bytes 0 0) kind ≡ false

-- what a step at the time now comes to
pub data Leaf (now : ℕ) : Outcome → Type 0 where
  silent :
      {a : Answer} {es : List Event} {h : Held} → nonce_request_in es ≡ None → share_request_in es ≡ None → NotKind 1 a.bytes
      → NotKind 3 a.bytes → Leaf now (outcome a es h)
  opens :
      {es : List Event} {r : NonceRequest} {c : Coordinator} → Fresh now r c → nonce_request_in es ≡ Some r → share_request_in es ≡ None
      → Leaf now (outcome (sending packet_class (encode (nonce_request r))) es (commissioned c))
  asks_shares :
      {id : ℕ} {r : SignatureShareRequest} {h : Held}
      → Leaf now (outcome (sending packet_class (encode (signature_share_request r))) (recorded id ∷ (share_requested r ∷ [])) h)

-- a test, and the leaves, for the search
branch : {now : ℕ} {t : Bool} {a b : Outcome} → (t ≡ true → Leaf now a) → (t ≡ false → Leaf now b) → Leaf now (cond t a b)
branch {now} {t} = cond_case (Leaf now) t

ruleset leaves = (branch, silent, opens, asks_shares)

-- Each part of a step.
module _ (now : ℕ) where
  quietly : (c : Coordinator) → Leaf now (quiet c)
  unfolding first
  quietly c = search leaves

  -- a start, and a nonce request in Idle
  started : (s : Start) (c : Coordinator) → c.job ≡ false → Leaf now (start_round now s c)
  unfolding start_round first
  started s c j = search leaves

  idles : (m : Content) (c : Coordinator) → c.job ≡ false → Leaf now (idle now m c)
  unfolding idle idle_request first
  idles (a_nonce_request r) c j = search (leaves, started)
  idles (a_nonce_response q) c j = quietly c
  idles (a_share_response r) c j = quietly c
  idles (a_dkg_begin dkg) c j = search leaves
  idles unheard c j = quietly c

  -- the query of arrivals
  arrivals_told : (c : Coordinator) → Leaf now (on_arrivals c)
  unfolding on_arrivals encode_arrivals packet header_bytes le first
  arrivals_told c = search leaves

  -- timeouts
  the_nonces_late : (c : Coordinator) → Leaf now (nonce_timeout c)
  unfolding nonce_timeout encode_nonce_timeout packet header_bytes le first
  the_nonces_late c = search leaves

  the_shares_late : (t : SignatureType) (root : List ℕ) (c : Coordinator) → c.job ≡ false → Leaf now (share_timeout now t root c)
  unfolding share_timeout encode_insufficient_signers packet header_bytes le first
  the_shares_late t root c j = search leaves

  unless-late :
      {p : Phase} (c : Coordinator) {o : Option Outcome} (rest : Outcome) → c.job ≡ false → TimeoutCase now c p o → Leaf now rest
      → Leaf now (given o (λ (o : Outcome). o) rest)
  unless-late c rest j on_time l = l
  unless-late c rest j nonces_late l = the_nonces_late c
  unless-late c rest j (shares_late {t = t} e) l = the_shares_late t c.position.root c j

  -- responses, by verdict
  on-record :
      (t : SignatureType) (root : List ℕ) (q : NonceResponse) (c : Coordinator) (v : RecordVerdict) → Leaf now (on_record now t root q c v)
  unfolding on_record first
  on-record t root q c too_few = search leaves
  on-record t root q c no_group_key = search leaves
  on-record t root q c suffices = search leaves

  on-nonces :
      (t : SignatureType) (root : List ℕ) (q : NonceResponse) (c : Coordinator) (v : NonceVerdict) → Leaf now (on_nonces now t root q c v)
  unfolding on_nonces first
  on-nonces t root q c (wrong_id n got expected) = search leaves
  on-nonces t root q c ignored = search leaves
  on-nonces t root q c no_room = search leaves
  on-nonces t root q c records = on-record t root q (recording now q c) (record_verdict q (recording now q c))

  on_take_law :
      (t : SignatureType) (root : List ℕ) (r : SignatureShareResponse) (c : Coordinator) (v : TakeVerdict)
      → Leaf now (on_take t root r c v)
  unfolding on_take encode_job packet header_bytes le first
  on_take_law t root r c already_held = search leaves
  on_take_law t root r c others = search leaves
  on_take_law t root r c last = search leaves

  on-shares :
      (t : SignatureType) (root : List ℕ) (r : SignatureShareResponse) (c : Coordinator) (v : ShareVerdict)
      → Leaf now (on_shares t root r c v)
  unfolding on_shares first
  on-shares t root r c unawaited = search leaves
  on-shares t root r c (wrong_share_id n got expected) = search leaves
  on-shares t root r c (refused_shares n) = search leaves
  on-shares t root r c unended = search leaves
  on-shares t root r c good = on_take_law t root r (freeing r.signer_id c) (take_verdict r (freeing r.signer_id c))

  by_phase : (p : Phase) (m : Content) (c : Coordinator) → c.job ≡ false → Leaf now (message_in now p m c)
  unfolding message_in
  by_phase idling m c j = idles m c j
  by_phase (gathering_nonces t) m c j =
      given_both (Leaf now) (nonce_response_in m) (λ q. on-nonces t c.position.root q c (nonce_verdict q c)) (quietly c)
  by_phase (gathering_shares t) m c j =
      given_both (Leaf now) (share_response_in m) (λ r. on-shares t c.position.root r c (share_verdict r c)) (quietly c)
  by_phase resting m c j = quietly c

module _ (k : Call) (c : Coordinator) where
  -- a message past 13 and 14, a packet, what a call does itself
  the_on_message : (m : Message) → c.job ≡ false → Leaf k.clock (on_message k.clock k.verdict m c)
  unfolding on_message first
  the_on_message m j =
      let rest : Leaf k.clock (message_in k.clock (phase_of c.position.state) (content_of m) c) = by_phase k.clock (phase_of c.position.state) (content_of m) c j in
      search leaves

  the_on_entry : (entry : Entry) (m : Message) → c.job ≡ false → Leaf k.clock (on_entry entry k.clock k.verdict m c)
  the_on_entry process m j = unless-late k.clock c _ j (timeout_case k.clock c (phase_of c.position.state)) (the_on_message m j)
  the_on_entry process_message m j = the_on_message m j

  the_on_packet : (entry : Entry) (d : Decoded) → c.job ≡ false → Leaf k.clock (on_packet entry k.clock k.verdict d c)
  unfolding on_packet first
  the_on_packet entry (taken m) j = the_on_entry entry m j
  the_on_packet entry (refused n) j = search leaves

  owns : (o : Operation) → ((asks o).no_job ≡ true → c.job ≡ false) → Leaf k.clock (own k o c)
  unfolding own asks on_results on_aggregated first
  owns (set_key which held) j = search leaves
  owns (take_results dkg ended) j = search leaves
  owns (can_move p) j = search leaves
  owns (start_signing s) j = let l : Leaf k.clock (start_round k.clock s c) = started k.clock s c (j refl) in search leaves
  owns (receive entry bytes) j = the_on_packet entry (decode bytes) (j refl)
  owns process_timeout j =
      unless-late k.clock c _ (j refl) (timeout_case k.clock c (phase_of c.position.state)) (quietly k.clock c)
  owns (aggregated ok) j = search leaves
  owns reset j = search leaves
  owns tell_arrivals j = arrivals_told k.clock c

  -- 4 to 7 first
  asked : (o : Operation) {n : Option ℕ} → Before o c n → Leaf k.clock (given n (λ (n : ℕ). failing n [] c) (own k o c))
  unfolding first
  asked o gets4 = search leaves
  asked o gets5 = search leaves
  asked o gets6 = search leaves
  asked o gets7 = search leaves
  asked o (goes_on f g) = owns o f

held_leaf : (k : Call) (o : Operation) (h : Held) → Leaf k.clock (on_held k o h)
unfolding on_held first
held_leaf k o uncommissioned = search leaves
held_leaf k o miscounted = search leaves
held_leaf k o (commissioned c) = asked k c o (before_case k o c)

of_request : (k : Call) (r : Request) (h : Held) → Leaf k.clock (step_of k r h)
unfolding step_of on_commission first
of_request k (commission g) h = search leaves
of_request k (other o) h = held_leaf k o h

pub leaf : (k : Call) (h : Held) → Leaf k.clock (step k h)
leaf k h = of_request k k.request h

-- what an opening call leaves
opened :
    {now : ℕ} {o : Outcome} (r : NonceRequest) (c : Coordinator) → Leaf now o → nonce_request_in o.events ≡ Some r
    → o.after ≡ commissioned c → Fresh now r c
unfolding first
opened r c (silent n s a b) e f = absurd (none-some r (sym n ∙ e))
opened {now} r c (opens {r = r'} {c = c'} w n s) e f =
    let p : r' ≡ r = cc in
    let q : c' ≡ c = cc in
    rw (← p, ← q) w
opened r c asks_shares e f = absurd (none-some r e)

pub opening : (k : Call) (h : Held) (r : NonceRequest) (c : Coordinator) → Opens k h r c → Fresh k.clock r c
opening k h r c o = opened r c (leaf k h) o.sends o.leaves
