-- Every answer of a coordinator within question 4's limits fits an answer buffer of 19,232 bytes, which question 7 asks for.
-- Assumes nothing.
use Prim.Native.Nat.{ℕ, ◌≤◌}
use mathlib.Core.Path.{◌≡◌, refl}
use mathlib.Core.Bool.{Bool, true, false, cond}
use mathlib.Core.List.{List, []}
use Rattle.std.specs.Prelude.{Option}
use native.Mathlib.Nat.{min-le_left}
use native.Mathlib.Omega.{arith}
use lib.ListN.{length, length-take}
use borrow.Author.Tests.{leb-true}
use Rattle.wire.specs.Bytes.{Bytes, All}
use Rattle.wire.proofs.Lists.{and_left, and_right}
use Rattle.layout.specs.declared.SignatureType.{SignatureType}
use Rattle.layout.specs.Limits.{message_limit, signer_limit, answer_length}
use Rattle.layout.specs.Types.{type_number, root_length}
use Rattle.layout.specs.Messages.{NonceRequest, NonceResponse, SignatureShareRequest, SignatureShareResponse}
use Rattle.layout.specs.Messages.{Message, nonce_request, signature_share_request}
use Rattle.layout.specs.Encode.{encode, encode_nonce_timeout, encode_insufficient_signers, encode_arrivals}
use Rattle.layout.specs.Decode.{Decoded, taken, refused, decode, response_within}
use Rattle.layout.proofs.Limits.{root-length}
use Rattle.layout.proofs.Lengths.{ResponseLimited, ResponsesLimited, SharesLimited, nonce_request-length, share_request-length, job-length}
use Rattle.layout.proofs.Lengths.{nonce_timeout-length, insufficient-signers-length, arrivals-length}
use Rattle.layout.proofs.RoundTrip.{decode-fits}
use Rattle.step_definition.specs.Lists.{given}
use Rattle.step_definition.specs.Ids.{insert_all}
use Rattle.step_definition.specs.Coordinator.{Coordinator, Held, uncommissioned, miscounted, commissioned}
use Rattle.step_definition.specs.Coordinator.{SignRoundInfo, SignerShares, record_of, current_record, arrivals_of, waiters_of}
use Rattle.step_definition.specs.Coordinator.{add_response, sharer_id}
use Rattle.step_definition.specs.Counts.{within_limits, CoordinatorFits, BroughtFits}
use Rattle.step_definition.specs.Calls.{Start, Entry, process, process_message, Request, commission, other, Call, brings, brought}
use Rattle.step_definition.specs.Calls.{Operation, set_key, take_results, can_move, start_signing, receive}
use Rattle.step_definition.specs.Calls.{process_timeout, aggregated, reset, tell_arrivals}
use Rattle.step_definition.specs.Calls.{Class, Answer, Event, Outcome, outcome, sending, quiet}
use Rattle.step_definition.specs.Effects.{root_for, recording, freeing}
use Rattle.step_definition.specs.Phases.{Phase, idling, gathering_nonces, gathering_shares, resting, phase_of}
use Rattle.step_definition.specs.Phases.{Content, a_nonce_request, a_nonce_response, a_share_response, a_dkg_begin, unheard, content_of}
use Rattle.step_definition.specs.Questions.{before, question9}
use Rattle.step_definition.specs.Starts.{start_round, idle_request, idle}
use Rattle.step_definition.specs.Timeouts.{nonce_timeout, share_timeout}
use Rattle.step_definition.specs.NonceGather.{NonceVerdict, wrong_id, ignored, no_room, records, nonce_verdict, on_nonces}
use Rattle.step_definition.specs.NonceGather.{RecordVerdict, too_few, no_group_key, suffices, record_verdict, on_record}
use Rattle.step_definition.specs.SigShareGather.{ShareVerdict, unawaited, wrong_id as wrong_share_id, refused as refused_shares}
use Rattle.step_definition.specs.SigShareGather.{unended, good, share_verdict, on_shares}
use Rattle.step_definition.specs.SigShareGather.{TakeVerdict, already_held, others, last, take_verdict, on_take}
use Rattle.step_definition.specs.Step.{message_in, on_message, on_entry, on_packet, on_aggregated, on_results, on_arrivals, own}
use Rattle.step_definition.specs.Step.{on_commission, on_held, step_of, step}
use Rattle.step_definition.proofs.Cases.{cond_case, given_both}
use Rattle.step_definition.proofs.Lists.{all_insert}
use Rattle.step_definition.proofs.Verdicts.{TimeoutCase, on_time, nonces_late, shares_late, timeout_case}
use Rattle.step_definition.proofs.Limited.{Responses, Arrivals, Sent, Limited, limited, ContentLimited, content_limited}
use Rattle.step_definition.proofs.Limited.{length-insert_all}
use Rattle.step_definition.proofs.Limited.{responses_found, arrivals_found, waiters_found, responses_added, responses_kept}
use Rattle.step_definition.proofs.Limited.{keys-joined, nonces-joined, shares-joined}

-- an outcome whose answer fits
record Small (o : Outcome) : Type 0 where
  fits : length o.answer.bytes ≤ answer_length

-- A test, and the leaves, for the search: no bytes, kinds 1 and 3, 33 and 34.
branch : {t : Bool} {a b : Outcome} → (t ≡ true → Small a) → (t ≡ false → Small b) → Small (cond t a b)
branch {t = t} = cond_case Small t

module _ {k : Class} {es : List Event} {h : Held} where
  asks-nonces :
      (r : NonceRequest) → length r.message ≤ message_limit → length r.root ≤ 32
      → Small (outcome (sending k (encode (nonce_request r))) es h)
  asks-nonces r m t = record { fits = omega (arith, nonce_request-length r m t) }

  asks-shares :
      (r : SignatureShareRequest) → length r.message ≤ message_limit → length r.root ≤ 32 → ResponsesLimited 11 r.nonce_responses
      → Small (outcome (sending k (encode (signature_share_request r))) es h)
  asks-shares r m t a = record { fits = omega (arith, share_request-length r m t a) }

  nonces-missing :
      (waiters malicious : List ℕ) → length waiters ≤ signer_limit → length malicious ≤ signer_limit
      → Small (outcome (sending k (encode_nonce_timeout waiters malicious)) es h)
  nonces-missing waiters malicious w m = record { fits = omega (arith, nonce_timeout-length waiters malicious) }

  too-few-signers :
      (waiters malicious : List ℕ) → length waiters ≤ signer_limit → length malicious ≤ signer_limit
      → Small (outcome (sending k (encode_insufficient_signers (insert_all waiters malicious))) es h)
  too-few-signers waiters malicious w m =
      let all = insert_all waiters malicious in
      record { fits = omega (arith, insufficient-signers-length all, length-insert_all waiters malicious) }

  arrivals-fit :
      (m : List ℕ) (rs : List SignRoundInfo) → All Arrivals rs → Small (outcome (sending k (encode_arrivals (arrivals_of (record_of m rs)))) es h)
  arrivals-fit m rs a = record { fits = omega (arith, arrivals-length (arrivals_of (record_of m rs)), arrivals_found m rs a) }

wordless : {a : Answer} {es : List Event} {h : Held} → a.bytes ≡ [] → Small (outcome a es h)
wordless e = record { fits = rw e (omega arith) }

ruleset small = (branch, wordless, asks-nonces, asks-shares, nonces-missing, too-few-signers)

quietly : (c : Coordinator) → Small (quiet c)
quietly c = search small

-- a start, and a nonce request in Idle
root-taken : (t : SignatureType) (root : List ℕ) → length (root_for t root) ≤ 32
unfolding root_for
root-taken t root =
    let n = root_length (type_number t) in
    omega (arith, length-take n root, min-le_left n (length root), root-length t)

started : (now : ℕ) (s : Start) (c : Coordinator) → length s.message ≤ message_limit → Small (start_round now s c)
unfolding start_round
started now s c m = search (small, root-taken)

idles : (now : ℕ) (m : Content) (c : Coordinator) → ContentLimited m → Small (idle now m c)
unfolding idle idle_request
idles now (a_nonce_request r) c l = search (small, started)
idles now (a_nonce_response q) c l = quietly c
idles now (a_share_response r) c l = quietly c
idles now (a_dkg_begin dkg) c l = search small
idles now unheard c l = quietly c

-- good shares; after the last, kind 32
on_take_law :
    (t : SignatureType) (root : List ℕ) (r : SignatureShareResponse) (c : Coordinator) (v : TakeVerdict)
    → length root ≤ 32 → length c.round.message ≤ message_limit → All (Responses signer_limit) c.round.message_nonces
    → All Sent c.round.signature_shares → SharesLimited 1 r.signature_shares → Small (on_take t root r c v)
unfolding on_take
on_take_law t root r c already_held s m a h n = search small
on_take_law t root r c others s m a h n = search small
on_take_law t root r c last s m a h n =
    let qs = responses_found c.round.message c.round.message_nonces a in
    let new : SignerShares = record { signer_id = r.signer_id; signature_shares = r.signature_shares } in
    let held = all_insert Sent sharer_id new c.round.signature_shares n h in
    record { fits = job-length _ qs.count m s (keys-joined _ qs.each) (nonces-joined _ qs.each) (shares-joined _ _ held) }

-- A coordinator within the limits: timeouts, and messages by state.
module _ (now : ℕ) (c : Coordinator) (l : Limited c) where
  waiting : length (waiters_of (current_record c)) ≤ signer_limit
  waiting = waiters_found c.round.message c.round.message_nonces l.waiters

  the_nonces_late : Small (nonce_timeout c)
  unfolding nonce_timeout
  the_nonces_late = search (small, waiting)

  the_shares_late : (t : SignatureType) → Small (share_timeout now t c.position.root c)
  unfolding share_timeout
  the_shares_late t = search (small, waiting)

  unless-late :
      {p : Phase} {o : Option Outcome} (rest : Outcome) → TimeoutCase now c p o → Small rest → Small (given o (λ (o : Outcome). o) rest)
  unless-late rest on_time s = s
  unless-late rest nonces_late s = the_nonces_late
  unless-late rest (shares_late {t = t} e) s = the_shares_late t

  on-record :
      (t : SignatureType) (q : NonceResponse) (v : RecordVerdict)
      → ResponseLimited q → Small (on_record now t c.position.root q (recording now q c) v)
  unfolding on_record response_within
  on-record t q too_few h = search small
  on-record t q no_group_key h = search small
  on-record t q suffices h =
      let w = h.within in
      let m : length q.message ≤ message_limit = leb-true _ _ (search (and_left, and_right)) in
      let rs = responses_added now q c.round.message_nonces h l.responses in
      let qs = responses_found q.message (add_response now q c.round.message_nonces) rs in
      search small

  on-nonces :
      (t : SignatureType) (q : NonceResponse) (v : NonceVerdict) → ResponseLimited q → Small (on_nonces now t c.position.root q c v)
  unfolding on_nonces
  on-nonces t q (wrong_id n got expected) h = search small
  on-nonces t q ignored h = search small
  on-nonces t q no_room h = search small
  on-nonces t q records h = on-record t q (record_verdict q (recording now q c)) h

  on-shares :
      (t : SignatureType) (r : SignatureShareResponse) (v : ShareVerdict)
      → SharesLimited 1 r.signature_shares → Small (on_shares t c.position.root r c v)
  unfolding on_shares
  on-shares t r unawaited h = search small
  on-shares t r (wrong_share_id n got expected) h = search small
  on-shares t r (refused_shares n) h = search small
  on-shares t r unended h = search small
  on-shares t r good h =
      let freed = freeing r.signer_id c in
      let kept = responses_kept c.round.message r.signer_id c.round.message_nonces l.responses in
      on_take_law t c.position.root r freed (take_verdict r freed) l.root l.message kept l.shares h

  by_phase : (p : Phase) (m : Content) → ContentLimited m → Small (message_in now p m c)
  unfolding message_in
  by_phase idling m h = idles now m c h
  by_phase (gathering_nonces t) (a_nonce_request r) h = quietly c
  by_phase (gathering_nonces t) (a_nonce_response q) h = on-nonces t q (nonce_verdict q c) h
  by_phase (gathering_nonces t) (a_share_response r) h = quietly c
  by_phase (gathering_nonces t) (a_dkg_begin dkg) h = quietly c
  by_phase (gathering_nonces t) unheard h = quietly c
  by_phase (gathering_shares t) (a_nonce_request r) h = quietly c
  by_phase (gathering_shares t) (a_nonce_response q) h = quietly c
  by_phase (gathering_shares t) (a_share_response r) h = on-shares t r (share_verdict r c) h
  by_phase (gathering_shares t) (a_dkg_begin dkg) h = quietly c
  by_phase (gathering_shares t) unheard h = quietly c
  by_phase resting m h = quietly c

message_9 : (m : List ℕ) → question9 m ≡ true → length m ≤ message_limit
unfolding question9
message_9 m e = leb-true _ _ e

-- What a call does itself.
module _ (k : Call) (c : Coordinator) (l : Limited c) where
  the_on_message : (m : Message) → ContentLimited (content_of m) → Small (on_message k.clock k.verdict m c)
  unfolding on_message
  the_on_message m h = let rest = by_phase k.clock c l (phase_of c.position.state) (content_of m) h in search small

  the_on_entry : (entry : Entry) (m : Message) → ContentLimited (content_of m) → Small (on_entry entry k.clock k.verdict m c)
  the_on_entry process m h = unless-late k.clock c l _ (timeout_case k.clock c (phase_of c.position.state)) (the_on_message m h)
  the_on_entry process_message m h = the_on_message m h

  the_on_packet :
      (entry : Entry) (bytes : List ℕ) (d : Decoded) → Bytes bytes → decode bytes ≡ d → Small (on_packet entry k.clock k.verdict d c)
  unfolding on_packet
  the_on_packet entry bytes (taken m) b e = let f = decode-fits bytes m b e in the_on_entry entry m (content_limited m f.0 f.1)
  the_on_packet entry bytes (refused n) b e = search small

  owns : (o : Operation) → BroughtFits (brings o) → Small (own k o c)
  unfolding own on_results on_aggregated on_arrivals
  owns (set_key which held) b = search small
  owns (take_results dkg ended) b = search small
  owns (can_move p) b = search small
  owns (start_signing s) b = search (small, started, message_9)
  owns (receive entry bytes) b = the_on_packet entry bytes (decode bytes) b refl
  owns process_timeout b = unless-late k.clock c l _ (timeout_case k.clock c (phase_of c.position.state)) (quietly c)
  owns (aggregated ok) b = search small
  owns reset b = search small
  owns tell_arrivals b = arrivals-fit c.round.message c.round.message_nonces l.arrivals

-- a coordinator within the limits, or none
abbrev pub Within : Held → Type 0
Within uncommissioned = Unit {0}
Within miscounted = Unit {0}
Within (commissioned c) = (within_limits c ≡ true) × CoordinatorFits c

on_held_law : (k : Call) (o : Operation) (h : Held) → Within h → BroughtFits (brings o) → Small (on_held k o h)
unfolding on_held
on_held_law k o uncommissioned w b = search small
on_held_law k o miscounted w b = search small
on_held_law k o (commissioned c) w b = given_both Small (before k o c) (λ n. search small) (owns k c (limited c w.0 w.1) o b)

of_request : (k : Call) (r : Request) (h : Held) → Within h → BroughtFits (brought r) → Small (step_of k r h)
unfolding step_of on_commission
of_request k (commission g) h w b = search small
of_request k (other o) h w b = on_held_law k o h w b

pub every-answer-fits :
    (k : Call) (h : Held) → Within h → BroughtFits (brought k.request) → length (step k h).answer.bytes ≤ answer_length
every-answer-fits k h w b = (of_request k k.request h w b).fits

pub answer-fits :
    (k : Call) (c : Coordinator) → within_limits c ≡ true → CoordinatorFits c → BroughtFits (brought k.request)
    → length (step k (commissioned c)).answer.bytes ≤ answer_length
answer-fits k c w f b = every-answer-fits k (commissioned c) (w, f) b
