-- Demand 3, first half: two coordinators, whatever went before, that send the same nonce request at the same clock reading and agree on
-- the four things answer alike from then on, over every list of calls.
-- Assumes nothing.
use Prim.Native.Nat.{ℕ}
use mathlib.Core.Path.{◌≡◌, refl, sym, ap, ◌∙◌}
use mathlib.Core.Bool.{Bool, true, false, cond, false≢true}
use mathlib.Core.List.{List, [], ◌∷◌}
use Rattle.std.specs.Prelude.{Option, Some, None}
use Rattle.layout.specs.declared.SignatureType.{SignatureType}
use Rattle.layout.specs.Messages.{NonceRequest, NonceResponse, Message}
use Rattle.layout.specs.Decode.{Decoded, taken, refused, decode}
use Rattle.step_definition.specs.Lists.{given}
use Rattle.step_definition.specs.Coordinator.{Coordinator, SignerShares, Held, commissioned, with_shares, with_clocks}
use Rattle.step_definition.specs.Calls.{Start, Entry, process, process_message, Request, commission, other, Call}
use Rattle.step_definition.specs.Calls.{Operation, set_key, take_results, can_move, start_signing, receive, process_timeout, aggregated}
use Rattle.step_definition.specs.Calls.{reset, tell_arrivals}
use Rattle.step_definition.specs.Calls.{Answer, Event, Outcome, outcome}
use Rattle.step_definition.specs.Demand3.{Opens, SameFour}
use Rattle.step_definition.specs.Effects.{recording}
use Rattle.step_definition.specs.Phases.{Phase, idling, gathering_nonces, gathering_shares, resting, phase_of}
use Rattle.step_definition.specs.Phases.{Content, a_nonce_request, a_nonce_response, a_share_response, a_dkg_begin, unheard, content_of, nonce_response_in}
use Rattle.step_definition.specs.Questions.{before, question5, question6, question10, question11, question12, question13, question15, question19, question24, question25}
use Rattle.step_definition.specs.Run.{Seen, malicious_in, run}
use Rattle.step_definition.specs.Starts.{start_round, idle_request, idle}
use Rattle.step_definition.specs.Timeouts.{nonce_timeout, timeout_in}
use Rattle.step_definition.specs.NonceGather.{NonceVerdict, wrong_id, ignored, no_room, records, nonce_verdict, RecordVerdict, too_few, no_group_key, suffices, record_verdict, on_record, on_nonces}
use Rattle.step_definition.specs.Step.{message_in, on_message, on_entry, on_packet, on_aggregated, on_results, on_arrivals, own, on_held}
use Rattle.step_definition.specs.Step.{step_of}
use Rattle.step_definition.proofs.Leaves.{Fresh, opening}

-- what a host sees of an outcome and of the calls after it
abbrev seen : List Call → Outcome → List Seen
seen ks o = record { answer = o.answer; malicious = malicious_in o.after } ∷ run ks o.after

-- two outcomes that a host cannot tell apart
record Alike (ks : List Call) (o o' : Outcome) : Type 0 where
  told : seen ks o ≡ seen ks o'

-- the same test on both sides; the same outcome
alike :
    {ks : List Call} {t : Bool} {a b a' b' : Outcome} → (t ≡ true → Alike ks a a') → (t ≡ false → Alike ks b b')
    → Alike ks (cond t a b) (cond t a' b')
alike {t = true} p q = p refl
alike {t = false} p q = q refl

equal : {ks : List Call} {o : Outcome} → Alike ks o o
equal = record { told = refl }

-- c with other shares and another share clock
abbrev with_other : List SignerShares → Option ℕ → Coordinator → Coordinator
with_other ss start c = with_shares ss (with_clocks (record { nonce_start = c.round.clocks.nonce_start; sign_start = start }) c)

-- but while shares are gathered, nobody looks at them
abbrev unread : Phase → Bool
unread idling = true
unread (gathering_nonces t) = true
unread (gathering_shares t) = false
unread resting = true

abbrev Unread : Coordinator → Type 0
Unread c = unread (phase_of c.position.state) ≡ true

-- Where nobody looks at the shares and the share clock, and the later calls see no difference.
module _ (ss : List SignerShares) (start : Option ℕ) (ks : List Call)
    (later : (c : Coordinator) → Unread c → run ks (commissioned c) ≡ run ks (commissioned (with_other ss start c))) where
  kept :
      {a : Answer} {es : List Event} {c : Coordinator} → Unread c
      → Alike ks (outcome a es (commissioned c)) (outcome a es (commissioned (with_other ss start c)))
  unfolding malicious_in
  kept {a} {es} {c} u =
      record { told = ap (λ (l : List Seen). record { answer = a; malicious = c.standing.malicious_signer_ids } ∷ l) (later c u) }

  -- a function of the coordinator that neither is told apart by
  abbrev Both : Coordinator → (Coordinator → Outcome) → Type 0
  Both c f = Alike ks (f c) (f (with_other ss start c))

  -- what each call does
  starts : (now : ℕ) (s : Start) (c : Coordinator) → Unread c → Both c (start_round now s)
  unfolding start_round question10 question11
  starts now s c u = search (alike, kept)

  idles : (now : ℕ) (m : Content) (c : Coordinator) → Unread c → Both c (idle now m)
  unfolding idle idle_request question15
  idles now (a_nonce_request r) c u = search (alike, kept, starts)
  idles now (a_nonce_response q) c u = kept u
  idles now (a_share_response r) c u = kept u
  idles now (a_dkg_begin dkg) c u = search (alike, kept)
  idles now unheard c u = kept u

  the_nonces_late : (c : Coordinator) → Unread c → Both c nonce_timeout
  unfolding nonce_timeout question12
  the_nonces_late c u = search (alike, kept)

  late :
      {t : Bool} {a a' b b' : Outcome} → (t ≡ true → Alike ks a a') → Alike ks b b'
      → Alike ks (given (cond t (Some a) None) (λ (o : Outcome). o) b) (given (cond t (Some a') None) (λ (o : Outcome). o) b')
  late {t = true} p q = p refl
  late {t = false} p q = q

  unless-late :
      (now : ℕ) (p : Phase) (c : Coordinator) (rest rest' : Outcome) → unread p ≡ true → Unread c → Alike ks rest rest'
      → Alike ks (given (timeout_in now p c) (λ (o : Outcome). o) rest) (given (timeout_in now p (with_other ss start c)) (λ (o : Outcome). o) rest')
  unfolding timeout_in
  unless-late now idling c rest rest' e u r = r
  unless-late now (gathering_nonces t) c rest rest' e u r = search (late, the_nonces_late)
  unless-late now (gathering_shares t) c rest rest' e u r = absurd (false≢true e)
  unless-late now resting c rest rest' e u r = r

  records-alike :
      (now : ℕ) (t : SignatureType) (q : NonceResponse) (v : RecordVerdict) (c : Coordinator) → Unread c
      → Both c (λ (c : Coordinator). on_record now t c.position.root q (recording now q c) v)
  unfolding on_record
  records-alike now t q too_few c u = kept u
  records-alike now t q no_group_key c u = kept u
  records-alike now t q suffices c u = equal

  gathers :
      (now : ℕ) (t : SignatureType) (q : NonceResponse) (v : NonceVerdict) (c : Coordinator) → Unread c
      → Both c (λ (c : Coordinator). on_nonces now t c.position.root q c v)
  unfolding on_nonces record_verdict question10
  gathers now t q (wrong_id n got expected) c u = kept u
  gathers now t q ignored c u = kept u
  gathers now t q no_room c u = kept u
  gathers now t q records c u = records-alike now t q (record_verdict q (recording now q c)) c u

  heard :
      {A : Type 0} (o : Option A) {f f' : A → Outcome} {b b' : Outcome} → ((a : A) → Alike ks (f a) (f' a)) → Alike ks b b'
      → Alike ks (given o f b) (given o f' b')
  heard None p q = q
  heard (Some a) p q = p a

  by_phase : (now : ℕ) (p : Phase) (m : Content) (c : Coordinator) → unread p ≡ true → Unread c → Both c (message_in now p m)
  unfolding message_in nonce_verdict question19
  by_phase now idling m c e u = idles now m c u
  by_phase now (gathering_nonces t) m c e u = heard (nonce_response_in m) (λ q. gathers now t q (nonce_verdict q c) c u) (kept u)
  by_phase now (gathering_shares t) m c e u = absurd (false≢true e)
  by_phase now resting m c e u = kept u

  module _ (k : Call) (c : Coordinator) (u : Unread c) where
    the_on_message : (m : Message) → Both c (on_message k.clock k.verdict m)
    unfolding on_message question13
    the_on_message m = let rest = by_phase k.clock (phase_of c.position.state) (content_of m) c u u in search (alike, kept)

    the_on_entry : (entry : Entry) (m : Message) → Both c (on_entry entry k.clock k.verdict m)
    the_on_entry process m = unless-late k.clock (phase_of c.position.state) c _ _ u u (the_on_message m)
    the_on_entry process_message m = the_on_message m

    the_on_packet : (entry : Entry) (d : Decoded) → Both c (on_packet entry k.clock k.verdict d)
    unfolding on_packet
    the_on_packet entry (taken m) = the_on_entry entry m
    the_on_packet entry (refused n) = kept u

    owns : (o : Operation) → Both c (own k o)
    unfolding own on_results on_aggregated on_arrivals question24 question25
    owns (set_key which held) = kept u
    owns (take_results dkg ended) = search (alike, kept)
    owns (can_move p) = kept u
    owns (start_signing s) = search (alike, kept, starts)
    owns (receive entry bytes) = the_on_packet entry (decode bytes)
    owns process_timeout = unless-late k.clock (phase_of c.position.state) c _ _ u u (kept u)
    owns (aggregated ok) = search (alike, kept)
    owns reset = equal
    owns tell_arrivals = kept u

  on_held_law :
      (k : Call) (o : Operation) (c : Coordinator) → Unread c
      → Alike ks (on_held k o (commissioned c)) (on_held k o (commissioned (with_other ss start c)))
  unfolding on_held before question5 question6
  on_held_law k o c u = heard (before k o c) (λ n. kept u) (owns k c u o)

  steps :
      (k : Call) (r : Request) (c : Coordinator) → Unread c
      → Alike ks (step_of k r (commissioned c)) (step_of k r (commissioned (with_other ss start c)))
  unfolding step_of
  steps k (commission g) c u = equal
  steps k (other o) c u = on_held_law k o c u

-- over every list of calls
run-alike :
    (ss : List SignerShares) (start : Option ℕ) (ks : List Call) (c : Coordinator) → Unread c
    → run ks (commissioned c) ≡ run ks (commissioned (with_other ss start c))
unfolding run
run-alike ss start [] c u = refl
run-alike ss start (k ∷ ks) c u = (steps ss start ks (run-alike ss start ks) k k.request c u).told

-- two rounds that were just opened by one request differ in nothing else
opened-alike :
    {now : ℕ} {r : NonceRequest} (c d : Coordinator) → Fresh now r c → Fresh now r d → SameFour c d
    → d ≡ with_other d.round.signature_shares d.round.clocks.sign_start c
opened-alike c d f g s =
    λ i.
    record {
      standing = sym s.standing i;
      ids = (g.ids ∙ sym f.ids) i;
      position = (g.position ∙ sym f.position) i;
      round =
          record {
            message = (g.message ∙ sym f.message) i;
            message_nonces = (g.records ∙ sym f.records) i;
            signature_shares = d.round.signature_shares;
            clocks = record { nonce_start = (g.nonce_start ∙ sym f.nonce_start) i; sign_start = d.round.clocks.sign_start };
          };
      job = (g.job ∙ sym f.job) i;
    }

pub equal_futures :
    (k₁ k₂ : Call) (h₁ h₂ : Held) (r : NonceRequest) (c₁ c₂ : Coordinator) → Opens k₁ h₁ r c₁ → Opens k₂ h₂ r c₂ → k₁.clock ≡ k₂.clock
    → SameFour c₁ c₂ → (ks : List Call) → run ks (commissioned c₁) ≡ run ks (commissioned c₂)
equal_futures k₁ k₂ h₁ h₂ r c₁ c₂ o₁ o₂ t s ks =
    let f₁ : Fresh k₂.clock r c₁ = rw t at (opening k₁ h₁ r c₁ o₁) in
    let u : Unread c₁ = rw f₁.position in
    run-alike c₂.round.signature_shares c₂.round.clocks.sign_start ks c₁ u
    ∙ ap (λ (c : Coordinator). run ks (commissioned c)) (sym (opened-alike c₁ c₂ f₁ (opening k₂ h₂ r c₂ o₂) s))
