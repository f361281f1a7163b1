-- Every outcome of a step: what its refusal changes, and what becomes of the malicious list.
-- Assumes nothing.
use Prim.Native.Nat.{ℕ, suc}
use native.Mathlib.Omega.{arith}
use mathlib.Core.Path.{◌≡◌, refl, sym, subst}
use mathlib.Core.Bool.{Bool, true, false, cond, ◌||◌, false≢true}
use mathlib.Core.List.{List, [], ◌∷◌}
use Rattle.std.specs.Prelude.{Option, Some, None}
use lib.Dec.{eqb}
use Rattle.layout.specs.declared.SignatureType.{SignatureType}
use Rattle.layout.specs.Messages.{NonceResponse, SignatureShareResponse, Message}
use Rattle.layout.specs.Decode.{Decoded, taken, refused, decode}
use Rattle.state_table.specs.declared.State.TheVariants.{Idle, SigShareGather}
use Rattle.state_table.specs.States.{types_agree, same}
use Rattle.state_table.specs.Moves.{accepted, can_move_to}
use Rattle.step_definition.specs.Lists.{given, first}
use Rattle.step_definition.specs.Ids.{insert_all}
use Rattle.step_definition.specs.Coordinator.{Coordinator, Held, uncommissioned, miscounted, commissioned, waiters_of, current_record}
use Rattle.step_definition.specs.Calls.{Start, Entry, process, process_message, Request, commission, other, Call}
use Rattle.step_definition.specs.Calls.{Operation, set_key, take_results, can_move, start_signing, receive, process_timeout, aggregated}
use Rattle.step_definition.specs.Calls.{reset, tell_arrivals}
use Rattle.step_definition.specs.Calls.{Class, error, Answer, Event, newly_malicious, newly_malicious_in, Outcome, outcome, refusing, quiet}
use Rattle.step_definition.specs.Effects.{root_for, recording, freeing}
use Rattle.step_definition.specs.Phases.{Phase, idling, gathering_nonces, gathering_shares, resting, phase_of}
use Rattle.step_definition.specs.Phases.{Content, a_nonce_request, a_nonce_response, a_share_response, a_dkg_begin, unheard, content_of}
use Rattle.step_definition.specs.Questions.{question11, fires}
use Rattle.step_definition.specs.Refusals.{changed_by, changed_by_packet, changed_in, held_after, after_refusal}
use Rattle.step_definition.specs.Run.{malicious_in}
use Rattle.step_definition.specs.Silence.{is_commission}
use Rattle.step_definition.specs.Starts.{naming, start_round, idle_request, idle}
use Rattle.step_definition.specs.Timeouts.{nonce_timeout, share_timeout}
use Rattle.step_definition.specs.NonceGather.{NonceVerdict, RecordVerdict, too_few, no_group_key, suffices, record_verdict, on_record, on_nonces}
use Rattle.step_definition.specs.SigShareGather.{ShareVerdict, TakeVerdict, already_held, others, last, take_verdict, on_take, on_shares}
use Rattle.step_definition.specs.Step.{message_in, on_message, on_entry, on_packet, on_aggregated, on_results, on_arrivals, own}
use Rattle.step_definition.specs.Step.{on_commission, on_held, step_of, step}
use Rattle.step_definition.proofs.Cases.{cond_case}
use Rattle.step_definition.proofs.Phases.{in_idle, in_shares_law}
use Rattle.step_definition.proofs.Verdicts.{Before, gets4, gets5, gets6, gets7, goes_on, before_case, TimeoutCase, on_time, nonces_late, shares_late, timeout_case}
use Rattle.step_definition.proofs.Verdicts.{NonceCase, gets16, gets17, gets18, ignores, gets19, is_new, nonce_case}
use Rattle.step_definition.proofs.Verdicts.{ShareCase, not_awaited, other_dkg, other_sign, gets20, gets21, gets22, not_ended, is_good, share_case}

-- the share timeout fires
pub record Fires (now : ℕ) (c : Coordinator) : Type 0 where
  pub type : SignatureType
  pub gathers : c.position.state ≡ SigShareGather type
  pub elapsed : fires now c.round.clocks.sign_start c.standing.config.timeouts.sign ≡ true

-- the malicious list with the waiters added
abbrev pub malicious_after : Coordinator → List ℕ
malicious_after c = insert_all (waiters_of (current_record c)) c.standing.malicious_signer_ids

-- what a step from h does to the malicious list: nothing, or a share timeout adds the waiters
pub data MaliciousChange (now : ℕ) (h : Held) (o : Outcome) : Type 0 where
  kept : newly_malicious_in o.events ≡ None → malicious_in o.after ≡ malicious_in h → MaliciousChange now h o
  added :
      (c : Coordinator) (ids : List ℕ) → h ≡ commissioned c → Fires now c → newly_malicious_in o.events ≡ Some ids
      → malicious_in o.after ≡ malicious_after c → MaliciousChange now h o

-- an outcome of a step from h: a refusal with the number n leaves `left n`, and no byte
pub record Told (now : ℕ) (left : ℕ → Held) (h : Held) (o : Outcome) : Type 0 where
  pub refusal : (n : ℕ) → o.answer.number ≡ suc n → (o.after ≡ left (suc n)) × (o.answer.bytes ≡ [])
  pub malicious_change : MaliciousChange now h o

-- The three kinds of outcome, and each kind of test that stands before outcomes.
module _ {now : ℕ} {left : ℕ → Held} where
  says :
      {h after : Held} {a : Answer} {es : List Event} → a.number ≡ 0 → newly_malicious_in es ≡ None → malicious_in after ≡ malicious_in h
      → Told now left h (outcome a es after)
  says z m k = record { refusal = λ n e. absurd (omega arith); malicious_change = kept m k }

  refuses :
      {h after : Held} {k : Class} {m : ℕ} {vs : List ℕ} {es : List Event} → after ≡ left m → newly_malicious_in es ≡ None
      → malicious_in after ≡ malicious_in h → Told now left h (outcome (refusing k m vs) es after)
  refuses {after = after} x m k = record { refusal = λ n e. (subst (λ (j : ℕ). after ≡ left j) e x, refl); malicious_change = kept m k }

  excludes :
      {c : Coordinator} {after : Held} {a : Answer} {ids : List ℕ} {es : List Event} → a.number ≡ 0 → Fires now c
      → malicious_in after ≡ malicious_after c → Told now left (commissioned c) (outcome a (newly_malicious ids ∷ es) after)
  unfolding first
  excludes {c = c} {ids = ids} z f k = record { refusal = λ n e. absurd (omega arith); malicious_change = added c ids refl f refl k }

  branch :
      {h : Held} {t : Bool} {a b : Outcome} → (t ≡ true → Told now left h a) → (t ≡ false → Told now left h b)
      → Told now left h (cond t a b)
  branch {h = h} {t = t} = cond_case (Told now left h) t

ruleset told = (says, refuses, excludes, branch)

-- Timeouts, and what follows where none fires.
module _ (now : ℕ) (left : ℕ → Held) (c : Coordinator) (x : commissioned c ≡ left 12) where
  the_nonce_timeout : Told now left (commissioned c) (nonce_timeout c)
  unfolding nonce_timeout malicious_in first
  the_nonce_timeout = search told

  the_share_timeout : (t : SignatureType) → Fires now c → Told now left (commissioned c) (share_timeout now t c.position.root c)
  unfolding share_timeout malicious_in first
  the_share_timeout t f = search told

  unless-late :
      {p : Phase} {o : Option Outcome} (rest : Outcome) → phase_of c.position.state ≡ p → TimeoutCase now c p o
      → Told now left (commissioned c) rest → Told now left (commissioned c) (given o (λ (o : Outcome). o) rest)
  unless-late rest e on_time r = r
  unless-late rest e nonces_late r = the_nonce_timeout
  unless-late rest e (shares_late {t = t} f) r = the_share_timeout t (record { type = t; gathers = in_shares_law e; elapsed = f })

-- A start: 10 and 11, where they are answered no.
start_round_law :
    (now : ℕ) (left : ℕ → Held) (h : Held) (s : Start) (d : Coordinator) → d.standing.malicious_signer_ids ≡ malicious_in h
    → commissioned d ≡ left 10
    → (question11 (naming s d) s.signature_type (root_for s.signature_type s.root) ≡ false → commissioned (naming s d) ≡ left 11)
    → Told now left h (start_round now s d)
unfolding start_round malicious_in first
start_round_law now left h s d k x y = search told

-- From Idle a nonce request may always be made: 11 is never answered no there
idle_moves :
    (c : Coordinator) (t : SignatureType) (root : List ℕ) {a b : Held} → c.position.state ≡ Idle → question11 c t root ≡ false → a ≡ b
unfolding question11 can_move_to accepted same types_agree
idle_moves c t root e q = absurd (false≢true (sym (rw e at q)))

-- A message, by what is heard of it.
module _ (now : ℕ) (c : Coordinator) where
  abbrev MessageTold : Content → Outcome → Type 0
  MessageTold m = Told now (λ (n : ℕ). commissioned (changed_by now n m c)) (commissioned c)

  quietly : (m : Content) → MessageTold m (quiet c)
  unfolding malicious_in first
  quietly m = search told

  the_at_idle : (m : Content) → c.position.state ≡ Idle → MessageTold m (idle now m c)
  unfolding idle idle_request changed_by malicious_in first
  the_at_idle (a_nonce_request r) e = search (told, start_round_law, idle_moves)
  the_at_idle (a_nonce_response q) e = quietly (a_nonce_response q)
  the_at_idle (a_share_response r) e = quietly (a_share_response r)
  the_at_idle (a_dkg_begin dkg) e = search told
  the_at_idle unheard e = quietly unheard

  module _ (t : SignatureType) (root : List ℕ) where
    records_told : (q : NonceResponse) (v : RecordVerdict) → MessageTold (a_nonce_response q) (on_record now t root q (recording now q c) v)
    unfolding on_record changed_by malicious_in first
    records_told q too_few = search told
    records_told q no_group_key = search told
    records_told q suffices = search told

    nonces_told : {q : NonceResponse} {v : NonceVerdict} → NonceCase q c v → MessageTold (a_nonce_response q) (on_nonces now t root q c v)
    unfolding on_nonces changed_by malicious_in first
    nonces_told gets16 = search told
    nonces_told gets17 = search told
    nonces_told gets18 = search told
    nonces_told ignores = search told
    nonces_told gets19 = search told
    nonces_told {q = q} (is_new e) = records_told q (record_verdict q _)

    take-told :
        (r : SignatureShareResponse) (v : TakeVerdict) → MessageTold (a_share_response r) (on_take t root r (freeing r.signer_id c) v)
    unfolding on_take malicious_in first
    take-told r already_held = search told
    take-told r others = search told
    take-told r last = search told

    shares_told : {r : SignatureShareResponse} {v : ShareVerdict} → ShareCase r c v → MessageTold (a_share_response r) (on_shares t root r c v)
    unfolding on_shares changed_by malicious_in first
    shares_told (not_awaited e) = search told
    shares_told (other_dkg e) = search told
    shares_told (other_sign e) = search told
    shares_told (gets20 e) = search told
    shares_told (gets21 e) = search told
    shares_told (gets22 e) = search told
    shares_told (not_ended e) = search told
    shares_told {r = r} (is_good e) = take-told r (take_verdict r _)

  by_phase : (p : Phase) (m : Content) → phase_of c.position.state ≡ p → MessageTold m (message_in now p m c)
  unfolding message_in
  by_phase idling m e = the_at_idle m (in_idle e)
  by_phase (gathering_nonces t) (a_nonce_request r) e = quietly (a_nonce_request r)
  by_phase (gathering_nonces t) (a_nonce_response q) e = nonces_told t _ (nonce_case q c)
  by_phase (gathering_nonces t) (a_share_response r) e = quietly (a_share_response r)
  by_phase (gathering_nonces t) (a_dkg_begin dkg) e = quietly (a_dkg_begin dkg)
  by_phase (gathering_nonces t) unheard e = quietly unheard
  by_phase (gathering_shares t) (a_nonce_request r) e = quietly (a_nonce_request r)
  by_phase (gathering_shares t) (a_nonce_response q) e = quietly (a_nonce_response q)
  by_phase (gathering_shares t) (a_share_response r) e = shares_told t _ (share_case r c)
  by_phase (gathering_shares t) (a_dkg_begin dkg) e = quietly (a_dkg_begin dkg)
  by_phase (gathering_shares t) unheard e = quietly unheard
  by_phase resting m e = quietly m

-- A number other than 10, 11, 20 to 22 and 23 changes nothing, whatever the call
module _ (now : ℕ) (c : Coordinator) (n : ℕ) (n10 : eqb n 10 ≡ false) (n11 : eqb n 11 ≡ false)
    (n20 : (eqb n 20 || eqb n 21 || eqb n 22) ≡ false) (n23 : eqb n 23 ≡ false) where
  bare_message : (m : Content) → commissioned c ≡ commissioned (changed_by now n m c)
  unfolding changed_by
  bare_message (a_nonce_request r) = rw n10
  bare_message (a_nonce_response q) = rw n10
  bare_message (a_share_response r) = rw n20
  bare_message (a_dkg_begin dkg) = refl
  bare_message unheard = refl

  bare_packet : (d : Decoded) → commissioned c ≡ commissioned (changed_by_packet now n d c)
  unfolding changed_by_packet
  bare_packet (taken m) = bare_message (content_of m)
  bare_packet (refused k) = refl

  bare : (o : Operation) → commissioned c ≡ commissioned (changed_in now n o c)
  unfolding changed_in
  bare (set_key which held) = refl
  bare (take_results dkg ended) = refl
  bare (can_move p) = refl
  bare (start_signing s) = rw n11
  bare (receive entry bytes) = bare_packet (decode bytes)
  bare process_timeout = refl
  bare (aggregated ok) = rw n23
  bare reset = refl
  bare tell_arrivals = refl

-- What a call does once 4 to 7 are yes.
module _ (k : Call) (c : Coordinator) where
  the_on_message : (m : Message) → MessageTold k.clock c (content_of m) (on_message k.clock k.verdict m c)
  unfolding on_message malicious_in first
  the_on_message m = let rest = by_phase k.clock c (phase_of c.position.state) (content_of m) refl in search (told, bare_message)

  the_on_entry : (entry : Entry) (m : Message) → MessageTold k.clock c (content_of m) (on_entry entry k.clock k.verdict m c)
  the_on_entry process m =
      unless-late k.clock _ c (bare_message k.clock c 12 refl refl refl refl (content_of m)) _ refl
      (timeout_case k.clock c (phase_of c.position.state)) (the_on_message m)
  the_on_entry process_message m = the_on_message m

  the_on_packet :
      (entry : Entry) (d : Decoded)
      → Told k.clock (λ (n : ℕ). commissioned (changed_by_packet k.clock n d c)) (commissioned c) (on_packet entry k.clock k.verdict d c)
  unfolding on_packet changed_by_packet malicious_in first
  the_on_packet entry (taken m) = the_on_entry entry m
  the_on_packet entry (refused n) = search told

  own_told : (o : Operation) → Told k.clock (λ (n : ℕ). commissioned (changed_in k.clock n o c)) (commissioned c) (own k o c)
  unfolding own changed_in on_results on_aggregated on_arrivals malicious_in first
  own_told (set_key which held) = search told
  own_told (take_results dkg ended) = search told
  own_told (can_move p) = search told
  own_told (start_signing s) = search (told, start_round_law)
  own_told (receive entry bytes) = the_on_packet entry (decode bytes)
  own_told process_timeout = unless-late k.clock _ c refl _ refl (timeout_case k.clock c (phase_of c.position.state)) (search told)
  own_told (aggregated ok) = search told
  own_told reset = search told
  own_told tell_arrivals = search told

  -- 4 to 7 first
  after-questions :
      (o : Operation) {n : Option ℕ} → Before o c n
      → Told k.clock (λ (n : ℕ). commissioned (changed_in k.clock n o c)) (commissioned c) (given n (λ (n : ℕ). outcome (refusing error n []) [] (commissioned c)) (own k o c))
  unfolding malicious_in first
  after-questions o gets4 = search (told, bare)
  after-questions o gets5 = search (told, bare)
  after-questions o gets6 = search (told, bare)
  after-questions o gets7 = search (told, bare)
  after-questions o (goes_on f g) = own_told o

-- A call of what is held. Commissioning does what it does to the uncommissioned.
on_held_law : (k : Call) (o : Operation) (h : Held) → Told k.clock (λ (n : ℕ). held_after k.clock n o h) h (on_held k o h)
unfolding on_held held_after malicious_in first
on_held_law k o uncommissioned = search told
on_held_law k o miscounted = search told
on_held_law k o (commissioned c) = after-questions k c o (before_case k o c)

of_request :
    (k : Call) (h : Held) (r : Request)
    → Told k.clock (λ (n : ℕ). after_refusal k.clock n r h) (cond (is_commission r) uncommissioned h) (step_of k r h)
unfolding step_of on_commission after_refusal malicious_in first
of_request k h (commission g) = search told
of_request k h (other o) = on_held_law k o h

pub step_told :
    (k : Call) (h : Held)
    → Told k.clock (λ (n : ℕ). after_refusal k.clock n k.request h) (cond (is_commission k.request) uncommissioned h) (step k h)
step_told k h = of_request k h k.request
