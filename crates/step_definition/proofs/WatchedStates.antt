-- The watch kept by each function of the step, phase by phase.
-- Assumes nothing.
use Rattle.std.proofs.lemmas.Option.{none-some}
use Prim.Native.Nat.{ℕ}
use native.Mathlib.Omega.{arith}
use mathlib.Core.Path.{◌≡◌, refl, sym, subst, ◌∙◌}
use mathlib.Core.Bool.{Bool, true, false, cond, ◌&&◌}
use mathlib.Core.List.{List, [], ◌∷◌}
use Rattle.std.specs.Prelude.{Option, Some, None}
use lib.Dec.{eqb}
use Rattle.wire.specs.Bytes.{All}
use Rattle.layout.specs.declared.SignatureType.{SignatureType}
use Rattle.layout.specs.Messages.{NonceRequest, NonceResponse, SignatureShareResponse}
use Rattle.step_definition.specs.Lists.{is_some, given, first}
use Rattle.step_definition.specs.Ids.{remove}
use Rattle.step_definition.specs.Coordinator.{Coordinator, commissioned, add_response, waiters_of, current_record}
use Rattle.step_definition.specs.Calls.{share_request_in, Start, Answer, Event, recorded, shares_taken, newly_malicious, requested, retried, job_written, newly_malicious_in, Outcome, outcome, failing, quiet}
use Rattle.step_definition.specs.Effects.{recording, freeing}
use Rattle.step_definition.specs.Phases.{Phase, idling, gathering_nonces, gathering_shares, resting, phase_of}
use Rattle.step_definition.specs.Phases.{Content, a_nonce_request, a_nonce_response, a_share_response, a_dkg_begin, unheard, share_response_in}
use Rattle.step_definition.specs.Run.{malicious_in}
use Rattle.step_definition.specs.Silence.{Watch, unasked, watch_after, listening}
use Rattle.step_definition.specs.Starts.{naming, start_round, idle_request, idle}
use Rattle.step_definition.specs.Timeouts.{nonce_timeout, share_timeout}
use Rattle.step_definition.specs.NonceGather.{NonceVerdict, RecordVerdict, too_few, no_group_key, suffices, record_verdict, on_record, on_nonces}
use Rattle.step_definition.specs.SigShareGather.{ShareVerdict, TakeVerdict, already_held, others, last, take_verdict, on_take, on_shares}
use Rattle.step_definition.specs.Step.{message_in}
use Rattle.step_definition.proofs.Cases.{cond_case}
use Rattle.step_definition.proofs.Outcomes.{malicious_after}
use Rattle.step_definition.proofs.Verdicts.{TimeoutCase, on_time, nonces_late, shares_late}
use Rattle.step_definition.proofs.Verdicts.{NonceCase, gets16, gets17, gets18, ignores, gets19, is_new, nonce_case}
use Rattle.step_definition.proofs.Verdicts.{answers, ShareCase, not_awaited, other_dkg, other_sign, gets20, gets21, gets22, not_ended, is_good, share_case}
use Rattle.step_definition.proofs.Waiters.{Awaited, add_awaited, awaited_of, remove_absent, waiter_removed_law}
use Rattle.step_definition.proofs.Watching.{silent, Knows, Known, Good, elsewhere, unrequested, unheard as unheard_known, asked-heard, plain-good, calm-good, quiet_good}

module _ (c : Coordinator) (heard : Option SignatureShareResponse) (start : Bool) where
  abbrev pub Fine : Outcome → Type 0
  Fine o = Good (commissioned c) heard start o

  -- d may stand for c after a call without events
  abbrev pub Moves : Coordinator → Type 0
  Moves d = (w : Watch) → Known w (commissioned c) → Known (listening w heard) (commissioned d)

  -- The kinds of outcome, and a test before outcomes.
  pub branch : {t : Bool} {a b : Outcome} → (t ≡ true → Fine a) → (t ≡ false → Fine b) → Fine (cond t a b)
  branch {t = t} = cond_case Fine t

  pub still : {n : Answer} {d : Coordinator} → Moves d → Fine (outcome n [] (commissioned d))
  still moves = quiet_good moves

  -- a new round is begun: any watch fits
  anew :
      {n : Answer} {es : List Event} {d : Coordinator} → newly_malicious_in es ≡ None → ((w : Watch) → Known w (commissioned d))
      → Fine (outcome n es (commissioned d))
  anew {n = n} {es = es} m f =
      record {
        opens = λ r e. f unasked;
        keeps = λ w i. f (watch_after (share_request_in es) (start && eqb n.number 11) (listening w heard));
        excludes = λ ids e. absurd (none-some ids (sym m ∙ e));
      }

  refused11 :
      {d : Coordinator}
      → ((w : Watch) → Known w (commissioned c) → Known (watch_after None (start && true) (listening w heard)) (commissioned d))
      → Fine (failing 11 [] d)
  unfolding first
  refused11 named = plain-good refl refl named

  -- a start; 11 leaves message and sign id changed
  pub start-good :
      (now : ℕ) (s : Start) (d : Coordinator) → Moves d
      → ((w : Watch) → Known w (commissioned c) → Known (watch_after None (start && true) (listening w heard)) (commissioned (naming s d)))
      → Fine (start_round now s d)
  unfolding start_round first
  start-good now s d moves named = search (branch, still, anew, refused11)

  nonce_timeout_good : Moves c → Fine (nonce_timeout c)
  unfolding nonce_timeout
  nonce_timeout_good moves = search (branch, still)

  -- a share timeout: too few keys are left, or the round is begun again
  insufficient :
      {t : SignatureType} {n : Answer} {d : Coordinator} → phase_of c.position.state ≡ gathering_shares t
      → d.standing.malicious_signer_ids ≡ malicious_after c → Moves d → Fine (outcome n (newly_malicious (silent c) ∷ []) (commissioned d))
  unfolding first malicious_in
  insufficient {t} {n} {d} p m moves =
      record {
        opens = λ r e. absurd (none-some r e);
        keeps = λ w i. unrequested (start && eqb n.number 11) (listening w heard) (commissioned d) (moves w i);
        excludes = λ ids e. (t, p, m, cc);
      }

  again :
      {t : SignatureType} {n : Answer} {r : NonceRequest} {d : Coordinator} → phase_of c.position.state ≡ gathering_shares t
      → d.standing.malicious_signer_ids ≡ malicious_after c → ((w : Watch) → Known w (commissioned d))
      → Fine (outcome n (newly_malicious (silent c) ∷ (requested r ∷ (retried ∷ []))) (commissioned d))
  unfolding first malicious_in
  again {t} {n} {r} p m f =
      record {
        opens = λ r' e. f unasked;
        keeps =
            λ w i. f
            (watch_after (share_request_in (newly_malicious (silent c) ∷ (requested r ∷ (retried ∷ [])))) (start && eqb n.number 11)
            (listening w heard));
        excludes = λ ids e. (t, p, m, cc);
      }

  share-timeout-good :
      (now : ℕ) (t : SignatureType) → phase_of c.position.state ≡ gathering_shares t → Moves c
      → Fine (share_timeout now t c.position.root c)
  unfolding share_timeout
  share-timeout-good now t p moves = search (branch, still, insufficient, again)

  -- in Idle any watch fits
  pub idle_known : (w : Watch) (d : Coordinator) → phase_of d.position.state ≡ idling → Known w (commissioned d)
  idle_known w d p = rw p tt

  idle_good : (now : ℕ) (m : Content) → phase_of c.position.state ≡ idling → Fine (idle now m c)
  unfolding idle idle_request
  idle_good now (a_nonce_request r) p = search (branch, still, start-good, idle_known)
  idle_good now (a_nonce_response q) p = search (still, idle_known)
  idle_good now (a_share_response r) p = search (still, idle_known)
  idle_good now (a_dkg_begin dkg) p = search (branch, still, idle_known)
  idle_good now unheard p = search (still, idle_known)

  -- in NonceGather: a response recorded; the share request asks exactly the waiters
  record-good :
      (now : ℕ) (t : SignatureType) (q : NonceResponse) → phase_of c.position.state ≡ gathering_nonces t → (v : RecordVerdict)
      → Fine (on_record now t c.position.root q (recording now q c) v)
  unfolding on_record first watch_after
  record-good now t q p v = of v
    where
      kept : (w : Watch) → Known w (commissioned c) → All Awaited (add_response now q c.round.message_nonces)
      kept w i = add_awaited now q c.round.message_nonces (subst (λ (p : Phase). Knows w p c) p i)

      of : (v : RecordVerdict) → Fine (on_record now t c.position.root q (recording now q c) v)
      of too_few = calm-good (recorded q.signer_id ∷ []) (refl, refl, refl) (λ w i. rw p (kept w i))
      of no_group_key = calm-good (recorded q.signer_id ∷ []) (refl, refl, refl) (λ w i. rw p (kept w i))
      of suffices =
          plain-good refl refl (λ w i. (awaited_of q.message (add_response now q c.round.message_nonces) (kept w i), refl, refl))

  nonces-good :
      (now : ℕ) (t : SignatureType) {q : NonceResponse} {v : NonceVerdict} → phase_of c.position.state ≡ gathering_nonces t → Moves c
      → NonceCase q c v → Fine (on_nonces now t c.position.root q c v)
  unfolding on_nonces
  nonces-good now t p moves gets16 = still moves
  nonces-good now t p moves gets17 = still moves
  nonces-good now t p moves gets18 = still moves
  nonces-good now t p moves ignores = still moves
  nonces-good now t p moves gets19 = still moves
  nonces-good now t {q = q} p moves (is_new e) = record-good now t q p (record_verdict q (recording now q c))

  -- in SigShareGather: what comes of shares once their waiter is taken off
  take-good :
      (t : SignatureType) (r : SignatureShareResponse) (d : Coordinator) → Moves d → (v : TakeVerdict)
      → Fine (on_take t c.position.root r d v)
  unfolding on_take first
  take-good t r d moves already_held = still moves
  take-good t r d moves others = calm-good (shares_taken r.signer_id ∷ []) (refl, refl, refl) moves
  take-good t r d moves last = calm-good (shares_taken r.signer_id ∷ (job_written _ ∷ [])) (refl, refl, refl) moves

-- the waiter is taken off where the packet's ids are the current ones
module _ (c : Coordinator) (t : SignatureType) (r : SignatureShareResponse) (p : phase_of c.position.state ≡ gathering_shares t) where
  abbrev Hears : Coordinator → Type 0
  Hears d = Moves c (Some r) false d

  hears :
      (d : Coordinator) → d.position ≡ c.position → d.ids ≡ c.ids
      → waiters_of (current_record d) ≡ cond (answers r c.ids) (remove r.signer_id (waiters_of (current_record c))) (waiters_of (current_record c))
      → Hears d
  hears d q j e w i =
      rw (q, p, j)
      (asked-heard w r c.ids (waiters_of (current_record c)) (waiters_of (current_record d)) e (subst (λ (p : Phase). Knows w p c) p i))

  frees : answers r c.ids ≡ true → Hears (freeing r.signer_id c)
  frees e = hears (freeing r.signer_id c) refl refl (rw e (waiter_removed_law c.round.message r.signer_id c.round.message_nonces))

  shares_good : {v : ShareVerdict} → ShareCase r c v → Fine c (Some r) false (on_shares t c.position.root r c v)
  unfolding on_shares
  shares_good (not_awaited e) =
      quiet_good (hears c refl refl (remove_absent r.signer_id (waiters_of (current_record c)) e (answers r c.ids)))
  shares_good (other_dkg e) = quiet_good (hears c refl refl (rw e))
  shares_good (other_sign e) = quiet_good (hears c refl refl (rw e))
  shares_good (gets20 e) = quiet_good (frees e)
  shares_good (gets21 e) = quiet_good (frees e)
  shares_good (gets22 e) = quiet_good (frees e)
  shares_good (not_ended e) = quiet_good (frees e)
  shares_good (is_good e) = take-good c (Some r) false t r (freeing r.signer_id c) (frees e) (take_verdict r (freeing r.signer_id c))

-- a message, by phase
module _ (c : Coordinator) (now : ℕ) where
  abbrev Hearing : Content → Outcome → Type 0
  Hearing m = Good (commissioned c) (share_response_in m) false

  -- while no shares are gathered a packet may come or not
  unshared :
      {p : Phase} (m : Content) → phase_of c.position.state ≡ p → ((t : SignatureType) → p ≡ gathering_shares t → ⊥)
      → Moves c (share_response_in m) false c
  unshared {p} m e f w i = rw e (elsewhere p c w (listening w (share_response_in m)) f (subst (λ (p : Phase). Knows w p c) e i))

  never : {p q : Phase} {t : SignatureType} → p ≡ gathering_nonces t → p ≡ q → (u : SignatureType) → q ≡ gathering_shares u → ⊥
  never e f u g = let z : ◌≡◌ {A = ℕ} 0 1 = cc in omega arith

  nothing_heard : Fine c None false (quiet c)
  nothing_heard = quiet_good (unheard_known (commissioned c))

  pub message_good : (p : Phase) (m : Content) → phase_of c.position.state ≡ p → Hearing m (message_in now p m c)
  unfolding message_in
  message_good idling m e = idle_good c (share_response_in m) false now m e
  message_good (gathering_nonces t) (a_nonce_request r) e = nothing_heard
  message_good (gathering_nonces t) (a_nonce_response q) e = nonces-good c None false now t e (unheard_known (commissioned c)) (nonce_case q c)
  message_good (gathering_nonces t) (a_share_response r) e = quiet_good (unshared (a_share_response r) e (never e e))
  message_good (gathering_nonces t) (a_dkg_begin dkg) e = nothing_heard
  message_good (gathering_nonces t) unheard e = nothing_heard
  message_good (gathering_shares t) (a_nonce_request r) e = nothing_heard
  message_good (gathering_shares t) (a_nonce_response q) e = nothing_heard
  message_good (gathering_shares t) (a_share_response r) e = shares_good c t r e (share_case r c)
  message_good (gathering_shares t) (a_dkg_begin dkg) e = nothing_heard
  message_good (gathering_shares t) unheard e = nothing_heard
  message_good resting m e = quiet_good (unshared m e (λ u g. let z : ◌≡◌ {A = ℕ} 0 1 = cc in omega arith))

-- a timeout, in which nothing is heard; a packet after it is heard where it yields nothing
pub unless-late :
    (c : Coordinator) (now : ℕ) {p : Phase} {o : Option Outcome} (a : Option SignatureShareResponse) (rest : Outcome)
    → phase_of c.position.state ≡ p → TimeoutCase now c p o → Fine c a false rest
    → Fine c (cond (is_some o) None a) false (given o (λ (o : Outcome). o) rest)
unless-late c now a rest e on_time f = f
unless-late c now a rest e nonces_late f = nonce_timeout_good c None false (unheard_known (commissioned c))
unless-late c now a rest e (shares_late {t = t} l) f = share-timeout-good c None false now t e (unheard_known (commissioned c))
