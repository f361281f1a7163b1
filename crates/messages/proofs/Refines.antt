-- A message that is taken gives what the definition says of what the struct and the store stand for.
-- Assumes nothing.
use Rattle.std.specs.Prelude.{Err, Ok, Some}
use Prim.Native.Nat.{ℕ}
use mathlib.Core.Path.{◌≡◌, refl, subst}
use mathlib.Core.Bool.{Bool, true, false, cond, not, ◌||◌, ◌&&◌}
use mathlib.Core.List.{List, []}
use lib.ListN.{length}
use Rattle.layout.specs.Limits.{message_limit}
use Rattle.layout.specs.declared.Header.{Header}
use Rattle.layout.specs.declared.SignatureType.{SignatureType}
use Rattle.layout.specs.Messages.{Message, NonceResponse, SignatureShareResponse}
use Rattle.layout.specs.Encode.{header}
use Rattle.layout.specs.LaidOut.{header_in, part_at}
use Rattle.layout.specs.Decode.{response_in}
use Rattle.layout.specs.Decode as L
use Rattle.layout.proofs.Headed.{laid-out-cases, header-message_in}
use Rattle.state_table.specs.declared.State.{State}
use Rattle.state_table.specs.declared.State.TheVariants.{Idle, DkgPublicDistribute, DkgPublicGather, DkgPublicSharesDoneDistribute, DkgPublicSharesDoneGather, DkgPrivateDistribute, DkgPrivateGather, DkgPrivateSharesDoneDistribute, DkgPrivateSharesDoneGather, DkgEndDistribute, DkgEndGather, NonceRequest, NonceGather, SigShareRequest, SigShareGather}
use Rattle.state_table.specs.States.{type_in}
use Rattle.step_definition.specs.Coordinator.{Coordinator as Defined}
use Rattle.step_definition.specs.Coordinator.{commissioned}
use Rattle.step_definition.specs.Calls as A
use Rattle.step_definition.specs.Lists.{given}
use Rattle.step_definition.specs.Phases.{Phase, idling, gathering_nonces, gathering_shares, resting, phase_of, content_of, nonce_response_in, share_response_in}
use Rattle.step_definition.specs.Questions.{question13, question14}
use Rattle.step_definition.specs.NonceGather.{gather_nonces}
use Rattle.step_definition.specs.SigShareGather.{gather_shares}
use Rattle.step_definition.specs.Step.{message_in, on_message}
use Rattle.state.specs.declared.fields.Coordinator.{Coordinator}
use Rattle.state.specs.View.{view, coordinator_of, standing_of, position_of, config_of}
use Rattle.state.specs.Turns.{Turn, turn, unless, Refines}
use Rattle.state.proofs.Shape.{Shaped}
use Rattle.state.proofs.Refines.{view_held}
use Rattle.results.proofs.Flags.{known_configured}
use Rattle.nonce_gather.proofs.Refines.{gather-refines}
use Rattle.share_gather.proofs.Refines.{gather_shares_refines}
use Rattle.idle.proofs.Refines.{idle_refines}
use Rattle.messages.specs.Verified.{sender_known, verified_asked}
use Rattle.messages.specs.Messages.{Incoming, in_nonces, in_shares, turn_in, phase_turn, message_turn}
use Rattle.messages.proofs.Taken.{gathering, shareable}

-- the states that gather have a type
abbrev TypeOf : Phase → State → Type 0
TypeOf idling s = Unit {0}
TypeOf (gathering_nonces t) s = type_in s ≡ Some t
TypeOf (gathering_shares t) s = type_in s ≡ Some t
TypeOf resting s = Unit {0}

type_of_law : (s : State) → TypeOf (phase_of s) s
type_of_law Idle = tt
type_of_law DkgPublicDistribute = tt
type_of_law DkgPublicGather = tt
type_of_law DkgPublicSharesDoneDistribute = tt
type_of_law DkgPublicSharesDoneGather = tt
type_of_law DkgPrivateDistribute = tt
type_of_law DkgPrivateGather = tt
type_of_law DkgPrivateSharesDoneDistribute = tt
type_of_law DkgPrivateSharesDoneGather = tt
type_of_law DkgEndDistribute = tt
type_of_law DkgEndGather = tt
type_of_law (NonceRequest t) = tt
type_of_law (NonceGather t) = refl
type_of_law (SigShareRequest t) = tt
type_of_law (SigShareGather t) = refl

-- 13 and 14, by their answers
sealed :
    (s : Coordinator) (store : List ℕ) (c : Defined) (rest : Turn) (o : A.Outcome) (verify held good : Bool) → view s store ≡ commissioned c → Refines rest o
    → Refines (unless (cond verify (cond held (cond good (Ok tt) (Err 14)) (Err 13)) (Ok tt)) s store rest)
    (cond (not verify || held) (cond (not verify || good) o (A.failing 14 [] c)) (A.failing 13 [] c))
unfolding unless
sealed s store c rest o false held good e r = r
sealed s store c rest o true false good e r = record { answer = refl; events = refl; after = e }
sealed s store c rest o true true false e r = record { answer = refl; events = refl; after = e }
sealed s store c rest o true true true e r = r

module _ (clock : ℕ) (p : List ℕ) (s : Coordinator) (store : List ℕ) {h : Header} {room : ℕ} (shaped : Shaped s) (bytes : length s.message.bytes ≡ message_limit)
    (root : length s.position.root ≡ 32) (b : s.commissioned ≡ true) (i : Incoming s store p h room) where
  abbrev c : Defined
  c = coordinator_of s store

  plainly : Refines (turn A.plain s store) (A.quiet c)
  plainly = record { answer = refl; events = refl; after = view_held s store b i.within }

  head : (k : ℕ) → (header_in p).kind ≡ k → h.kind ≡ k
  head k e = rw i.header e

  nonces-refine :
      (t : SignatureType) → type_in s.position.state ≡ Some t
      → Refines (in_nonces clock t p s store) (given (nonce_response_in (content_of (L.message_in p))) (λ (q : NonceResponse). gather_nonces clock t c.position.root q c) (A.quiet c))
  unfolding in_nonces response_in
  nonces-refine t typed =
      laid-out-cases p
      (λ (m : Message). Refines (in_nonces clock t p s store) (given (nonce_response_in (content_of m)) (λ (q : NonceResponse). gather_nonces clock t c.position.root q c) (A.quiet c)))
      i.laid_out
      (λ k a n r. rw k plainly)
      (λ k a n r. rw k
      (gather-refines clock t (header_in p).ids (header_in p).signer_id (part_at p 32) (part_at p 40) (part_at p 48) s store shaped bytes b typed (gathering i (head 2 k))))
      (λ k a n r e. rw k plainly)
      (λ k a e. rw k plainly)
      (λ k g d. rw k plainly)
      (λ k d. rw k plainly)
      (λ k g d. rw k plainly)

  shares-refine :
      (t : SignatureType) → type_in s.position.state ≡ Some t
      → Refines (in_shares t p s store) (given (share_response_in (content_of (L.message_in p))) (λ (r : SignatureShareResponse). gather_shares t c.position.root r c) (A.quiet c))
  unfolding in_shares
  shares-refine t typed =
      laid-out-cases p
      (λ (m : Message). Refines (in_shares t p s store) (given (share_response_in (content_of m)) (λ (r : SignatureShareResponse). gather_shares t c.position.root r c) (A.quiet c)))
      i.laid_out
      (λ k a n r. rw k plainly)
      (λ k a n r. rw k plainly)
      (λ k a n r e. rw k plainly)
      (λ k a e. rw k (gather_shares_refines t p s store shaped b typed (shareable i (head 4 k))))
      (λ k g d. rw k plainly)
      (λ k d. rw k plainly)
      (λ k g d. rw k plainly)

  pub phase_refines : Refines (phase_turn clock p s store) (message_in clock (phase_of s.position.state) (content_of (L.message_in p)) c)
  unfolding turn_in message_in
  phase_refines = by (phase_of s.position.state) refl
    where
      by : (x : Phase) → phase_of s.position.state ≡ x → Refines (turn_in clock p s store x) (message_in clock x (content_of (L.message_in p)) c)
      by idling e = idle_refines clock p s store bytes root b i.within i.laid_out i.short
      by (gathering_nonces t) e = nonces-refine t (subst (λ (x : Phase). TypeOf x s.position.state) e (type_of_law s.position.state))
      by (gathering_shares t) e = shares-refine t (subst (λ (x : Phase). TypeOf x s.position.state) e (type_of_law s.position.state))
      by resting e = plainly

  asks_14 : (verdict : Bool) → sender_known s.config (header_in p) && verdict ≡ question14 c.standing.config (L.message_in p) verdict
  unfolding sender_known question14 coordinator_of standing_of
  asks_14 verdict = rw (header-message_in p i.laid_out, ← known_configured s.config (header_in p).signer_id) refl

  pub message_refines : (verdict : Bool) → Refines (message_turn clock verdict p s store) (on_message clock verdict (L.message_in p) c)
  unfolding message_turn on_message verified_asked question13 coordinator_of standing_of config_of position_of
  message_refines verdict =
      rw (← asks_14 verdict)
      (sealed s store c (phase_turn clock p s store) _ s.config.verify_packet_sigs s.keys.coordinator (sender_known s.config (header_in p) && verdict)
      (view_held s store b i.within) phase_refines)
