-- What each verdict came to.
-- Assumes nothing.
use Prim.Native.Nat.{ℕ}
use mathlib.Core.Path.{◌≡◌, sym, subst, ◌∙◌}
use mathlib.Core.List.{List}
use Rattle.layout.specs.declared.Header.{Header}
use Rattle.layout.specs.declared.SignatureType.{SignatureType}
use Rattle.layout.specs.LaidOut.{header_in}
use Rattle.layout.specs.Decode.{share_response_in}
use Rattle.state.specs.declared.answers.Class.TheVariants.{Result}
use Rattle.state.specs.declared.answers.Done.{Done}
use Rattle.state.specs.declared.fields.Coordinator.{Coordinator}
use Rattle.state.specs.Turns.{Did, plain_answer, mismatched_answer, blaming_answer}
use Rattle.state.proofs.Turns.{plain_did, mismatched_did, blaming_did}
use Rattle.state.proofs.Shape.{Shaped}
use Rattle.share_verdicts.specs.declared.Verdict.{Verdict}
use Rattle.share_verdicts.specs.declared.Verdict.TheVariants.{Unawaited, Wrong, Refused, Unended, Good}
use Rattle.share_verdicts.specs.Verdicts.{verdict_of, Asked}
use Rattle.share_verdicts.proofs.Deciding.{Told, told}
use Rattle.share_taking.specs.Taking.{Taking, take_turn}
use Rattle.share_gather.specs.ShareGather.{freed, verdict_turn, gather_shares_turn, SharesGathering}
use Rattle.share_gather.proofs.Freeing.{freed_within}

pub asked : {s : Coordinator} {store p : List ℕ} {h : Header} {room : ℕ} → SharesGathering s store p h room → Asked s p h
asked g = record { within = g.within; header = g.header; shares = g.shares }

module _ (p : List ℕ) (h : Header) (header : h ≡ header_in p) (s : Coordinator) (store : List ℕ) (v : Verdict)
    (decided : v ≡ verdict_of s store (share_response_in p)) where
  signer : (share_response_in p).signer_id ≡ h.signer_id
  unfolding share_response_in
  signer = rw (← header)

  -- a verdict that tells a place and a slot
  pub waiter_told : (u : Verdict) → v ≡ u → Told s store h.signer_id u
  waiter_told u e =
      subst (λ (n : ℕ). Told s store n u) signer (subst (Told s store (share_response_in p).signer_id) (sym decided ∙ e) (told s store (share_response_in p)))

  pub taking : {room : ℕ} (r i : ℕ) → Shaped s → v ≡ Good r i → SharesGathering s store p h room → Taking (freed r i s) store p h r i room
  taking r i shaped e g =
      let w = waiter_told (Good r i) e in
      record {
        within = freed_within s store h.signer_id r i g.within w shaped;
        stored = g.stored;
        wide = g.wide;
        shares = g.shares;
        found = w.found;
        known = w.known;
      }

  module _ (t : SignatureType) {d : Done} {out : List ℕ} where
    pub unawaited_did : v ≡ Unawaited → d ≡ record { answer = plain_answer; after = s } → Did (gather_shares_turn t p s store) out d store out
    unfolding gather_shares_turn verdict_turn
    unawaited_did e f = rw (← decided, e) (plain_did _ store out f)

    pub wrong-did :
        (n got expected : ℕ) → v ≡ Wrong n got expected → d ≡ record { answer = mismatched_answer Result n got expected; after = s }
        → Did (gather_shares_turn t p s store) out d store out
    unfolding gather_shares_turn verdict_turn
    wrong-did n got expected e f = rw (← decided, e) (mismatched_did store out f)

    module _ (r i : ℕ) (u : Coordinator) (free : u ≡ freed r i s) where
      pub refused_did : (n : ℕ) → v ≡ Refused n r i → d ≡ record { answer = blaming_answer n h.signer_id; after = u } → Did (gather_shares_turn t p s store) out d store out
      unfolding gather_shares_turn verdict_turn
      refused_did n e f = rw (← decided, e, ← header, ← free) (blaming_did store out f)

      pub unended_did : v ≡ Unended r i → d ≡ record { answer = plain_answer; after = u } → Did (gather_shares_turn t p s store) out d store out
      unfolding gather_shares_turn verdict_turn
      unended_did e f = rw (← decided, e, ← free) (plain_did _ store out f)

      pub good_did : (store' out' : List ℕ) → v ≡ Good r i → Did (take_turn t p h r i u store) out d store' out' → Did (gather_shares_turn t p s store) out d store' out'
      unfolding gather_shares_turn verdict_turn
      good_did store' out' e f = rw (← decided, e, ← header, ← free) f
