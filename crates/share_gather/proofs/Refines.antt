-- SigShareGather on a response gives what the definition says of what the struct and the store stand for.
-- Assumes nothing.
use Rattle.std.specs.Prelude.{Some}
use Prim.Native.Nat.{ℕ}
use mathlib.Core.Path.{◌≡◌, refl, ap, subst, ◌∙◌}
use mathlib.Core.Bool.{true}
use mathlib.Core.List.{List}
use Rattle.layout.specs.declared.Header.{Header}
use Rattle.layout.specs.declared.SignatureType.{SignatureType}
use Rattle.layout.specs.LaidOut.{header_in}
use Rattle.layout.specs.Messages.{SignatureShareResponse}
use Rattle.layout.specs.Decode.{share_response_in}
use Rattle.state_table.specs.States.{type_in}
use Rattle.step_definition.specs.Coordinator as C
use Rattle.step_definition.specs.Effects.{freeing}
use Rattle.step_definition.specs.SigShareGather.{take_verdict, on_take, on_shares, gather_shares}
use Rattle.state.specs.declared.fields.Coordinator.{Coordinator}
use Rattle.state.specs.View.{view, coordinator_of}
use Rattle.state.specs.Turns.{Refines}
use Rattle.state.proofs.Shape.{Shaped}
use Rattle.state.proofs.Refines.{view_held}
use Rattle.share_verdicts.specs.declared.Verdict.{Verdict}
use Rattle.share_verdicts.specs.declared.Verdict.TheVariants.{Unawaited, Wrong, Refused, Unended, Good}
use Rattle.share_verdicts.specs.Verdicts.{verdict_of, meaning}
use Rattle.share_verdicts.proofs.Deciding.{Waiter}
use Rattle.share_verdicts.proofs.Decided.{decided}
use Rattle.share_taking.specs.Taking.{take_turn}
use Rattle.share_taking.proofs.Refines.{take_refines}
use Rattle.share_gather.specs.ShareGather.{freed, verdict_turn, gather_shares_turn, SharesGathering}
use Rattle.share_gather.proofs.Freeing.{freed_within, freed_shaped, freed_place, freed_seen}
use Rattle.share_gather.proofs.Answering.{waiter_told, taking}

module _ (t : SignatureType) (p : List ℕ) (s : Coordinator) (store : List ℕ) (shaped : Shaped s) (b : s.commissioned ≡ true)
    (typed : type_in s.position.state ≡ Some t) where
  abbrev c₀ : C.Coordinator
  c₀ = coordinator_of s store

  abbrev q₀ : SignatureShareResponse
  q₀ = share_response_in p

  module _ {room : ℕ} (g : SharesGathering s store p (header_in p) room) where
    -- the waiter is removed
    free_viewed : (r i : ℕ) → Waiter s store (header_in p).signer_id r i → view (freed r i s) store ≡ C.commissioned (freeing q₀.signer_id c₀)
    unfolding share_response_in
    free_viewed r i waiter =
        let id = (header_in p).signer_id in
        view_held (freed r i s) store b (freed_within s store id r i g.within waiter shaped)
        ∙ ap C.commissioned (freed_seen s store id r i g.within waiter shaped)

    by_verdict : (v : Verdict) → v ≡ verdict_of s store q₀
        → Refines (verdict_turn t p (header_in p) s store v) (on_shares t c₀.position.root q₀ c₀ (meaning v))
    unfolding verdict_turn on_shares meaning share_response_in
    by_verdict Unawaited e = record { answer = refl; events = refl; after = view_held s store b g.within }
    by_verdict (Wrong n got expected) e = record { answer = refl; events = refl; after = view_held s store b g.within }
    by_verdict (Refused n r i) e = record { answer = refl; events = refl; after = free_viewed r i (waiter_told p (header_in p) refl s store _ e (Refused n r i) refl) }
    by_verdict (Unended r i) e = record { answer = refl; events = refl; after = free_viewed r i (waiter_told p (header_in p) refl s store _ e (Unended r i) refl) }
    by_verdict (Good r i) e =
        let id = (header_in p).signer_id in
        let waiter = waiter_told p (header_in p) refl s store _ e (Good r i) refl in
        subst
        (λ (c : C.Coordinator). Refines (take_turn t p (header_in p) r i (freed r i s) store) (on_take t c.position.root q₀ c (take_verdict q₀ c)))
        (freed_seen s store id r i g.within waiter shaped)
        (take_refines t p r i (freed r i s) store (freed_shaped s store id r i g.within waiter shaped) b typed
        (freed_place s store id r i g.within waiter shaped)
        (taking p (header_in p) refl s store _ e r i shaped refl g))

  pub gather_shares_refines : {h : Header} {room : ℕ} → SharesGathering s store p h room
      → Refines (gather_shares_turn t p s store) (gather_shares t (coordinator_of s store).position.root (share_response_in p) (coordinator_of s store))
  unfolding gather_shares_turn
  gather_shares_refines {h} {room} g =
      let known : SharesGathering s store p (header_in p) room = subst (λ (x : Header). SharesGathering s store p x room) g.header g in
      rw (decided s store shaped g.within (share_response_in p)) (by_verdict known (verdict_of s store (share_response_in p)) refl)
