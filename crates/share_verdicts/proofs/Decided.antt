-- The code's verdict on a share response is the step's, of what struct and store stand for.
-- Assumes nothing.
use Prim.Native.Nat.{ℕ}
use mathlib.Core.Path.{◌≡◌, refl, sym, ap, ◌∙◌}
use mathlib.Core.Bool.{Bool, true, false, cond, ◌&&◌}
use mathlib.Core.List.{List}
use Rattle.std.specs.Prelude.{Option, Some, None}
use borrow.Author.Tests.{ltb-true, ltb-false}
use lib.Dec.{eqb, ltb}
use lib.ListN.{get_or}
use Rattle.layout.specs.Messages.{SignatureShareResponse}
use Rattle.validity.specs.Keys.{member, same_set, listed}
use Rattle.step_definition.specs.Lists.{is_some, given}
use Rattle.step_definition.specs.Configuration.{keys_in}
use Rattle.step_definition.specs.Coordinator as C
use Rattle.step_definition.specs.Effects.{share_key_ids}
use Rattle.step_definition.specs.Questions.{question20, question21, question22}
use Rattle.step_definition.specs.SigShareGather.{refused, unended, good, share_verdict}
use Rattle.step_definition.proofs.Cases.{cond_image}
use Rattle.state.specs.declared.fields.Config.{Config}
use Rattle.state.specs.declared.fields.ResponseSlot.{ResponseSlot}
use Rattle.state.specs.declared.fields.SignerSlot.{SignerSlot}
use Rattle.state.specs.declared.fields.Coordinator.{Coordinator}
use Rattle.state.specs.Slots.{signer_slot, collect, when}
use Rattle.state.specs.Counts.{is_within_limits}
use Rattle.state.specs.View.{no_entry, no_row, no_slot, ids_of, slots_of, signer_in, flagged_in, waits_in, row_of, coordinator_of, standing_of, round_of}
use Rattle.state.proofs.SignerSlots.{slots_rise, slot_in, slots_out}
use Rattle.state.proofs.Collect.{when_some, when_is, find_in, find_out, member_found}
use Rattle.state.proofs.Shape.{Shaped}
use Rattle.records.specs.Admits.{slot_of}
use Rattle.records.proofs.Asking.{listed_at}
use Rattle.records.proofs.Decided.{found_record, no_record}
use Rattle.timeouts.specs.NonceTimeout.{current_place}
use Rattle.share_verdicts.specs.declared.Verdict.TheVariants.{Unawaited}
use Rattle.share_verdicts.specs.Verdicts.{slot_at, awaited_at, shares_verdict, waiter_verdict, verdict_of, meaning}

-- a list of ids that is collected over the signers' slots: whether one is in it is said by its slot
module _ (g : Config) (id : ℕ) (f : SignerSlot → Option ℕ) (own : (e : SignerSlot) (y : ℕ) → f e ≡ Some y → y ≡ e.id) where
  member_at : (i : ℕ) → slot_of id g ≡ Some i → member id (collect f (slots_of g)) ≡ is_some (f (signer_slot id i))
  member_at i found =
      member_found id (collect f (slots_of g))
      ∙ ap is_some (find_in (λ (x : ℕ). x) f own (signer_slot id i) (slots_of g) (slots_rise 0 (ids_of g)) (slot_in id 0 (ids_of g) i found))

  member_nowhere : slot_of id g ≡ None → member id (collect f (slots_of g)) ≡ false
  member_nowhere n =
      member_found id (collect f (slots_of g)) ∙ ap is_some (find_out (λ (x : ℕ). x) f own id (slots_of g) (slots_out id (ids_of g) n))

flag-own : (flags : List Bool) (e : SignerSlot) (y : ℕ) → flagged_in flags e ≡ Some y → y ≡ e.id
flag-own flags e y h = sym (when_some (get_or flags e.slot false) e.id y h)

waits_own : (slots : List ResponseSlot) (e : SignerSlot) (y : ℕ) → waits_in slots e ≡ Some y → y ≡ e.id
waits_own slots e y h = sym (when_some ((get_or slots e.slot no_slot).held && (get_or slots e.slot no_slot).waits) e.id y h)

-- 21, then 22: an entry that isn't there is not compared
entry-asked :
    (h : Bool) (keys set : List ℕ) → cond (is_some (when h set)) (cond (same_set keys (keys_in (when h set))) good (refused 22)) (refused 21)
    ≡ cond h (cond (same_set keys set) good (refused 22)) (refused 21)
entry-asked true keys set = refl
entry-asked false keys set = refl

module _ (s : Coordinator) (store : List ℕ) (shaped : Shaped s) (w : is_within_limits s ≡ true) (q : SignatureShareResponse) where
  abbrev c : C.Coordinator
  c = coordinator_of s store

  abbrev r : ℕ
  r = current_place s store

  abbrev id : ℕ
  id = q.signer_id

  abbrev keys : List ℕ
  keys = share_key_ids q.signature_shares

  -- the waiters of the current message's record, where it has one
  waiters_known : ltb r s.records.count ≡ true → C.waiters_of (C.current_record c) ≡ collect (waits_in (get_or s.records.rows r no_row).slots) (slots_of s.config)
  unfolding current_place coordinator_of round_of row_of
  waiters_known e = rw (found_record s store shaped w _ (ltb-true _ _ e))

  waiters_none : (x : ℕ) → ltb r s.records.count ≡ false → member x (C.waiters_of (C.current_record c)) ≡ false
  unfolding current_place coordinator_of round_of
  waiters_none x e = rw (no_record s store shaped w _ (ltb-false _ _ e))

  waits_nowhere : slot_of id s.config ≡ None → member id (C.waiters_of (C.current_record c)) ≡ false
  waits_nowhere n = by (ltb r s.records.count) refl
    where
      by : (b : Bool) → ltb r s.records.count ≡ b → member id (C.waiters_of (C.current_record c)) ≡ false
      by true e =
          let slots = (get_or s.records.rows r no_row).slots in
          rw (waiters_known e) (member_nowhere s.config id (waits_in slots) (waits_own slots) n)
      by false e = waiters_none id e

  module _ (i : ℕ) (found : slot_of id s.config ≡ Some i) where
    waits_at : member id (C.waiters_of (C.current_record c)) ≡ awaited_at s.records r i
    unfolding awaited_at
    waits_at = by (ltb r s.records.count) refl
      where
        by : (b : Bool) → ltb r s.records.count ≡ b
            → member id (C.waiters_of (C.current_record c)) ≡ cond b ((slot_at s.records r i).held && (slot_at s.records r i).waits) false
        by true e =
            let slots = (get_or s.records.rows r no_row).slots in
            rw (waiters_known e)
            (member_at s.config id (waits_in slots) (waits_own slots) i found ∙ when_is ((slot_at s.records r i).held && (slot_at s.records r i).waits) id)
        by false e = waiters_none id e

    ended_at : member id c.standing.dkg_end_messages ≡ get_or s.marks.ended i false
    unfolding coordinator_of standing_of
    ended_at =
        member_at s.config id (flagged_in s.marks.ended) (flag-own s.marks.ended) i found ∙ when_is (get_or s.marks.ended i false) id

    shares-decided :
        cond (question20 c id)
        (cond (member id c.standing.dkg_end_messages)
        (cond (question21 c id)
        (cond (question22 c id keys) good (refused 22))
        (refused 21))
        unended)
        (refused 20)
        ≡ meaning (shares_verdict s r i keys)
    unfolding question20 question21 question22 coordinator_of standing_of signer_in shares_verdict meaning
    shares-decided =
        let entry = get_or s.config.signers i no_entry in
        rw (listed_at s.config id i found, ended_at, entry-asked entry.has_keys keys (listed entry.keys))
        (cond_image meaning (get_or s.marks.ended i false)
        (cond_image meaning entry.has_keys (cond_image meaning (same_set keys (listed entry.keys)) refl refl) refl) refl)

  at_slot : (o : Option ℕ) → slot_of id s.config ≡ o → share_verdict q c ≡ meaning (given o (waiter_verdict s q r) Unawaited)
  unfolding share_verdict waiter_verdict meaning coordinator_of
  at_slot None e = rw (waits_nowhere e)
  at_slot (Some i) e =
      rw (waits_at i e)
      (cond_image meaning (awaited_at s.records r i)
      (cond_image meaning (eqb q.ids.dkg_id s.ids.dkg_id)
      (cond_image meaning (eqb q.ids.sign_id s.ids.sign_id) (shares-decided i e) refl) refl) refl)

  pub decided : share_verdict q (coordinator_of s store) ≡ meaning (verdict_of s store q)
  unfolding verdict_of
  decided = at_slot (slot_of id s.config) refl
