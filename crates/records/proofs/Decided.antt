-- The code's verdict on a nonce response is the step's, of what struct and store stand for.
-- Assumes nothing.
use Prim.Native.Nat.{ℕ, suc, ◌+◌, ◌<◌, ◌≤◌}
use mathlib.Core.Path.{◌≡◌, refl, ap, ◌∙◌}
use mathlib.Core.Bool.{Bool, true, false, cond, ◌||◌}
use mathlib.Core.List.{List, [], ◌∷◌}
use Rattle.std.specs.Prelude.{Option, Some, None}
use native.Mathlib.Nat.{zero-add, add-zero}
use native.Mathlib.Omega.{arith}
use borrow.Author.Tests.{lt-ltb, ltb-true, ltb-false}
use lib.Dec.{eqb, ltb}
use lib.ListN.{length, get_or, take}
use lib.Seq.{length-take-le, get_or-take}
use Rattle.wire.specs.Bytes.{are_same_bytes}
use Rattle.layout.specs.Limits.{record_limit}
use Rattle.layout.specs.declared.Ids.{Ids}
use Rattle.layout.specs.Messages.{NonceResponse}
use Rattle.layout.specs.Decode.{ids_in, nonces_in}
use Rattle.step_definition.specs.Lists.{is_some, given, find}
use Rattle.step_definition.specs.Coordinator as C
use Rattle.step_definition.specs.Questions.{admitted, question19}
use Rattle.step_definition.specs.NonceGather.{ignored, no_room, records, nonce_verdict}
use Rattle.step_definition.proofs.Cases.{cond_image}
use Rattle.state.specs.declared.fields.SignerSlot.{SignerSlot}
use Rattle.state.specs.declared.fields.SignRoundInfo.{SignRoundInfo}
use Rattle.state.specs.declared.fields.Coordinator.{Coordinator}
use Rattle.state.specs.Slots.{signer_slot}
use Rattle.state.specs.Counts.{is_within_limits}
use Rattle.state.specs.View.{no_row, no_slot, ids_of, slots_of, config_of, held_in, row_of, rows_from, coordinator_of, standing_of, round_of}
use Rattle.state.proofs.SignerSlots.{slots_rise, slot_in}
use Rattle.state.proofs.Collect.{when_is, find_in}
use Rattle.state.proofs.Within.{within, records_few}
use Rattle.state.proofs.Shape.{Shaped}
use Rattle.state.proofs.Limits.{rows-length}
use Rattle.records.specs.declared.verdicts.Verdict.TheVariants.{Nothing}
use Rattle.records.specs.Records.{response_for, row_message, record_place}
use Rattle.records.specs.Admits.{slot_of, admitted_at}
use Rattle.records.specs.Verdicts.{held_at, verdict_on, verdict_at, verdict_of, meaning}
use Rattle.records.proofs.AddResponse.{held_id}
use Rattle.records.proofs.AddRows.{index, place_index, index_le, place-le}
use Rattle.records.proofs.Asking.{admitted_at_law, not_listed}

-- the record of a message, found by its place
record_found : (es : List SignerSlot) (m store : List ℕ) (k : ℕ) (rows : List SignRoundInfo) → index m store k rows < length rows
    → C.record_of m (rows_from es store k rows) ≡ Some (row_of es store (k + index m store k rows) (get_or rows (index m store k rows) no_row))
unfolding index rows_from row_of row_message
record_found es m store k [] h = let z : ⊥ = omega arith in absurd z
record_found es m store k (row ∷ rows) h = turn (are_same_bytes m (row_message k row store)) h (record_found es m store (k + 1) rows)
  where
    turn : (b : Bool) → cond b 0 (suc (index m store (k + 1) rows)) < suc (length rows)
        → (index m store (k + 1) rows < length rows → C.record_of m (rows_from es store (k + 1) rows) ≡ Some (row_of es store (k + 1 + index m store (k + 1) rows) (get_or rows (index m store (k + 1) rows) no_row)))
        → cond b (Some (row_of es store k row)) (C.record_of m (rows_from es store (k + 1) rows))
        ≡ Some (row_of es store (k + cond b 0 (suc (index m store (k + 1) rows))) (get_or (row ∷ rows) (cond b 0 (suc (index m store (k + 1) rows))) no_row))
    turn true h f = rw (add-zero k)
    turn false h f = let e : k + suc (index m store (k + 1) rows) ≡ k + 1 + index m store (k + 1) rows = omega arith in rw e (f (omega arith))

record_none : (es : List SignerSlot) (m store : List ℕ) (k : ℕ) (rows : List SignRoundInfo) → index m store k rows ≡ length rows → C.record_of m (rows_from es store k rows) ≡ None
unfolding index rows_from row_of row_message
record_none es m store k [] h = refl
record_none es m store k (row ∷ rows) h = turn (are_same_bytes m (row_message k row store)) h (record_none es m store (k + 1) rows)
  where
    turn : (b : Bool) → cond b 0 (suc (index m store (k + 1) rows)) ≡ suc (length rows) → (index m store (k + 1) rows ≡ length rows → C.record_of m (rows_from es store (k + 1) rows) ≡ None)
        → cond b (Some (row_of es store k row)) (C.record_of m (rows_from es store (k + 1) rows)) ≡ None
    turn true h f = let z : ⊥ = omega arith in absurd z
    turn false h f = f (omega arith)

module _ (s : Coordinator) (store : List ℕ) (shaped : Shaped s) (w : is_within_limits s ≡ true) (m : List ℕ) where
  abbrev c : C.Coordinator
  c = coordinator_of s store

  abbrev r : ℕ
  r = record_place m s.records store

  abbrev live : List SignRoundInfo
  live = take s.records.count s.records.rows

  live_length : length live ≡ s.records.count
  live_length = let l = shaped.rows in let h = records_few s (within s w) in length-take-le s.records.count s.records.rows (omega arith)

  at_index : r ≡ index m store 0 live
  unfolding record_place
  at_index = place_index m store 0 live ∙ zero-add _

  pub found_record : r < s.records.count → C.record_of m c.round.message_nonces ≡ Some (row_of (slots_of s.config) store r (get_or s.records.rows r no_row))
  unfolding coordinator_of round_of
  found_record h =
      let e = at_index in
      let l = live_length in
      rw (zero-add (index m store 0 live), ← e, get_or-take s.records.count s.records.rows r no_row h) at (record_found (slots_of s.config) m store 0 live (omega arith))

  pub no_record : s.records.count ≤ r → C.record_of m c.round.message_nonces ≡ None
  unfolding coordinator_of round_of
  no_record h = let e = at_index in let l = live_length in record_none (slots_of s.config) m store 0 live (omega (arith, index_le m store 0 live))

  records_length : length c.round.message_nonces ≡ s.records.count
  unfolding coordinator_of round_of
  records_length = rows-length (slots_of s.config) store 0 live ∙ live_length

  module _ (got : Ids) (id : ℕ) (keys nonces : List ℕ) where
    abbrev q : NonceResponse
    q = response_for got id m keys nonces

    -- 19: the place is among the four
    asks_19 : question19 c q ≡ ltb r record_limit
    unfolding question19
    asks_19 = by (ltb r s.records.count) refl
      where
        by : (b : Bool) → ltb r s.records.count ≡ b
            → (is_some (C.record_of m c.round.message_nonces) || ltb (length c.round.message_nonces) record_limit) ≡ ltb r record_limit
        by true e =
            let h = ltb-true r s.records.count e in
            let few = records_few s (within s w) in
            rw (found_record h, lt-ltb r record_limit (omega arith))
        by false e =
            let h = ltb-false r s.records.count e in
            let same : s.records.count ≡ r = omega (arith, place-le m store s.records) in
            rw (no_record h) (ap (λ (n : ℕ). ltb n record_limit) (records_length ∙ same))

    -- a second response
    asks_again : (i : ℕ) → slot_of id s.config ≡ Some i → C.responded id (C.responses_of (C.record_of m c.round.message_nonces)) ≡ held_at s.records r i
    unfolding held_at row_of
    asks_again i f = by (ltb r s.records.count) refl
      where
        by : (b : Bool) → ltb r s.records.count ≡ b
            → C.responded id (C.responses_of (C.record_of m c.round.message_nonces)) ≡ cond b (get_or (get_or s.records.rows r no_row).slots i no_slot).held false
        by true e =
            let row = get_or s.records.rows r no_row in
            rw (found_record (ltb-true r s.records.count e))
            (ap is_some (find_in C.responder_id (held_in r row.message store row.slots) (held_id r store row.message row.slots) (signer_slot id i) (slots_of s.config) (slots_rise 0 (ids_of s.config)) (slot_in id 0 (ids_of s.config) i f))
            ∙ when_is (get_or row.slots i no_slot).held _)
        by false e = rw (no_record (ltb-false r s.records.count e))

    -- not configured: nothing
    nowhere : slot_of id s.config ≡ None → admitted (config_of s.config) (standing_of s).dkg_end_messages (standing_of s).malicious_signer_ids q ≡ false
    unfolding admitted
    nowhere n = rw (not_listed s.config id n)

    at_slot : (o : Option ℕ) → slot_of id s.config ≡ o
        → cond (admitted (config_of s.config) (standing_of s).dkg_end_messages (standing_of s).malicious_signer_ids q)
        (cond (question19 c q) (cond (C.responded id (C.responses_of (C.record_of m c.round.message_nonces))) ignored records) no_room) ignored
        ≡ meaning (given o (verdict_at s store m keys nonces) Nothing)
    unfolding verdict_at verdict_on meaning
    at_slot None e = rw (nowhere e)
    at_slot (Some i) e =
        rw (admitted_at_law s i q e, asks_19, asks_again i e)
        (cond_image meaning (admitted_at s i (ids_in keys) (nonces_in nonces)) (cond_image meaning (ltb r record_limit) (cond_image meaning (held_at s.records r i) refl refl) refl) refl)

    pub decided : nonce_verdict q (coordinator_of s store) ≡ meaning (verdict_of s got id store m keys nonces)
    unfolding nonce_verdict verdict_of coordinator_of standing_of meaning
    decided =
        cond_image meaning (eqb got.dkg_id s.ids.dkg_id)
        (cond_image meaning (eqb got.sign_id s.ids.sign_id)
        (cond_image meaning (eqb got.sign_iter_id s.ids.sign_iter_id) (at_slot (slot_of id s.config) refl) refl) refl) refl
