-- A waiter freed, of the whole struct: within the limits, in the arrays' places, and for the step the waiter is removed.
-- Assumes nothing.
use Prim.Native.Nat.{ℕ, ◌<◌}
use mathlib.Core.Path.{◌≡◌, refl, sym, ◌∙◌}
use mathlib.Core.Bool.{Bool, true, false, ◌&&◌}
use mathlib.Core.List.{List}
use Rattle.std.specs.Prelude.{Some, None}
use native.Mathlib.Nat.{zero-add}
use native.Mathlib.Omega.{arith}
use borrow.Author.Tests.{eqb-true, eqb-false, le-leb}
use lib.Dec.{eqb, leb}
use lib.ListN.{length, get_or, set, take, length-set}
use lib.Seq.{get_or-set_same, get_or-set_other}
use Rattle.wire.specs.Bytes.{every}
use Rattle.wire.proofs.Lists.{and_left, and_right, and_both, all_imp}
use Rattle.layout.specs.Limits.{message_limit, signer_limit, record_limit}
use Rattle.pieces.specs.Places.{response_at}
use Rattle.step_definition.specs.Ids.{remove}
use Rattle.step_definition.specs.Coordinator as C
use Rattle.step_definition.specs.Effects.{freeing}
use Rattle.state.specs.declared.fields.ResponseSlot.{ResponseSlot}
use Rattle.state.specs.declared.fields.SignRoundInfo.{SignRoundInfo}
use Rattle.state.specs.declared.fields.SignerSlot.{SignerSlot}
use Rattle.state.specs.declared.fields.Coordinator.{Coordinator}
use Rattle.state.specs.Slots.{signer_slot, slots_from, slot_from, collect, when}
use Rattle.state.specs.Setters.{set_slot}
use Rattle.state.specs.Counts.{slot_within, row_within_limits, records_within, is_within_limits}
use Rattle.state.specs.View.{message_at, keys_at, nonces_at, ids_of, slots_of, no_row, no_slot, place_of, held_in, arrival_in, waits_in, row_of}
use Rattle.state.specs.View.{records_of, coordinator_of, round_of, standing_of}
use Rattle.state.proofs.Arrays.{every_set}
use Rattle.state.proofs.SignerSlots.{slots_rise, slots_one, slot_in}
use Rattle.state.proofs.Collect.{when_some, collect_same}
use Rattle.state.proofs.Within.{Good, within, is_within, config_few, records_few, rows_within, row-slot}
use Rattle.state.proofs.Arrays.{all_set}
use Rattle.state.proofs.Shape.{Shaped}
use Rattle.records.specs.Records.{record_place}
use Rattle.records.proofs.Asking.{slot_low}
use Rattle.records.proofs.AddRows.{index, place_index}
use Rattle.timeouts.specs.NonceTimeout.{current_place}
use Rattle.share_verdicts.specs.Verdicts.{slot_at}
use Rattle.share_verdicts.proofs.Deciding.{Waiter}
use Rattle.share_taking.proofs.Refines.{row-good}
use Rattle.share_gather.specs.ShareGather.{freed_slot, freed_records, freed}
use Rattle.share_gather.proofs.Removed.{collect-remove, rows-less, place_same}

abbrev Ten : SignRoundInfo → Type 0
Ten row = length row.slots ≡ signer_limit

and_false : (b : Bool) → b && false ≡ false
and_false true = refl
and_false false = refl

-- one record with a waiter freed
module _ (store : List ℕ) (r i : ℕ) (row : SignRoundInfo) (low : i < length row.slots) where
  abbrev x : ResponseSlot
  x = freed_slot (get_or row.slots i no_slot)

  -- what doesn't look at who waits is as it was: each response, and when it came
  unseen : {A : Type 0} (f : ResponseSlot → A) → ((y : ResponseSlot) → f (freed_slot y) ≡ f y) → (j : ℕ)
      → f (get_or (set row.slots i x) j no_slot) ≡ f (get_or row.slots j no_slot)
  unseen f same j = by (eqb j i) refl
    where
      by : (b : Bool) → eqb j i ≡ b → f (get_or (set row.slots i x) j no_slot) ≡ f (get_or row.slots j no_slot)
      by true q = rw (eqb-true j i q, get_or-set_same row.slots i x no_slot low) (same (get_or row.slots i no_slot))
      by false q = rw (get_or-set_other row.slots i j x no_slot (eqb-false j i q))

  held_same : (e : SignerSlot) → held_in r row.message store (set row.slots i x) e ≡ held_in r row.message store row.slots e
  unfolding place_of
  held_same e =
      unseen
      (λ (y : ResponseSlot). when y.held (response_at store (record {
        ids = y.ids;
        signer_id = record { 0 = e.id };
        message = record { at = message_at r; count = row.message };
        key_ids = record { at = keys_at r e.slot; count = y.key_ids };
        nonces = record { at = nonces_at r e.slot; count = y.nonces };
      })))
      (λ y. refl) e.slot

  came_same : (e : SignerSlot) → arrival_in (set row.slots i x) e ≡ arrival_in row.slots e
  came_same e = unseen (λ (y : ResponseSlot). when y.held (record { signer_id = e.id; clock = y.clock })) (λ y. refl) e.slot

  waits_other : (id : ℕ) (e : SignerSlot) → (e.slot ≡ i → e.id ≡ id) → (e.id ≡ id → ⊥) → waits_in (set row.slots i x) e ≡ waits_in row.slots e
  waits_other id e same ne = rw (get_or-set_other row.slots i e.slot x no_slot (λ p. ne (same p)))

  waits_own : (e : SignerSlot) (y : ℕ) → waits_in row.slots e ≡ Some y → y ≡ e.id
  waits_own e y h = sym (when_some ((get_or row.slots e.slot no_slot).held && (get_or row.slots e.slot no_slot).waits) e.id y h)

  waits_no_more : (id : ℕ) → waits_in (set row.slots i x) (signer_slot id i) ≡ None
  waits_no_more id = rw (get_or-set_same row.slots i x no_slot low, and_false (get_or row.slots i no_slot).held)

  pub row_less : (ids : List ℕ) (id : ℕ) → slot_from id 0 ids ≡ Some i → row_of (slots_from 0 ids) store r (set_slot i x row) ≡ C.without_waiter id (row_of (slots_from 0 ids) store r row)
  unfolding row_of
  row_less ids id found =
      let es = slots_from 0 ids in
      let a : collect (held_in r row.message store (set row.slots i x)) es ≡ collect (held_in r row.message store row.slots) es =
      collect_same (held_in r row.message store (set row.slots i x)) (held_in r row.message store row.slots) es (all_imp es (λ (e : SignerSlot) (o : e.slot ≡ i → e.id ≡ id). held_same e) (slots_one id ids i found)) in
      let t : collect (arrival_in (set row.slots i x)) es ≡ collect (arrival_in row.slots) es =
      collect_same (arrival_in (set row.slots i x)) (arrival_in row.slots) es (all_imp es (λ (e : SignerSlot) (o : e.slot ≡ i → e.id ≡ id). came_same e) (slots_one id ids i found)) in
      let b : collect (waits_in (set row.slots i x)) es ≡ remove id (collect (waits_in row.slots) es) =
      collect-remove (waits_in row.slots) waits_own (waits_in (set row.slots i x)) (signer_slot id i) es (waits_no_more id) (slots_rise 0 ids) (slot_in id 0 ids i found)
      (all_imp es (λ (e : SignerSlot) (o : e.slot ≡ i → e.id ≡ id). waits_other id e o) (slots_one id ids i found)) in
      rw (a, t, b)

row_within : (n i : ℕ) (row : SignRoundInfo) → i < n → row_within_limits n row ≡ true → row_within_limits n (set_slot i (freed_slot (get_or row.slots i no_slot)) row) ≡ true
unfolding row_within_limits slot_within
row_within n i row l w =
    let x = freed_slot (get_or row.slots i no_slot) in
    let few : every slot_within (take n row.slots) ≡ true = and_right (leb row.message message_limit) (every slot_within (take n row.slots)) w in
    and_both (leb row.message message_limit) (every slot_within (take n (set row.slots i x))) (and_left (leb row.message message_limit) (every slot_within (take n row.slots)) w)
    (every_set slot_within n row.slots i x (row-slot n i row w l) few)

module _ (s : Coordinator) (store : List ℕ) (id r i : ℕ) (w : is_within_limits s ≡ true) (waiter : Waiter s store id r i) where
  pub row_low : r < record_limit
  row_low = omega (arith, waiter.known, records_few s (within s w))

  pub slot-few : i < signer_limit
  slot-few = omega (arith, slot_low s.config id i waiter.found, config_few s (within s w))

  module _ (shaped : Shaped s) where
    abbrev rs : List SignRoundInfo
    rs = s.records.rows

    abbrev n : ℕ
    n = s.config.count

    abbrev row : SignRoundInfo
    row = get_or rs r no_row

    abbrev new : SignRoundInfo
    new = set_slot i (freed_slot (slot_at s.records r i)) row

    good : Good n row
    good = row-good s r shaped w waiter.known

    pub freed_within : is_within_limits (freed r i s) ≡ true
    unfolding records_within
    freed_within =
        let t = within s w in
        let few = records_few s t in
        is_within (freed r i s)
        (record {
          config = t.config;
          message = t.message;
          records = and_both (leb s.records.count record_limit) _ (le-leb s.records.count record_limit few)
              (every_set (row_within_limits n) s.records.count rs r new (row_within n i row (slot_low s.config id i waiter.found) good.within) (rows_within s t));
          shares = t.shares;
        })

    pub freed_shaped : Shaped (freed r i s)
    freed_shaped =
        record {
          signers = shaped.signers;
          rows = length-set rs r new ∙ shaped.rows;
          slots = all_set Ten rs r new (length-set row.slots i (freed_slot (slot_at s.records r i)) ∙ good.ten) shaped.slots;
          shares = shaped.shares;
        }

    -- the current message's record stays where it was
    pub freed_place : r ≡ record_place (take s.message.len s.message.bytes) (freed_records r i s.records) store
    unfolding current_place record_place
    freed_place = waiter.at ∙ sym (place_same (take s.message.len s.message.bytes) store new 0 rs s.records.count r refl)

    records_less : records_of (slots_of s.config) store (freed_records r i s.records) ≡ C.remove_waiter (take s.message.len s.message.bytes) id (records_of (slots_of s.config) store s.records)
    unfolding current_place record_place
    records_less =
        let m = take s.message.len s.message.bytes in
        let at : r ≡ index m store 0 (take s.records.count rs) = waiter.at ∙ place_index m store 0 (take s.records.count rs) ∙ zero-add _ in
        let less : row_of (slots_of s.config) store r new ≡ C.without_waiter id (row_of (slots_of s.config) store r row) =
        row_less store r i row (omega (arith, good.ten, slot-few)) (ids_of s.config) id waiter.found in
        rw (← at) at (rows-less (slots_of s.config) m store id new 0 rs s.records.count (omega (arith, waiter.known)) (rw (← at, zero-add r) less))

    pub freed_seen : coordinator_of (freed r i s) store ≡ freeing id (coordinator_of s store)
    unfolding coordinator_of round_of standing_of
    freed_seen = rw records_less
