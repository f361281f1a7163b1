-- Recording a response, of the whole struct and store: what stands for them after is the step's coordinator with the response recorded.
-- Assumes nothing.
use Prim.Native.Nat.{ℕ, suc, ◌+◌, ◌*◌, ◌/◌, ◌<◌, ◌≤◌}
use mathlib.Core.Path.{◌≡◌, refl, ◌∙◌}
use mathlib.Core.Bool.{Bool, true, false, cond}
use mathlib.Core.List.{List}
use native.Mathlib.Omega.{arith}
use native.Mathlib.Numerals.{add-one}
use borrow.Author.Tests.{le-leb, ltb-true, ltb-false}
use lib.Dec.{ltb, leb}
use lib.ListN.{length, get_or, set, take}
use lib.Seq.{get_or-set_same, set-set}
use Rattle.wire.specs.Bytes.{put, every, All}
use Rattle.wire.proofs.Lists.{and_left, and_right, and_both}
use Rattle.layout.specs.Limits.{message_limit, list_limit, signer_limit, record_limit, store_length}
use Rattle.layout.specs.declared.Ids.{Ids}
use Rattle.pieces.proofs.Given.{live_at}
use Rattle.step_definition.specs.Coordinator.{commissioned}
use Rattle.step_definition.specs.Effects.{recording}
use Rattle.state.specs.declared.fields.ResponseSlot.{ResponseSlot}
use Rattle.state.specs.declared.fields.SignRoundInfo.{SignRoundInfo}
use Rattle.state.specs.declared.fields.Coordinator.{Coordinator}
use Rattle.state.specs.declared.fields.SignerSlot.{SignerSlot}
use Rattle.state.specs.Slots.{collect}
use Rattle.state.specs.Setters.{set_slot, set_row, set_records}
use Rattle.state.specs.Counts.{slot_within, row_within_limits, records_within, is_within_limits}
use Rattle.state.specs.View.{shares_start, share_bytes, view, coordinator_of, round_of, standing_of, ids_of, slots_of, message_at, keys_at, nonces_at, no_row, shares_in}
use Rattle.state.proofs.Arrays.{every_set, every_next}
use Rattle.state.proofs.SignerSlots.{slots_rise, slots-live, slots_one, slot_in}
use Rattle.state.proofs.Within.{Good, within, is_within, config_few, records_few, rows_within}
use Rattle.state.proofs.Store.{Same, same_all, same_then, put-before}
use Rattle.state.proofs.Shape.{Shaped, rows-good, shares_kept}
use Rattle.state.proofs.Refines.{view_held}
use Rattle.records.specs.Records.{response_for, record_place, empty_row, opened, opened_store, held_slot, added_records, added_store}
use Rattle.records.proofs.AddResponse.{Sent}
use Rattle.records.proofs.AddRows.{place-le}
use Rattle.records.proofs.Asking.{slot_low}
use Rattle.records.proofs.Recordable.{Recordable}
use Rattle.records.proofs.Recorded.{records_added, empty-good}

row_within : (n i : ℕ) (x : ResponseSlot) (row : SignRoundInfo) → slot_within x ≡ true → row_within_limits n row ≡ true → row_within_limits n (set_slot i x row) ≡ true
unfolding row_within_limits
row_within n i x row p w =
    let short = leb row.message message_limit in
    let few = every slot_within (take n row.slots) in
    and_both short (every slot_within (take n (set row.slots i x))) (and_left short few w) (every_set slot_within n row.slots i x p (and_right short few w))

module _ (s : Coordinator) (store : List ℕ) (shaped : Shaped s) (w : is_within_limits s ≡ true) (big : store_length ≤ length store)
    (clock : ℕ) (ids : Ids) (id i : ℕ) (m keys nonces : List ℕ) (sent : Sent m keys nonces) (ok : Recordable s store m id i) where
  abbrev r : ℕ
  r = record_place m s.records store

  abbrev x : ResponseSlot
  x = held_slot clock ids keys nonces

  abbrev store' : List ℕ
  store' = added_store r i m keys nonces s.records store

  abbrev after : Coordinator
  after = set_records (added_records clock r i ids m keys nonces s.records) s

  abbrev n : ℕ
  n = s.config.count

  n≤10 : n ≤ signer_limit
  n≤10 = config_few s (within s w)

  i<n : i < n
  i<n = slot_low s.config id i ok.found

  low : All (λ (e : SignerSlot). e.slot < n) (slots_of s.config)
  low = slots-live s.config

  room : r < record_limit
  room = ok.room

  good : All (Good n) (take s.records.count s.records.rows)
  good = rows-good s shaped w

  shares_beside : Same shares_start (signer_limit * share_bytes) store store'
  unfolding added_store opened_store
  shares_beside =
      let t = sent in
      let h = n≤10 in
      let l = i<n in
      same_then (same_then (opening (ltb r s.records.count)) (put-before _ (keys_at r i) keys shares_start (signer_limit * share_bytes) (omega arith))) (put-before _ (nonces_at r i) nonces shares_start (signer_limit * share_bytes) (omega arith))
    where
      opening : (c : Bool) → Same shares_start (signer_limit * share_bytes) store (cond c store (put store (message_at r) m))
      opening true = same_all shares_start (signer_limit * share_bytes) store
      opening false = let t = sent in put-before store (message_at r) m shares_start (signer_limit * share_bytes) (omega arith)

  slot-within : slot_within x ≡ true
  unfolding slot_within
  slot-within = let t = sent in and_both (leb (length keys / 4) list_limit) (leb (length nonces / 66) list_limit) (le-leb (length keys / 4) list_limit (omega arith)) (le-leb (length nonces / 66) list_limit (omega arith))

  the_records_within : records_within n (added_records clock r i ids m keys nonces s.records) ≡ true
  unfolding records_within added_records opened
  the_records_within = by (ltb r s.records.count) refl
    where
      by : (c : Bool) → ltb r s.records.count ≡ c
          → records_within n (set_row r (set_slot i x (get_or (cond c s.records (record { rows = set s.records.rows r (empty_row (length m)); count = s.records.count + 1 })).rows r no_row)) (cond c s.records (record { rows = set s.records.rows r (empty_row (length m)); count = s.records.count + 1 })))
          ≡ true
      by true l =
          let h : r < s.records.count = ltb-true r s.records.count l in
          let four = shaped.rows in
          let few = records_few s (within s w) in
          and_both (leb s.records.count record_limit) _ (le-leb s.records.count record_limit few)
          (every_set (row_within_limits n) s.records.count s.records.rows r (set_slot i x (get_or s.records.rows r no_row))
          (row_within n i x (get_or s.records.rows r no_row) slot-within (live_at (row_within_limits n) s.records.rows s.records.count r no_row h (omega arith) (rows_within s (within s w))))
          (rows_within s (within s w)))
      by false l =
          let h = ltb-false r s.records.count l in
          let four = shaped.rows in
          let last : r ≡ s.records.count = omega (arith, place-le m store s.records) in
          let more : every (row_within_limits n) (take (suc s.records.count) (set s.records.rows s.records.count (set_slot i x (empty_row (length m))))) ≡ true =
          every_next (row_within_limits n) s.records.count s.records.rows (set_slot i x (empty_row (length m)))
          (row_within n i x (empty_row (length m)) slot-within (empty-good n (length m) sent.short).within) (rows_within s (within s w)) in
          rw (get_or-set_same s.records.rows r (empty_row (length m)) no_row (omega arith), set-set s.records.rows r (empty_row (length m)) (set_slot i x (empty_row (length m))), add-one s.records.count)
          (and_both (leb (suc s.records.count) record_limit) _ (le-leb (suc s.records.count) record_limit (omega arith)) (rw last more))

  pub after_within : is_within_limits after ≡ true
  after_within = let t = within s w in is_within after (record { config = t.config; message = t.message; records = the_records_within; shares = t.shares })

  pub recorded_seen : coordinator_of after store' ≡ recording clock (response_for ids id m keys nonces) (coordinator_of s store)
  unfolding coordinator_of round_of standing_of
  recorded_seen =
      let es = slots_of s.config in
      let a = records_added es n n≤10 low (slots_rise 0 (ids_of s.config)) id i (slot_in id 0 (ids_of s.config) i ok.found) (slots_one id (ids_of s.config) i ok.found)
      clock ids m keys nonces sent i<n s.records store (records_few s (within s w)) shaped.rows good room big ok.free in
      let c : collect (shares_in store s.shares.slots) es ≡ collect (shares_in store' s.shares.slots) es =
      shares_kept es n store store' s.shares.slots n≤10 shaped.shares low (within s w).shares shares_beside in
      rw (a, ← c)

  pub recorded : s.commissioned ≡ true → view after store' ≡ commissioned (recording clock (response_for ids id m keys nonces) (coordinator_of s store))
  recorded b = view_held after store' b after_within ∙ rw recorded_seen
