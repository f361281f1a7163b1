-- Records and store after a response was recorded stand for `add_response` of what they stood for.
-- Assumes nothing.
use Prim.Native.Nat.{ℕ, zero, suc, ◌+◌, ◌*◌, ◌<◌, ◌≤◌}
use mathlib.Core.Path.{◌≡◌, refl, sym, ap, ◌∙◌}
use mathlib.Core.Bool.{Bool, true, false, cond}
use mathlib.Core.List.{List, [], ◌∷◌}
use native.Mathlib.Nat.{zero-add, mul-one}
use native.Mathlib.Numerals.{add-one}
use native.Mathlib.Omega.{arith}
use borrow.Author.Tests.{ltb-true, ltb-false, le-leb}
use lib.Dec.{ltb, leb}
use lib.ListN.{length, get_or, set, take, replicate, length-replicate}
use lib.Seq.{set-set, get_or-set_same, get_or-take, length-take-le}
use Rattle.wire.specs.Bytes.{put, every, All}
use Rattle.wire.proofs.Buffer.{length-put}
use Rattle.wire.proofs.Lists.{and_both}
use Rattle.layout.specs.Limits.{message_limit, signer_limit, record_limit, store_length}
use Rattle.layout.specs.declared.Ids.{Ids}
use Rattle.layout.specs.Messages.{NonceResponse}
use Rattle.pieces.specs.Places.{bytes_at}
use Rattle.step_definition.specs.Lists.{insert_by}
use Rattle.step_definition.specs.Coordinator as C
use Rattle.state.specs.declared.fields.ResponseSlot.{ResponseSlot}
use Rattle.state.specs.declared.fields.SignRoundInfo.{SignRoundInfo}
use Rattle.state.specs.declared.fields.Records.{Records}
use Rattle.state.specs.declared.fields.SignerSlot.{SignerSlot}
use Rattle.state.specs.Slots.{Rising, signer_slot, collect}
use Rattle.state.specs.Setters.{set_slot, set_row}
use Rattle.state.specs.Counts.{slot_within, row_within_limits}
use Rattle.state.specs.View.{record_bytes, message_at, keys_at, nonces_at, no_slot, no_row, held_in, arrival_in, waits_in, row_of, rows_from}
use Rattle.state.specs.View.{records_of}
use Rattle.state.proofs.Arrays.{get_d_same, every_same}
use Rattle.state.proofs.SignerSlots.{In}
use Rattle.state.proofs.Collect.{collect_none}
use Rattle.state.proofs.Within.{Good}
use Rattle.state.proofs.Store.{Same, same_then, put-after, put-before, put_read}
use Rattle.records.specs.Records.{response_for, row_message, record_place, empty_row, opened, opened_store, held_slot, added_records, added_store}
use Rattle.records.proofs.AddResponse.{Sent, row-added}
use Rattle.records.proofs.AddRows.{index, place_index, index_le, added_rows, set_known, set_new, rows-added}

-- a record without responses
pub empty-good : (n k : ℕ) → k ≤ message_limit → Good n (empty_row k)
unfolding row_within_limits slot_within
empty-good n k h = record { ten = length-replicate signer_limit no_slot; within = and_both (leb k message_limit) (every slot_within (take n (replicate signer_limit no_slot))) (le-leb k message_limit h) (every_same slot_within n signer_limit no_slot refl) }

-- what lies in other records, beside bytes written in one
elsewhere : (store bs : List ℕ) (r j at : ℕ) → message_at r ≤ at → at + length bs ≤ message_at r + record_bytes → (j ≡ r → ⊥) → Same (message_at j) record_bytes store (put store at bs)
elsewhere store bs r j at from to ne = by (ltb j r) refl
  where
    by : (b : Bool) → ltb j r ≡ b → Same (message_at j) record_bytes store (put store at bs)
    by true l = let h = ltb-true j r l in put-after store at bs (message_at j) record_bytes (omega arith)
    by false l = let h = ltb-false j r l in let k : r < j = omega arith in put-before store at bs (message_at j) record_bytes (omega arith)

module _ (es : List SignerSlot) (n : ℕ) (n≤10 : n ≤ signer_limit) (low : All (λ (e : SignerSlot). e.slot < n) es) (rising : Rising es)
    (id i : ℕ) (among : In (signer_slot id i) es) (one : All (λ (e : SignerSlot). e.slot ≡ i → e.id ≡ id) es)
    (clock : ℕ) (ids : Ids) (m keys nonces : List ℕ) (sent : Sent m keys nonces) (i<n : i < n)
    (rs : Records) (store : List ℕ) (few : rs.count ≤ record_limit) (four : length rs.rows ≡ record_limit) (good : All (Good n) (take rs.count rs.rows))
    (room : record_place m rs store < record_limit) (big : store_length ≤ length store)
    (free : record_place m rs store < rs.count → (get_or (get_or rs.rows (record_place m rs store) no_row).slots i no_slot).held ≡ false) where
  abbrev r : ℕ
  r = record_place m rs store

  abbrev x : ResponseSlot
  x = held_slot clock ids keys nonces

  abbrev q : NonceResponse
  q = response_for ids id m keys nonces

  abbrev live : List SignRoundInfo
  live = take rs.count rs.rows

  at_index : r ≡ index m store 0 live
  unfolding record_place
  at_index = place_index m store 0 live ∙ zero-add _

  live_length : length live ≡ rs.count
  live_length = length-take-le rs.count rs.rows (omega arith)

  live_at : (j : ℕ) → j < rs.count → get_or live j no_row ≡ get_or rs.rows j no_row
  live_at j h = get_or-take rs.count rs.rows j no_row h

  slot_10 : i < signer_limit
  slot_10 = omega arith

  good_at : (rows : List SignRoundInfo) (j : ℕ) → j < length rows → All (Good n) rows → Good n (get_or rows j no_row)
  good_at [] j l g = let z : ⊥ = omega arith in absurd z
  good_at (row ∷ rows) zero l g = g.0
  good_at (row ∷ rows) (suc j) l g = good_at rows j (omega arith) g.1

  -- the record is known
  known : r < rs.count
      → rows_from es (put (put store (keys_at r i) keys) (nonces_at r i) nonces) 0 (take rs.count (set rs.rows r (set_slot i x (get_or rs.rows r no_row))))
      ≡ C.add_response clock q (rows_from es store 0 live)
  known h =
      let s = sent in
      let i10 = slot_10 in
      let e = at_index in
      let ll = live_length in
      let after : take rs.count (set rs.rows r (set_slot i x (get_or rs.rows r no_row))) ≡ added_rows m store i x 0 live =
      rw e (set_known m store i x 0 rs.rows rs.count (omega arith) (omega arith)) in
      rw after
      (rows-added es n n≤10 low m keys nonces store (put (put store (keys_at r i) keys) (nonces_at r i) nonces) clock ids id i r x
      (λ j ne l. same_then (elsewhere store keys r j (keys_at r i) (omega arith) (omega arith) ne) (elsewhere (put store (keys_at r i) keys) nonces r j (nonces_at r i) (omega arith) (omega arith) ne))
      0 live (e ∙ sym (zero-add _)) (omega arith) good
      (λ l msg. let g : Good n (get_or live (index m store 0 live) no_row) = good_at live (index m store 0 live) l good in
      let f : (get_or (get_or live (index m store 0 live) no_row).slots i no_slot).held ≡ false = rw (← e, live_at r h) (free h) in
      row-added es n n≤10 low rising id i among one clock ids m keys nonces sent i<n r room store (get_or live (index m store 0 live) no_row) big g msg f)
      (λ z. let y : ⊥ = omega arith in absurd y))

  -- the record that is opened has the message and no response
  opens : row_message r (empty_row (length m)) (put store (message_at r) m) ≡ m
  unfolding row_message bytes_at
  opens = let s = sent in put_read store (message_at r) m (length m * 1) (mul-one (length m)) (omega arith)

  nobody : (store : List ℕ) (k : ℕ) → collect (held_in r k store (replicate signer_limit no_slot)) es ≡ []
  nobody store k = collect_none (held_in r k store (replicate signer_limit no_slot)) es (λ e. rw (get_d_same signer_limit e.slot no_slot))

  the_nobody_waits : collect (waits_in (replicate signer_limit no_slot)) es ≡ []
  the_nobody_waits = collect_none (waits_in (replicate signer_limit no_slot)) es (λ e. rw (get_d_same signer_limit e.slot no_slot))

  nobody_came : collect (arrival_in (replicate signer_limit no_slot)) es ≡ []
  nobody_came = collect_none (arrival_in (replicate signer_limit no_slot)) es (λ e. rw (get_d_same signer_limit e.slot no_slot))

  first : (store : List ℕ) (k : ℕ) → row_message r (empty_row k) store ≡ m → C.with_response clock q (row_of es store r (empty_row k)) ≡ C.opened clock q
  unfolding row_of insert_by row_message
  first store k e = rw (e, nobody store k, nobody_came, the_nobody_waits)

  -- it is opened
  new : rs.count ≤ r
      → rows_from es (put (put (put store (message_at r) m) (keys_at r i) keys) (nonces_at r i) nonces) 0 (take (rs.count + 1) (set rs.rows r (set_slot i x (empty_row (length m)))))
      ≡ C.add_response clock q (rows_from es store 0 live)
  new h =
      let s = sent in
      let i10 = slot_10 in
      let e = at_index in
      let ll = live_length in
      let all : index m store 0 live ≤ length live = index_le m store 0 live in
      let last : r ≡ rs.count = omega arith in
      let store₁ = put store (message_at r) m in
      let store₂ = put store₁ (keys_at r i) keys in
      let after : take (rs.count + 1) (set rs.rows r (set_slot i x (empty_row (length m)))) ≡ added_rows m store i x 0 live =
      rw (add-one rs.count, last) (set_new m store i x 0 rs.rows rs.count (omega arith) (omega arith)) in
      rw after
      (rows-added es n n≤10 low m keys nonces store (put store₂ (nonces_at r i) nonces) clock ids id i r x
      (λ j ne l. same_then (same_then (elsewhere store m r j (message_at r) (omega arith) (omega arith) ne) (elsewhere store₁ keys r j (keys_at r i) (omega arith) (omega arith) ne)) (elsewhere store₂ nonces r j (nonces_at r i) (omega arith) (omega arith) ne))
      0 live (e ∙ sym (zero-add _)) (omega arith) good
      (λ l msg. let y : ⊥ = omega arith in absurd y)
      (λ z. let added = row-added es n n≤10 low rising id i among one clock ids m keys nonces sent i<n r room store₁ (empty_row (length m)) (omega (arith, length-put store (message_at r) m)) (empty-good n (length m) s.short) opens (ap (λ (t : ResponseSlot). t.held) (get_d_same signer_limit i no_slot)) in
      added ∙ first store₁ (length m) opens))

  pub records_added : records_of es (added_store r i m keys nonces rs store) (added_records clock r i ids m keys nonces rs) ≡ C.add_response clock q (records_of es store rs)
  unfolding added_store added_records opened opened_store
  records_added = by (ltb r rs.count) refl
    where
      by : (b : Bool) → ltb r rs.count ≡ b
          → records_of es (put (put (cond b store (put store (message_at r) m)) (keys_at r i) keys) (nonces_at r i) nonces)
          (set_row r (set_slot i x (get_or (cond b rs (record { rows = set rs.rows r (empty_row (length m)); count = rs.count + 1 })).rows r no_row)) (cond b rs (record { rows = set rs.rows r (empty_row (length m)); count = rs.count + 1 })))
          ≡ C.add_response clock q (records_of es store rs)
      by true l = known (ltb-true r rs.count l)
      by false l =
          rw (get_or-set_same rs.rows r (empty_row (length m)) no_row (omega arith), set-set rs.rows r (empty_row (length m)) (set_slot i x (empty_row (length m)))) (new (ltb-false r rs.count l))
