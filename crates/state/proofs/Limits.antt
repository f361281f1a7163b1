-- A struct whose counts pass question 4 stands for a coordinator within the limits, at any store.
-- Assumes nothing.
use Prim.Native.Nat.{ℕ, suc, min, ◌+◌, ◌*◌, ◌<◌, ◌≤◌}
use mathlib.Core.Path.{◌≡◌, refl, sym, ap}
use mathlib.Core.Bool.{Bool, true, false, cond, ◌&&◌}
use mathlib.Core.List.{List, [], ◌∷◌, map}
use Rattle.std.specs.Prelude.{Option, Some}
use native.Mathlib.Nat.{add-zero, zero-add}
use native.Mathlib.Omega.{arith}
use borrow.Author.Tests.{leb-true, le-leb}
use lib.Dec.{eqb, ltb, leb}
use lib.ListN.{length, get_or, take, drop, length-take, length-map}
use lib.Seq.{get_or-take}
use Rattle.wire.specs.Bytes.{every}
use Rattle.wire.proofs.Lists.{and_left, and_right, and_both, all_imp}
use Rattle.layout.specs.Limits.{message_limit, list_limit, signer_limit, record_limit}
use Rattle.layout.specs.Messages.{NonceResponse}
use Rattle.layout.specs.Decode as L
use Rattle.layout.proofs.Entries.{length-entries}
use Rattle.pieces.specs.Places.{bytes_at, response_at}
use Rattle.job.specs.Job.{shares_from}
use Rattle.validity.specs.Keys.{listed}
use Rattle.step_definition.specs.Configuration as D
use Rattle.step_definition.specs.Coordinator as C
use Rattle.step_definition.specs.Counts as W
use Rattle.step_definition.proofs.Cases.{cond_both}
use Rattle.state.specs.declared.fields.SignerEntry.{SignerEntry}
use Rattle.state.specs.declared.fields.SignerSlot.{SignerSlot}
use Rattle.state.specs.declared.fields.SignRoundInfo.{SignRoundInfo}
use Rattle.state.specs.declared.fields.Coordinator.{Coordinator}
use Rattle.state.specs.Slots.{signer_slot, place_slot, slots_from, collect, with_some, when}
use Rattle.state.specs.Counts.{sum, entries, entry_within, key_count, row_within_limits, shares_within, is_within_limits}
use Rattle.state.specs.View.{message_at, keys_at, nonces_at, shares_at_place, share_keys_at, ids_of, slots_of, no_entry, no_slot, no_shares, signer_in}
use Rattle.state.specs.View.{config_of, place_of, held_in, arrival_in, waits_in, flagged_in, shares_in, row_of, rows_from, standing_of, round_of}
use Rattle.state.specs.View.{coordinator_of, entry_id, held_if, view}
use Rattle.state.proofs.Arrays.{every_get}
use Rattle.state.proofs.SignerSlots.{ids_short, slots-live}
use Rattle.state.proofs.Collect.{collect_length, collect_every}
use Rattle.state.proofs.Within.{Within, within, config_few, entries_within, keys_few, records_few, rows_within, slot-few, row-slot, row-message}

pub rows-length : (es : List SignerSlot) (store : List ℕ) (k : ℕ) (rows : List SignRoundInfo) → length (rows_from es store k rows) ≡ length rows
unfolding rows_from
rows-length es store k [] = refl
rows-length es store k (row ∷ rows) = ap suc (rows-length es store (k + 1) rows)

-- a number for each slot, summed
unfoldable over : (SignerSlot → ℕ) → List SignerSlot → ℕ
over f [] = 0
over f (e ∷ es) = f e + over f es

over-place : (f : SignerSlot → ℕ) (e : SignerSlot) (es : List SignerSlot) → over f (place_slot e es) ≤ f e + over f es
unfolding over place_slot
over-place f e [] = omega arith
over-place f e (x ∷ xs) =
    let P : List SignerSlot → Type 0 = λ l. over f l ≤ f e + (f x + over f xs) in
    let first : P (e ∷ (x ∷ xs)) = omega arith in
    let instead : P (e ∷ xs) = omega arith in
    let later : P (x ∷ place_slot e xs) = omega (arith, over-place f e xs) in
    cond_both P (ltb e.id x.id) first (cond_both P (eqb e.id x.id) instead later)

abbrev one : SignerSlot → ℕ
one e = 1

over_one : (es : List SignerSlot) → over one es ≡ length es
unfolding over
over_one [] = refl
over_one (e ∷ es) = omega (arith, over_one es)

-- at most as many slots as ids
slots_length : (k : ℕ) (ids : List ℕ) → length (slots_from k ids) ≤ length ids
unfolding slots_from
slots_length k [] = omega arith
slots_length k (x ∷ xs) =
    omega (arith, over-place one (signer_slot x k) (slots_from (k + 1) xs), over_one (place_slot (signer_slot x k) (slots_from (k + 1) xs)), over_one (slots_from (k + 1) xs), slots_length (k + 1) xs)

-- the slots' numbers, where each entry has that of its slot
slots-sum : (g : SignerEntry → ℕ) (f : SignerSlot → ℕ) (k : ℕ) (es : List SignerEntry)
    → ((j id : ℕ) → j < length es → f (signer_slot id (k + j)) ≡ g (get_or es j no_entry)) → over f (slots_from k (map entry_id es)) ≤ sum (map g es)
unfolding over slots_from sum
slots-sum g f k [] h = omega arith
slots-sum g f k (e ∷ es) h =
    let rest = slots-sum g f (k + 1) es (λ j id l. let n : k + suc j ≡ k + 1 + j = omega arith in rw n at (h (suc j) id (omega arith))) in
    let first : f (signer_slot (entry_id e) k) ≡ g e = rw (add-zero k) at (h 0 (entry_id e) (omega arith)) in
    omega (arith, over-place f (signer_slot (entry_id e) k) (slots_from (k + 1) (map entry_id es)))

sum-le : (f g : SignerEntry → ℕ) (es : List SignerEntry) → ((e : SignerEntry) → f e ≤ g e) → sum (map f es) ≤ sum (map g es)
unfolding sum
sum-le f g [] h = omega arith
sum-le f g (e ∷ es) h = omega (arith, h e, sum-le f g es h)

-- a key set: as many keys as it counts at most
abbrev set_of : SignerEntry → List ℕ
set_of e = D.keys_in (when e.has_keys (listed e.keys))

set-size : (e : SignerEntry) → length (set_of e) ≤ key_count e
unfolding key_count listed
set-size e = by e.has_keys
  where
    by : (b : Bool) → length (D.keys_in (when b (listed e.keys))) ≤ cond b e.keys.count 0
    by true = rw length-take (omega arith)
    by false = omega arith

entry-few : (e : SignerEntry) → entry_within e ≡ true → key_count e ≤ list_limit
unfolding entry_within key_count
entry-few e w = by e.has_keys w
  where
    by : (b : Bool) → cond b (leb e.keys.count list_limit) true ≡ true → cond b e.keys.count 0 ≤ list_limit
    by true h = leb-true _ _ h
    by false h = omega arith

when-both : {A : Type 0} (b : Bool) (x y : A) → when b x ≡ Some y → (b ≡ true) × (x ≡ y)
when-both true x y e = (refl, cc)
when-both false x y e = let z : ◌≡◌ {A = ℕ} 0 1 = cc in let f : ⊥ = omega arith in absurd f

-- bytes of so many entries give at most so many
bytes-few : (w at n : ℕ) (store : List ℕ) → length (bytes_at w (record { at = at; count = n }) store) ≤ n * w
unfolding bytes_at
bytes-few w at n store = rw length-take (omega arith)

ids-few : (s : List ℕ) (n : ℕ) → length s ≤ n * 4 → length (L.ids_in s) ≤ n
unfolding L.ids_in
ids-few s n h = rw (length-map, length-entries) (omega arith)

nonces_few : (s : List ℕ) (n : ℕ) → length s ≤ n * 66 → length (L.nonces_in s) ≤ n
unfolding L.nonces_in
nonces_few s n h = rw (length-map, length-entries) (omega arith)

shares-length : (store : List ℕ) (at keys : ℕ) (ns : List ℕ) → length (shares_from store at keys ns) ≡ length ns
unfolding shares_from
shares-length store at keys [] = refl
shares-length store at keys (n ∷ ns) = ap suc (shares-length store (at + 36) (keys + n * 4) ns)

shares-keys : (store : List ℕ) (at keys : ℕ) (ns : List ℕ) → L.key_count (shares_from store at keys ns) ≤ sum ns
unfolding shares_from L.key_count sum
shares-keys store at keys [] = omega arith
shares-keys store at keys (n ∷ ns) =
    let few : length (L.ids_in (take (n * 4) (drop keys store))) ≤ n = ids-few (take (n * 4) (drop keys store)) n (rw length-take (omega arith)) in
    omega (arith, shares-keys store (at + 36) (keys + n * 4) ns)

module _ (s : Coordinator) (store : List ℕ) (w : Within s) where
  abbrev n : ℕ
  n = s.config.count

  abbrev es : List SignerSlot
  es = slots_of s.config

  ten : {A : Type 0} (f : SignerSlot → Option A) → length (collect f es) ≤ signer_limit
  ten f = omega (arith, collect_length f es, slots_length 0 (ids_of s.config), ids_short s.config, config_few s w)

  abbrev size : SignerSlot → ℕ
  size e = length (D.keys_in (signer_in s.config.signers e).key_ids)

  sizes : (ds : List SignerSlot) → D.set_sizes (collect (λ (e : SignerSlot). Some (signer_in s.config.signers e)) ds) ≡ over size ds
  unfolding D.set_sizes collect with_some over
  sizes [] = refl
  sizes (d ∷ ds) = ap (λ (m : ℕ). size d + m) (sizes ds)

  config_limits : W.config_within (config_of s.config) ≡ true
  unfolding W.config_within config_of D.question3 signer_in entries entry_within
  config_limits =
      let f : SignerSlot → Option D.SignerConfig = λ (e : SignerSlot). Some (signer_in s.config.signers e) in
      let ss = s.config.signers in
      and_both _ _
      (and_both _ _ (le-leb (length (collect f es)) signer_limit (ten f))
      (collect_every (λ (x : D.SignerConfig). leb (length (D.keys_in x.key_ids)) list_limit) f es
      (all_imp es (λ (e : SignerSlot) (l : e.slot < n) (x : D.SignerConfig) (q : f e ≡ Some x).
      let same : signer_in ss e ≡ x = cc in
      let entry = get_or ss e.slot no_entry in
      rw (← same) (le-leb (length (set_of entry)) list_limit (omega (arith, set-size entry, entry-few entry (every_get entry_within n ss e.slot no_entry l refl (entries_within s w)))))) (slots-live s.config))))
      (le-leb (D.set_sizes (collect f es)) s.config.num_keys
      (rw (sizes es) (omega (
        arith,
        slots-sum (λ (e : SignerEntry). length (set_of e)) size 0 (take n ss) (λ j id l. ap (λ (e : SignerEntry). length (set_of e)) (at j (rw length-take at l))),
        sum-le (λ (e : SignerEntry). length (set_of e)) key_count (take n ss) set-size,
        keys_few s w,
      ))))
    where
      at : (j : ℕ) → j < min n (length s.config.signers) → get_or s.config.signers (0 + j) no_entry ≡ get_or (take n s.config.signers) j no_entry
      at j l = rw (zero-add j) (sym (get_or-take n s.config.signers j no_entry (omega arith)))

  row_limits : (r : ℕ) (row : SignRoundInfo) → row_within_limits n row ≡ true → W.record_within (row_of es store r row) ≡ true
  unfolding W.record_within row_of L.response_within response_at place_of
  row_limits r row g =
      let m = row-message n row g in
      and_both _ _ (and_both _ _ (and_both _ _ (and_both _ _
      (le-leb (length (bytes_at 1 (record { at = message_at r; count = row.message }) store)) message_limit (omega (arith, bytes-few 1 (message_at r) row.message store)))
      (le-leb _ signer_limit (ten (held_in r row.message store row.slots))))
      (collect_every L.response_within (held_in r row.message store row.slots) es
      (all_imp es (λ (e : SignerSlot) (l : e.slot < n) (x : NonceResponse) (q : held_in r row.message store row.slots e ≡ Some x). response e l x q) (slots-live s.config))))
      (le-leb _ signer_limit (ten (arrival_in row.slots))))
      (le-leb _ signer_limit (ten (waits_in row.slots)))
    where
      response : (e : SignerSlot) → e.slot < n → (x : NonceResponse) → held_in r row.message store row.slots e ≡ Some x → L.response_within x ≡ true
      response e l x q =
          let slot = get_or row.slots e.slot no_slot in
          let b = when-both slot.held (response_at store (place_of r row.message row.slots e)) x q in
          let few = slot-few slot (row-slot n e.slot row g l) b.0 in
          let m = row-message n row g in
          let bytes = bytes_at 1 (record { at = message_at r; count = row.message }) store in
          let keys = bytes_at 4 (record { at = keys_at r e.slot; count = slot.key_ids }) store in
          let nonces = bytes_at 66 (record { at = nonces_at r e.slot; count = slot.nonces }) store in
          rw (← b.1)
          (and_both _ _ (and_both _ _
          (le-leb (length bytes) message_limit (omega (arith, bytes-few 1 (message_at r) row.message store)))
          (le-leb (length (L.ids_in keys)) list_limit (omega (arith, few.0, ids-few keys slot.key_ids (bytes-few 4 (keys_at r e.slot) slot.key_ids store)))))
          (le-leb (length (L.nonces_in nonces)) list_limit (omega (arith, few.1, nonces_few nonces slot.nonces (bytes-few 66 (nonces_at r e.slot) slot.nonces store)))))

  rows_limits : (k : ℕ) (rows : List SignRoundInfo) → every (row_within_limits n) rows ≡ true → every W.record_within (rows_from es store k rows) ≡ true
  unfolding rows_from
  rows_limits k [] h = refl
  rows_limits k (row ∷ rows) h =
      and_both _ _ (row_limits k row (and_left (row_within_limits n row) (every (row_within_limits n) rows) h))
      (rows_limits (k + 1) rows (and_right (row_within_limits n row) (every (row_within_limits n) rows) h))

  shares_limits : every W.shares_within (collect (shares_in store s.shares.slots) es) ≡ true
  unfolding W.shares_within shares_within
  shares_limits =
      collect_every W.shares_within (shares_in store s.shares.slots) es
      (all_imp es (λ (e : SignerSlot) (l : e.slot < n) (x : C.SignerShares) (q : shares_in store s.shares.slots e ≡ Some x). shares e l x q) (slots-live s.config))
    where
      shares : (e : SignerSlot) → e.slot < n → (x : C.SignerShares) → shares_in store s.shares.slots e ≡ Some x → W.shares_within x ≡ true
      shares e l x q =
          let slot = get_or s.shares.slots e.slot no_shares in
          let counts = take slot.count slot.key_counts in
          let b = when-both slot.held _ x q in
          let ok : shares_within slot ≡ true = every_get shares_within n s.shares.slots e.slot no_shares l refl w.shares in
          let both : leb slot.count list_limit && leb (sum counts) list_limit ≡ true = rw b.0 at ok in
          let c : slot.count ≤ list_limit = leb-true _ _ (and_left (leb slot.count list_limit) (leb (sum counts) list_limit) both) in
          let k : sum counts ≤ list_limit = leb-true _ _ (and_right (leb slot.count list_limit) (leb (sum counts) list_limit) both) in
          let held = shares_from store (shares_at_place e.slot) (share_keys_at e.slot) counts in
          rw (← b.1)
          (and_both _ _
          (le-leb (length held) list_limit (rw (shares-length store (shares_at_place e.slot) (share_keys_at e.slot) counts, length-take) (omega arith)))
          (le-leb (L.key_count held) list_limit (omega (arith, shares-keys store (shares_at_place e.slot) (share_keys_at e.slot) counts))))

  limits : W.within_limits (coordinator_of s store) ≡ true
  unfolding W.within_limits coordinator_of standing_of round_of
  limits =
      let live = take s.records.count s.records.rows in
      and_both _ _ (and_both _ _ (and_both _ _ (and_both _ _ (and_both _ _ (and_both _ _ (and_both _ _
      config_limits
      (le-leb _ signer_limit (ten (flagged_in s.marks.ended))))
      (le-leb _ signer_limit (ten (flagged_in s.marks.malicious))))
      (le-leb (length (take s.message.len s.message.bytes)) message_limit (rw length-take (omega (arith, leb-true s.message.len message_limit w.message)))))
      (le-leb (length (rows_from es store 0 live)) record_limit (rw (rows-length es store 0 live, length-take) (omega (arith, records_few s w)))))
      (rows_limits 0 live (rows_within s w)))
      (le-leb _ signer_limit (ten (shares_in store s.shares.slots))))
      shares_limits

pub within_limits_law : (s : Coordinator) (store : List ℕ) → is_within_limits s ≡ true → W.within_limits (coordinator_of s store) ≡ true
within_limits_law s store w = limits s store (within s w)

-- so is every coordinator that a struct and a store stand for
pub view_limits : (s : Coordinator) (store : List ℕ) (c : C.Coordinator) → view s store ≡ C.commissioned c → W.within_limits c ≡ true
unfolding view held_if
view_limits s store c e = by s.commissioned (is_within_limits s) refl e
  where
    by : (b w : Bool) → is_within_limits s ≡ w → held_if b w (coordinator_of s store) ≡ C.commissioned c → W.within_limits c ≡ true
    by false w q e = let z : ◌≡◌ {A = ℕ} 0 1 = cc in let f : ⊥ = omega arith in absurd f
    by true false q e = let z : ◌≡◌ {A = ℕ} 0 1 = cc in let f : ⊥ = omega arith in absurd f
    by true true q e = let same : coordinator_of s store ≡ c = cc in rw (← same) (within_limits_law s store q)
