-- Question 4 passes exactly where what is live is within the limits.
-- Assumes nothing.
use Prim.Native.Nat.{ℕ, zero, suc, ◌+◌, ◌≤◌, ◌<◌}
use mathlib.Core.Path.{◌≡◌, refl, sym, ap, ◌∙◌}
use mathlib.Core.Bool.{Bool, true, false, cond, ◌&&◌, false≢true}
use mathlib.Core.List.{List, [], ◌∷◌, map}
use native.Mathlib.Omega.{arith}
use borrow.Author.Tests.{leb-true, le-leb}
use lib.Dec.{leb}
use lib.ListN.{get_or, take}
use Rattle.wire.specs.Bytes.{every}
use Rattle.wire.proofs.Lists.{and_left, and_right, and_both}
use Rattle.layout.specs.Limits.{list_limit, signer_limit}
use Rattle.state.specs.declared.fields.ShareSlot.{ShareSlot}
use Rattle.state.specs.declared.fields.Coordinator.{Coordinator}
use Rattle.state.specs.Counts.{sum, entries, entry_within, key_count, config_within, slot_within, row_within_limits, records_within, shares_within, is_within_limits}
use Rattle.state.specs.View.{no_entry, no_row, no_slot, no_shares}
use Rattle.state.specs.LiveCounts.{total, signer_at, response_slot, share_slot_of, LiveCounts}
use Rattle.state.proofs.Arrays.{every_get}
use Rattle.state.proofs.Within.{within, is_within, config_few, entries_within, keys_few, records_few, rows_within, slot-few, row-slot, row-message}

-- each of the first n passes
get_every :
    {A : Type 0} (f : A → Bool) (n : ℕ) (xs : List A) (d : A) → ((i : ℕ) → i < n → f (get_or xs i d) ≡ true) → every f (take n xs) ≡ true
get_every f zero xs d h = refl
get_every f (suc n) [] d h = refl
get_every f (suc n) (x ∷ xs) d h =
    and_both (f x) (every f (take n xs)) (h 0 (omega arith)) (get_every f n xs d (λ i l. h (suc i) (omega arith)))

-- a list's sum is the sum by places
total_front : (n : ℕ) (f : ℕ → ℕ) → total (suc n) f ≡ f 0 + total n (λ i. f (suc i))
unfolding total
total_front zero f = omega arith
total_front (suc n) f = omega (arith, total_front n f)

total_none : (n : ℕ) (f : ℕ → ℕ) → ((i : ℕ) → f i ≡ 0) → total n f ≡ 0
unfolding total
total_none zero f h = refl
total_none (suc n) f h = omega (arith, total_none n f h, h n)

sum-total : {A : Type 0} (g : A → ℕ) (n : ℕ) (xs : List A) (d : A) → g d ≡ 0 → sum (map g (take n xs)) ≡ total n (λ i. g (get_or xs i d))
unfolding sum total
sum-total g zero xs d z = refl
sum-total g (suc n) [] d z = sym (total_none (suc n) (λ i. g d) (λ i. z))
sum-total g (suc n) (x ∷ xs) d z =
    ap (λ (m : ℕ). g x + m) (sum-total g n xs d z) ∙ sym (total_front n (λ i. g (get_or (x ∷ xs) i d)))

map_same : (xs : List ℕ) → map (λ (x : ℕ). x) xs ≡ xs
map_same [] = refl
map_same (x ∷ xs) = ap (λ (l : List ℕ). x ∷ l) (map_same xs)

sum_places : (n : ℕ) (xs : List ℕ) → sum (take n xs) ≡ total n (λ i. get_or xs i 0)
sum_places n xs = sym (ap sum (map_same (take n xs))) ∙ sum-total (λ (x : ℕ). x) n xs 0 refl

-- where something is held, its counts pass; where nothing is held, everything passes
when_held : (b t : Bool) → (b ≡ true → t ≡ true) → cond b t true ≡ true
when_held true t h = h refl
when_held false t h = refl

held_passes : (b t : Bool) → cond b t true ≡ true → b ≡ true → t ≡ true
held_passes true t w e = w
held_passes false t w e = absurd (false≢true e)

share-few :
    (x : ShareSlot) → shares_within x ≡ true → x.held ≡ true
    → (x.count ≤ list_limit) × (sum (take x.count x.key_counts) ≤ list_limit)
unfolding shares_within
share-few x w h =
    let c = leb x.count list_limit in
    let k = leb (sum (take x.count x.key_counts)) list_limit in
    let both : c && k ≡ true = held_passes x.held (c && k) w h in
    (leb-true _ _ (and_left c k both), leb-true _ _ (and_right c k both))

-- a row past the array's end
no_row_law : (n : ℕ) → row_within_limits n no_row ≡ true
unfolding row_within_limits
no_row_law zero = refl
no_row_law (suc n) = refl

module _ (s : Coordinator) where
  abbrev size_at : ℕ → ℕ
  size_at i = cond (signer_at s i).has_keys (signer_at s i).keys.count 0

  size_places : sum (map key_count (entries s.config)) ≡ total s.config.count size_at
  unfolding key_count entries
  size_places = sum-total key_count s.config.count s.config.signers no_entry refl

  pub counts_hold : is_within_limits s ≡ true → LiveCounts s
  unfolding entries entry_within shares_within row_within_limits
  counts_hold e =
      let n = s.config.count in
      let w = within s e in
      let row : (r : ℕ) → r < s.records.count → row_within_limits n (get_or s.records.rows r no_row) ≡ true =
      λ r l. every_get (row_within_limits n) s.records.count s.records.rows r no_row l (no_row_law n) (rows_within s w) in
      record {
        signers = config_few s w;
        key_sets = λ i l h. leb-true _ _
            (held_passes _ _ (every_get entry_within n s.config.signers i no_entry l refl (entries_within s w)) h);
        sizes = rw (← size_places) (keys_few s w);
        message = leb-true _ _ w.message;
        records = records_few s w;
        messages = λ r l. row-message n (get_or s.records.rows r no_row) (row r l);
        responses = λ r i l m h. slot-few (response_slot s r i) (row-slot n i (get_or s.records.rows r no_row) (row r l) m) h;
        shares = λ i l h.
            let few = share-few (share_slot_of s i) (every_get shares_within n s.shares.slots i no_shares l refl w.shares) h in
            (few.0, rw (← sum_places (share_slot_of s i).count (share_slot_of s i).key_counts) few.1);
      }

  pub counts_pass : LiveCounts s → is_within_limits s ≡ true
  unfolding entries entry_within config_within slot_within row_within_limits records_within shares_within
  counts_pass c =
      let n = s.config.count in
      let entry : (i : ℕ) → i < n → entry_within (signer_at s i) ≡ true =
      λ i l. when_held (signer_at s i).has_keys _ (λ h. le-leb _ _ (c.key_sets i l h)) in
      let slot : (r i : ℕ) → r < s.records.count → i < n → slot_within (response_slot s r i) ≡ true =
      λ r i l m. when_held (response_slot s r i).held _
      (λ h. and_both _ _ (le-leb _ _ (c.responses r i l m h).0) (le-leb _ _ (c.responses r i l m h).1)) in
      let row : (r : ℕ) → r < s.records.count → row_within_limits n (get_or s.records.rows r no_row) ≡ true =
      λ r l. and_both _ _ (le-leb _ _ (c.messages r l)) (get_every slot_within n _ no_slot (λ i m. slot r i l m)) in
      let keys :
      (i : ℕ) → i < n → (share_slot_of s i).held ≡ true → sum (take (share_slot_of s i).count (share_slot_of s i).key_counts) ≤ list_limit =
      λ i l h. rw (sum_places (share_slot_of s i).count (share_slot_of s i).key_counts) (c.shares i l h).1 in
      let held : (i : ℕ) → i < n → shares_within (share_slot_of s i) ≡ true =
      λ i l. when_held (share_slot_of s i).held _ (λ h. and_both _ _ (le-leb _ _ (c.shares i l h).0) (le-leb _ _ (keys i l h))) in
      let sets : every entry_within (entries s.config) ≡ true = get_every entry_within n s.config.signers no_entry entry in
      let sizes : sum (map key_count (entries s.config)) ≤ s.config.num_keys = rw size_places c.sizes in
      is_within s
      (record {
        config = and_both _ _ (and_both _ _ (le-leb n signer_limit c.signers) sets) (le-leb _ _ sizes);
        message = le-leb _ _ c.message;
        records = and_both _ _ (le-leb _ _ c.records) (get_every (row_within_limits n) s.records.count s.records.rows no_row row);
        shares = get_every shares_within n s.shares.slots no_shares held;
      })
