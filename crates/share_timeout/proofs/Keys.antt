-- The key sets of the malicious signers add up to at most num_keys, by question 4.
-- Assumes nothing.
use Prim.Native.Nat.{ℕ, suc, ◌+◌, ◌<◌, ◌≤◌}
use mathlib.Core.Path.{◌≡◌, sym}
use mathlib.Core.Bool.{Bool, true, false, cond}
use mathlib.Core.List.{List, [], ◌∷◌, map}
use native.Mathlib.Nat.{zero-add, add-zero}
use native.Mathlib.Omega.{arith}
use lib.Dec.{eqb, ltb}
use lib.ListN.{length, get_or, take, length-take}
use lib.Seq.{get_or-take}
use Rattle.validity.specs.Keys.{listed, key_number}
use Rattle.step_definition.specs.Configuration.{num_key_ids}
use Rattle.step_definition.proofs.Cases.{cond_both}
use Rattle.state.specs.declared.fields.SignerEntry.{SignerEntry}
use Rattle.state.specs.declared.fields.SignerSlot.{SignerSlot}
use Rattle.state.specs.declared.fields.Coordinator.{Coordinator}
use Rattle.state.specs.Slots.{signer_slot, place_slot, slots_from, collect}
use Rattle.state.specs.Counts.{sum, entries, key_count, is_within_limits}
use Rattle.state.specs.View.{entry_id, no_entry, slots_of, config_of, flagged_in}
use Rattle.state.proofs.Within.{within, keys_few}
use Rattle.key_counts.specs.Sets.{set_of, flagged_sizes}
use Rattle.key_counts.proofs.Walking.{sizes}

-- a set is no larger than it counts
set-size : (e : SignerEntry) → length (set_of e) ≤ key_count e
unfolding set_of key_count listed
set-size e = by e.has_keys
  where
    by : (b : Bool) → length (cond b (take e.keys.count (map key_number e.keys.ids)) []) ≤ cond b e.keys.count 0
    by true = rw length-take (omega arith)
    by false = omega arith

-- the flagged sets along signers in order, where one takes its place
module _ (ss : List SignerEntry) (flags : List Bool) where
  abbrev size : SignerSlot → ℕ
  size e = length (set_of (get_or ss e.slot no_entry))

  total : List SignerSlot → ℕ
  total es = flagged_sizes ss flags es

  one_more : (e : SignerSlot) (es : List SignerSlot) → (total (e ∷ es) ≤ size e + total es) × (total es ≤ total (e ∷ es))
  unfolding flagged_sizes total
  one_more e es = by (get_or flags e.slot false)
    where
      by : (b : Bool) → (cond b (size e + flagged_sizes ss flags es) (flagged_sizes ss flags es) ≤ size e + flagged_sizes ss flags es)
          × (flagged_sizes ss flags es ≤ cond b (size e + flagged_sizes ss flags es) (flagged_sizes ss flags es))
      by true = (omega arith, omega arith)
      by false = (omega arith, omega arith)

  same_front : (x : SignerSlot) (es ds : List SignerSlot) (n : ℕ) → total es ≤ n + total ds → total (x ∷ es) ≤ n + total (x ∷ ds)
  unfolding flagged_sizes total
  same_front x es ds n h = by (get_or flags x.slot false)
    where
      by : (b : Bool) → cond b (size x + flagged_sizes ss flags es) (flagged_sizes ss flags es) ≤ n + cond b (size x + flagged_sizes ss flags ds) (flagged_sizes ss flags ds)
      by true = omega arith
      by false = h

  placed : (e : SignerSlot) (es : List SignerSlot) → total (place_slot e es) ≤ size e + total es
  unfolding place_slot
  placed e [] = (one_more e []).0
  placed e (x ∷ xs) =
      let first = (one_more e (x ∷ xs)).0 in
      let instead = (one_more e xs).0 in
      let over = (one_more x xs).1 in
      cond_both (λ (ys : List SignerSlot). total ys ≤ size e + total (x ∷ xs)) (ltb e.id x.id) first
      (cond_both (λ (ys : List SignerSlot). total ys ≤ size e + total (x ∷ xs)) (eqb e.id x.id) (omega arith)
      (same_front x (place_slot e xs) xs (size e) (placed e xs)))

  counted : (k : ℕ) (xs : List SignerEntry) → ((j : ℕ) → j < length xs → get_or ss (k + j) no_entry ≡ get_or xs j no_entry)
      → total (slots_from k (map entry_id xs)) ≤ sum (map key_count xs)
  unfolding slots_from sum flagged_sizes total
  counted k [] h = omega arith
  counted k (x ∷ xs) h =
      let rest = counted (k + 1) xs (λ j l. let e : k + suc j ≡ k + 1 + j = omega arith in rw e at (h (suc j) (omega arith))) in
      let here : get_or ss k no_entry ≡ x = rw (add-zero k) at (h 0 (omega arith)) in
      let fits : size (signer_slot (entry_id x) k) ≤ key_count x = rw here (set-size x) in
      omega (arith, placed (signer_slot (entry_id x) k) (slots_from (k + 1) (map entry_id xs)))

-- the keys of malicious signers are keys of signers
pub malicious-few :
    (s : Coordinator) (flags : List Bool) → is_within_limits s ≡ true
    → num_key_ids (config_of s.config) (collect (flagged_in flags) (slots_of s.config)) ≤ s.config.num_keys
unfolding entries total
malicious-few s flags w =
    let g = s.config in
    let few = keys_few s (within s w) in
    let all = counted g.signers flags 0 (entries g)
    (λ j l. let b : j < g.count = omega (arith, rw (length-take) at l) in
    rw (zero-add j) (sym (get_or-take g.count g.signers j no_entry b))) in
    rw (sizes g flags) (omega arith)
