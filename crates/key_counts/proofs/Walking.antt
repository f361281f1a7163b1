-- The signers in order: their sets are the definition's, and the walk from the last on adds one at a time.
-- Assumes nothing.
use Prim.Native.Nat.{ℕ, zero, suc, ◌+◌, ◌<◌, ◌≤◌}
use mathlib.Core.Path.{◌≡◌, refl, sym, ap}
use mathlib.Core.Bool.{Bool, true, false, cond}
use mathlib.Core.List.{List, [], ◌∷◌}
use Rattle.std.specs.Prelude.{Option, Some}
use native.Mathlib.Omega.{arith}
use lib.Seq.{get_or-take}
use lib.ListN.{length, get_or, take, drop, length-take, length-map, drop_of_length-le}
use Rattle.wire.specs.Bytes.{every, All}
use Rattle.pieces.proofs.Given.{drop-live, live_at}
use Rattle.step_definition.specs.Ids.{insert_all}
use Rattle.step_definition.specs.Configuration.{SignerConfig, config_signer_id, signer_of, key_set_of, keys_in, num_key_ids}
use Rattle.step_definition.specs.Effects.{recv_key_ids}
use Rattle.pieces.specs.Places.{response_at}
use Rattle.validity.specs.Keys.{listed}
use Rattle.state.specs.declared.fields.SignerEntry.{SignerEntry}
use Rattle.state.specs.declared.fields.ResponseSlot.{ResponseSlot}
use Rattle.state.specs.declared.fields.SignerSlot.{SignerSlot}
use Rattle.state.specs.declared.fields.Config.{Config}
use Rattle.state.specs.Slots.{collect, with_some, when}
use Rattle.state.specs.Counts.{entries, entry_within}
use Rattle.state.specs.View.{ids_of, slots_of, no_entry, no_slot, signer_in, config_of, place_of, held_in, flagged_in}
use Rattle.state.proofs.SignerSlots.{In, here, later, slots_rise, slots_low}
use Rattle.state.proofs.Collect.{find_in}
use Rattle.key_counts.specs.Sets.{set_of, held_keys, flagged_sizes}

-- what holds of each that is in a list holds of all
in_each : (P : SignerSlot → Type 0) (es : List SignerSlot) → ((e : SignerSlot) → In e es → P e) → All P es
in_each P [] h = tt
in_each P (e ∷ es) h = (h e here, in_each P es (λ t i. h t (later i)))

abbrev listing : Config → SignerSlot → Option SignerConfig
listing g e = Some (signer_in g.signers e)

listing_id : (g : Config) (e : SignerSlot) (y : SignerConfig) → listing g e ≡ Some y → config_signer_id y ≡ e.id
unfolding signer_in
listing_id g e y h = let q : signer_in g.signers e ≡ y = cc in sym (ap config_signer_id q)

-- a slot's set is the set of its signer in the definition
abbrev Agrees : Config → SignerSlot → Type 0
Agrees g e = keys_in (key_set_of (config_of g) e.id) ≡ set_of (get_or g.signers e.slot no_entry)

agrees : (g : Config) → All (Agrees g) (slots_of g)
unfolding config_of signer_in set_of
agrees g = in_each (Agrees g) (slots_of g) each
  where
    by : (b : Bool) (ks : List ℕ) → keys_in (when b ks) ≡ cond b ks []
    by true ks = refl
    by false ks = refl

    each : (e : SignerSlot) → In e (slots_of g) → Agrees g e
    each e i =
        let f : signer_of (config_of g) e.id ≡ Some (signer_in g.signers e) = find_in config_signer_id (listing g) (listing_id g) e (slots_of g) (slots_rise 0 (ids_of g)) i in
        rw f (by (get_or g.signers e.slot no_entry).has_keys (listed (get_or g.signers e.slot no_entry).keys))

-- the view's responders have these keys, at any store
module _ (g : Config) (slots : List ResponseSlot) (r n : ℕ) (store : List ℕ) where
  received_in : (es : List SignerSlot) → All (Agrees g) es → recv_key_ids (config_of g) (collect (held_in r n store slots) es) ≡ held_keys g.signers slots es
  unfolding collect recv_key_ids held_keys with_some response_at place_of
  received_in [] a = refl
  received_in (e ∷ es) a = by (get_or slots e.slot no_slot).held (received_in es a.1)
    where
      by : (b : Bool) → recv_key_ids (config_of g) (collect (held_in r n store slots) es) ≡ held_keys g.signers slots es
          → recv_key_ids (config_of g) (with_some (when b (response_at store (place_of r n slots e))) (collect (held_in r n store slots) es))
          ≡ cond b (insert_all (set_of (get_or g.signers e.slot no_entry)) (held_keys g.signers slots es)) (held_keys g.signers slots es)
      by true h = rw (a.0, h)
      by false h = h

  pub received : recv_key_ids (config_of g) (collect (held_in r n store slots) (slots_of g)) ≡ held_keys g.signers slots (slots_of g)
  received = received_in (slots_of g) (agrees g)

module _ (g : Config) (flags : List Bool) where
  sizes_in : (es : List SignerSlot) → All (Agrees g) es → num_key_ids (config_of g) (collect (flagged_in flags) es) ≡ flagged_sizes g.signers flags es
  unfolding collect num_key_ids flagged_sizes with_some
  sizes_in [] a = refl
  sizes_in (e ∷ es) a = by (get_or flags e.slot false) (sizes_in es a.1)
    where
      by : (b : Bool) → num_key_ids (config_of g) (collect (flagged_in flags) es) ≡ flagged_sizes g.signers flags es
          → num_key_ids (config_of g) (with_some (when b e.id) (collect (flagged_in flags) es))
          ≡ cond b (length (set_of (get_or g.signers e.slot no_entry)) + flagged_sizes g.signers flags es) (flagged_sizes g.signers flags es)
      by true h = rw (a.0, h)
      by false h = h

  pub sizes : num_key_ids (config_of g) (collect (flagged_in flags) (slots_of g)) ≡ flagged_sizes g.signers flags (slots_of g)
  sizes = sizes_in (slots_of g) (agrees g)

-- the walk begins past the last
pub none_left : (places : List SignerSlot) (n : ℕ) → drop n (take n places) ≡ []
none_left places n = drop_of_length-le (take n places) {i = n} (rw length-take (omega arith))

-- the walk, one signer further to the front
module _ (ss : List SignerEntry) (places : List SignerSlot) (n k : ℕ) (d : SignerSlot) (low : k < n) (l : n ≤ length places) where
  abbrev left : ℕ → List SignerSlot
  left j = drop j (take n places)

  abbrev e : SignerSlot
  e = get_or places k d

  pub held_next : (slots : List ResponseSlot) → (get_or slots e.slot no_slot).held ≡ true
      → held_keys ss slots (left k) ≡ insert_all (set_of (get_or ss e.slot no_entry)) (held_keys ss slots (left (k + 1)))
  unfolding held_keys
  held_next slots h = rw (drop-live places n k d low l, h)

  pub held_over : (slots : List ResponseSlot) → (get_or slots e.slot no_slot).held ≡ false → held_keys ss slots (left k) ≡ held_keys ss slots (left (k + 1))
  unfolding held_keys
  held_over slots h = rw (drop-live places n k d low l, h)

  pub flagged_next : (flags : List Bool) → get_or flags e.slot false ≡ true
      → flagged_sizes ss flags (left k) ≡ length (set_of (get_or ss e.slot no_entry)) + flagged_sizes ss flags (left (k + 1))
  unfolding flagged_sizes
  flagged_next flags h = rw (drop-live places n k d low l, h)

  pub flagged_over : (flags : List Bool) → get_or flags e.slot false ≡ false → flagged_sizes ss flags (left k) ≡ flagged_sizes ss flags (left (k + 1))
  unfolding flagged_sizes
  flagged_over flags h = rw (drop-live places n k d low l, h)

-- the slots of the signers in order are live ones, within the limits
all_at : {A : Type 0} (P : A → Type 0) (xs : List A) (i : ℕ) (d : A) → All P xs → i < length xs → P (get_or xs i d)
all_at P [] i d a h = let z : ⊥ = omega arith in absurd z
all_at P (x ∷ xs) zero d a h = a.0
all_at P (x ∷ xs) (suc i) d a h = all_at P xs i d a.1 (omega arith)

module _ (g : Config) (places : List SignerSlot) (n k : ℕ) (d : SignerSlot) (same : take n places ≡ slots_of g) (low : k < n) (l : n ≤ length places) where
  pub live_slot : (get_or places k d).slot < g.count
  unfolding entries
  live_slot =
      let a : All (λ (e : SignerSlot). e.slot < length (ids_of g)) (take n places) = rw same (slots_low (ids_of g)) in
      let b : (get_or (take n places) k d).slot < length (ids_of g) = all_at (λ (e : SignerSlot). e.slot < length (ids_of g)) (take n places) k d a (rw length-take (omega arith)) in
      let c : (get_or places k d).slot < length (ids_of g) = rw (get_or-take n places k d low) at b in
      let m : length (ids_of g) ≤ g.count = rw (length-map, length-take) (omega arith) in
      omega arith

  pub live_entry : g.count ≤ length g.signers → every entry_within (entries g) ≡ true → (x : SignerEntry) → entry_within (get_or g.signers (get_or places k d).slot x) ≡ true
  unfolding entries
  live_entry few w x = live_at entry_within g.signers g.count (get_or places k d).slot x live_slot few w
