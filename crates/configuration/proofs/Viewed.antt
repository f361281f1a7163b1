-- A configuration as it is kept stands for the one that was given, ascending; its counts are within the limits.
-- Assumes nothing.
use Prim.Native.Nat.{ℕ, suc, ◌+◌, ◌-◌, ◌<◌, ◌≤◌}
use mathlib.Core.Path.{◌≡◌, refl, sym, ap, ◌∙◌}
use mathlib.Core.Bool.{Bool, true, false, cond, not}
use mathlib.Core.List.{List, [], ◌∷◌, map, map-append}
use Rattle.std.specs.Prelude.{Option, Some}
use native.Mathlib.Nat.{zero-add}
use native.Mathlib.Omega.{arith}
use borrow.Author.Tests.{eqb-true, le-leb, leb-true}
use lib.Dec.{eqb, ltb, leb}
use lib.ListN.{length, get_or, replicate, length-map, get_or-append}
use lib.Seq.{take_at, length-take-le}
use Rattle.wire.specs.Bytes.{every, All}
use Rattle.wire.proofs.Lists.{and_left, and_right, and_both}
use Rattle.layout.specs.Limits.{list_limit, signer_limit}
use Rattle.validity.specs.Keys.{key_number, key_of, key_places, listed, member}
use Rattle.step_definition.specs.Lists.{insert_by}
use Rattle.step_definition.specs.Ids.{insert_all, distinct}
use Rattle.step_definition.proofs.Distinct.{member_at, not_both}
use Rattle.step_definition.specs.Configuration as D
use Rattle.step_definition.proofs.Limited.{length-insert_all}
use Rattle.state.specs.declared.fields.SignerEntry.{SignerEntry}
use Rattle.state.specs.declared.fields.SignerSlot.{SignerSlot}
use Rattle.state.specs.Slots.{signer_slot, place_slot, slots_from, collect, with_some, when}
use Rattle.state.specs.Counts.{sum, entries, entry_within, key_count, config_within}
use Rattle.state.specs.View.{entry_id, no_entry, signer_in, config_of}
use Rattle.state.proofs.SignerSlots.{slots_all}
use Rattle.configuration.specs.declared.new_config.NewSigner.{NewSigner}
use Rattle.configuration.specs.declared.new_config.NewConfig.{NewConfig}
use Rattle.configuration.specs.NewConfig.{numbers_in, timeouts_given, signer_given, signers_given, new_config_of, signer_number, keys_given, set_size, is_set_within, Accepted}
use Rattle.configuration.specs.Made.{placed, entry_of, config_from}
use Rattle.configuration.proofs.Sets.{keys_few}
use Rattle.configuration.proofs.Asked.{signers_asked, total_given}

-- a signer with an id that no slot has: it is inserted in its place
module _ (ss : List SignerEntry) where
  abbrev listing : SignerSlot → Option D.SignerConfig
  listing e = Some (signer_in ss e)

  place-inserts :
      (e : SignerSlot) (es : List SignerSlot) → All (λ (x : SignerSlot). x.id ≡ e.id → ⊥) es
      → collect listing (place_slot e es) ≡ insert_by D.config_signer_id (signer_in ss e) (collect listing es)
  unfolding collect with_some place_slot insert_by signer_in
  place-inserts e [] a = refl
  place-inserts e (x ∷ xs) a = by (ltb e.id x.id) (eqb e.id x.id) refl (place-inserts e xs a.1)
    where
      by : (l q : Bool) → eqb e.id x.id ≡ q
          → collect listing (place_slot e xs) ≡ insert_by D.config_signer_id (signer_in ss e) (collect listing xs)
          → collect listing (cond l (e ∷ (x ∷ xs)) (cond q (e ∷ xs) (x ∷ place_slot e xs)))
          ≡ cond l (signer_in ss e ∷ (signer_in ss x ∷ collect listing xs))
          (cond q (signer_in ss x ∷ collect listing xs) (signer_in ss x ∷ insert_by D.config_signer_id (signer_in ss e) (collect listing xs)))
      by true q h r = refl
      by false true h r = absurd (a.0 (sym (eqb-true e.id x.id h)))
      by false false h r = ap (λ (ys : List D.SignerConfig). signer_in ss x ∷ ys) r

-- the signer that an entry stands for
abbrev signer_for : SignerEntry → D.SignerConfig
signer_for e = record { id = entry_id e; key_ids = when e.has_keys (listed e.keys) }

unfoldable inserted_in_order : List SignerEntry → List D.SignerConfig
inserted_in_order [] = []
inserted_in_order (e ∷ es) = insert_by D.config_signer_id (signer_for e) (inserted_in_order es)

-- entries with distinct ids, which begin at the slot k of ss
collect-slots :
    (ss : List SignerEntry) (k : ℕ) (es : List SignerEntry) → ((j : ℕ) → j < length es → get_or ss (k + j) no_entry ≡ get_or es j no_entry)
    → distinct (map entry_id es) ≡ true → collect (listing ss) (slots_from k (map entry_id es)) ≡ inserted_in_order es
unfolding collect slots_from inserted_in_order distinct signer_in
collect-slots ss k [] h d = refl
collect-slots ss k (e ∷ es) h d =
    let id = entry_id e in
    let ids = map entry_id es in
    let out : not (member id ids) ≡ true = and_left _ (distinct ids) d in
    let apart : All (λ (x : SignerSlot). x.id ≡ id → ⊥) (slots_from (k + 1) ids) =
    slots_all (λ (x : SignerSlot). x.id ≡ id → ⊥) (k + 1) ids (λ j l p. not_both (member id ids) out (member_at id ids j l (sym p))) in
    let rest = collect-slots ss (k + 1) es (λ j l. let n : k + suc j ≡ k + 1 + j = omega arith in rw n at (h (suc j) (omega arith))) (and_right (not (member id ids)) (distinct ids) d) in
    let first : get_or ss k no_entry ≡ e = let n : k + 0 ≡ k = omega arith in rw n at (h 0 (omega arith)) in
    place-inserts ss (signer_slot id k) (slots_from (k + 1) ids) apart ∙ rw (rest, first)

-- the keys in their places are the keys
numbers_back : (ks : List ℕ) → map key_number (map key_of ks) ≡ ks
numbers_back [] = refl
numbers_back (k ∷ ks) = ap (λ (t : List ℕ). k ∷ t) (numbers_back ks)

pub listed-placed : (ks : List ℕ) → listed (placed ks) ≡ ks
unfolding listed key_places
listed-placed ks =
    rw (map-append, numbers_back ks) (take_at ks (map key_number (replicate (list_limit - length ks) (key_of 0))) (length ks) refl)

-- each entry stands for the signer that was given, its set ascending
entry-signer : (s : NewSigner) → signer_for (entry_of s) ≡ D.ascending_set (signer_given s)
unfolding entry_of keys_given
entry-signer s = by s.has_keys
  where
    by : (b : Bool)
        → record { id = s.id.0; key_ids = when b (listed (placed (insert_all (D.keys_in (when b (numbers_in s.keys))) []))) }
        ≡ D.ascending_set (record { id = s.id.0; key_ids = when b (numbers_in s.keys) })
    by true = rw (listed-placed (insert_all (numbers_in s.keys) []))
    by false = refl

in_order : (ss : List NewSigner) → inserted_in_order (map entry_of ss) ≡ D.ascending_signers (map signer_given ss)
unfolding inserted_in_order D.ascending_signers
in_order [] = refl
in_order (s ∷ ss) = rw (entry-signer s, in_order ss)

ids_kept : (ss : List NewSigner) → map entry_id (map entry_of ss) ≡ map signer_number ss
unfolding entry_of
ids_kept [] = refl
ids_kept (s ∷ ss) = ap (λ (ids : List ℕ). s.id.0 ∷ ids) (ids_kept ss)

-- a set that ascends has at most the keys that were given
size_kept : (s : NewSigner) → key_count (entry_of s) ≤ set_size s
unfolding key_count entry_of
size_kept s = by s.has_keys
  where
    by : (b : Bool) → cond b (length (insert_all (keys_given s) [])) 0 ≤ set_size s
    by true = omega (arith, length-insert_all (keys_given s) [])
    by false = omega arith

set_kept : (s : NewSigner) → is_set_within s ≡ true → entry_within (entry_of s) ≡ true
unfolding entry_within entry_of
set_kept s w = by s.has_keys
  where
    by : (b : Bool) → cond b (leb (length (insert_all (keys_given s) [])) list_limit) true ≡ true
    by true = le-leb (length (insert_all (keys_given s) [])) list_limit (omega (arith, length-insert_all (keys_given s) [], keys_few s w))
    by false = refl

sizes_kept : (ss : List NewSigner) → sum (map key_count (map entry_of ss)) ≤ sum (map set_size ss)
unfolding sum
sizes_kept [] = omega arith
sizes_kept (s ∷ ss) = omega (arith, size_kept s, sizes_kept ss)

sets_kept : (ss : List NewSigner) → every is_set_within ss ≡ true → every entry_within (map entry_of ss) ≡ true
sets_kept [] h = refl
sets_kept (s ∷ ss) h =
    and_both (entry_within (entry_of s)) (every entry_within (map entry_of ss)) (set_kept s (and_left (is_set_within s) (every is_set_within ss) h))
    (sets_kept ss (and_right (is_set_within s) (every is_set_within ss) h))

module _ (g : NewConfig) (long : length g.signers ≡ 11) (ok : Accepted g) where
  pub entries_kept : entries (config_from g) ≡ map entry_of (signers_given g)
  unfolding entries config_from
  entries_kept = let few = ok.few in take_at (map entry_of (signers_given g)) _ g.count (rw length-map (length-take-le g.count g.signers (omega arith)))

  slot : (j : ℕ) → j < length (map entry_of (signers_given g)) → get_or (config_from g).signers (0 + j) no_entry ≡ get_or (map entry_of (signers_given g)) j no_entry
  unfolding config_from
  slot j l = rw (zero-add j) (get_or-append (map entry_of (signers_given g)) _ no_entry j l)

  pub kept_within : D.question3 (new_config_of g) ≡ true → config_within (config_from g) ≡ true
  unfolding config_within config_from
  kept_within q =
      let n = g.num_keys in
      let all = leb-true (sum (map set_size (signers_given g))) n (sym (total_given g) ∙ q) in
      rw entries_kept
      (and_both _ _ (and_both _ _ (le-leb g.count signer_limit ok.few) (sets_kept (signers_given g) ok.sets))
      (le-leb (sum (map key_count (map entry_of (signers_given g)))) n (omega (arith, sizes_kept (signers_given g)))))

  kept_signers : D.question1 (new_config_of g) ≡ true
      → collect (listing (config_from g).signers) (slots_from 0 (map entry_id (entries (config_from g)))) ≡ D.ascending_signers (map signer_given (signers_given g))
  kept_signers q =
      let es = map entry_of (signers_given g) in
      let apart : distinct (map entry_id es) ≡ true = rw (ids_kept (signers_given g)) (and_right _ _ (sym (signers_asked g) ∙ q)) in
      rw entries_kept (collect-slots (config_from g).signers 0 es slot apart ∙ in_order (signers_given g))

  pub kept_viewed : D.question1 (new_config_of g) ≡ true → config_of (config_from g) ≡ D.ascending (new_config_of g)
  unfolding config_of D.ascending new_config_of config_from
  kept_viewed q =
      ap (λ (ss : List D.SignerConfig).
      record {
        num_signers = g.num_signers;
        num_keys = g.num_keys;
        threshold = g.threshold;
        dkg_threshold = g.dkg_threshold;
        sign_threshold = g.sign_threshold;
        timeouts = timeouts_given g.timeouts;
        signers = ss;
        verify_packet_sigs = g.verify_packet_sigs;
      }) (kept_signers q)
