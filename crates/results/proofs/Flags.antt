-- The signers whose flag is set, once the flags of ids are set: those ids, ascending.
-- Assumes nothing.
use Prim.Native.Nat.{ℕ, zero, suc, ◌<◌, ◌≤◌}
use mathlib.Core.Path.{◌≡◌, refl, sym, ap, ◌∙◌}
use mathlib.Core.Bool.{Bool, true, false}
use mathlib.Core.List.{List, [], ◌∷◌}
use Rattle.std.specs.Prelude.{Option, Some, None}
use native.Mathlib.Omega.{arith}
use borrow.Author.Tests.{le-ltb, eq-eqb, ne_eqb}
use lib.ListN.{length, get_or, set, replicate, length-set}
use lib.Seq.{get_or-set_same, get_or-set_other}
use Rattle.wire.specs.Bytes.{every, All}
use Rattle.wire.proofs.Lists.{and_left, and_right, all_imp}
use Rattle.layout.specs.Limits.{signer_limit}
use Rattle.step_definition.specs.Lists.{is_some, insert_by}
use Rattle.step_definition.specs.Ids.{insert, insert_all}
use Rattle.step_definition.specs.Configuration.{configured}
use Rattle.state.specs.declared.fields.Config.{Config}
use Rattle.state.specs.declared.fields.SignerSlot.{SignerSlot}
use Rattle.state.specs.Slots.{Rising, signer_slot, with_some, collect}
use Rattle.state.specs.View.{ids_of, slots_of, flagged_in, config_of}
use Rattle.state.proofs.Arrays.{get_d_same}
use Rattle.state.proofs.SignerSlots.{In, here, later, in_all, slots_rise, slot_in, slots_one}
use Rattle.state.proofs.Collect.{when_some, collect_none, collect-insert}
use Rattle.records.specs.Admits.{slot_of}
use Rattle.records.proofs.Asking.{slot_low, not_listed, listed_at}
use Rattle.results.specs.Results.{is_known, flag_at, flags_of}

-- an id is configured where it has a slot
pub known_configured : (g : Config) (id : ℕ) → is_known g id ≡ configured (config_of g) id
known_configured g id = by (slot_of id g) refl
  where
    by : (o : Option ℕ) → slot_of id g ≡ o → is_some o ≡ configured (config_of g) id
    by None e = sym (ap is_some (not_listed g id e))
    by (Some i) e = sym (ap is_some (listed_at g id i e))

pub all_configured : (g : Config) (ids : List ℕ) → every (is_known g) ids ≡ every (configured (config_of g)) ids
all_configured g [] = refl
all_configured g (id ∷ ids) = rw (known_configured g id, all_configured g ids)

-- what a slot holds already is in its place
there :
    {A : Type 0} (key : A → ℕ) (f : SignerSlot → Option A) (keyed : (e : SignerSlot) (y : A) → f e ≡ Some y → key y ≡ e.id) (x : A) (t : SignerSlot)
    (es : List SignerSlot) → f t ≡ Some x → Rising es → In t es → insert_by key x (collect f es) ≡ collect f es
unfolding collect with_some insert_by
there key f keyed x t (e ∷ es) s a here = rw (s, le-ltb (key x) (key x) (omega arith), eq-eqb (key x) (key x) refl)
there {A} key f keyed x t (e ∷ es) s a (later i) =
    by (f e) refl (in_all (λ (z : SignerSlot). e.id < z.id) i a.0) (there key f keyed x t es s a.1 i)
  where
    by : (o : Option A) → f e ≡ o → e.id < t.id → insert_by key x (collect f es) ≡ collect f es → insert_by key x (with_some o (collect f es)) ≡ with_some o (collect f es)
    by None q l r = r
    by (Some y) q l r =
        let m : key y < key x = omega (arith, keyed e y q, keyed t x s) in
        rw (le-ltb (key x) (key y) (omega arith), ne_eqb (key x) (key y) (λ p. omega arith), r)
there {A = A} key f keyed x t [] s a x4 = elim x4 [ ]

flagged-id : (flags : List Bool) (e : SignerSlot) (y : ℕ) → flagged_in flags e ≡ Some y → y ≡ e.id
flagged-id flags e y h = sym (when_some (get_or flags e.slot false) e.id y h)

-- a flag that is set already
set_again : (flags : List Bool) (i : ℕ) → get_or flags i false ≡ true → set flags i true ≡ flags
set_again [] i b = refl
set_again (x ∷ xs) zero b = ap (λ (y : Bool). y ∷ xs) (sym b)
set_again (x ∷ xs) (suc i) b = ap (λ (ys : List Bool). x ∷ ys) (set_again xs i b)

-- the flag of a signer's slot set: the signer is in its place
module _ (g : Config) (id i : ℕ) (found : slot_of id g ≡ Some i) (flags : List Bool) (low : i < length flags) where
  set_one : collect (flagged_in (set flags i true)) (slots_of g) ≡ insert id (collect (flagged_in flags) (slots_of g))
  set_one = by (get_or flags i false) refl
    where
      others : All (λ (e : SignerSlot). (e.id ≡ id → ⊥) → flagged_in (set flags i true) e ≡ flagged_in flags e) (slots_of g)
      others =
          all_imp (slots_of g) (λ (e : SignerSlot) (h : e.slot ≡ i → e.id ≡ id) (n : e.id ≡ id → ⊥). rw (get_or-set_other flags i e.slot true false (λ q. n (h q))))
          (slots_one id (ids_of g) i found)

      by : (b : Bool) → get_or flags i false ≡ b → collect (flagged_in (set flags i true)) (slots_of g) ≡ insert id (collect (flagged_in flags) (slots_of g))
      by true b =
          ap (λ (l : List Bool). collect (flagged_in l) (slots_of g)) (set_again flags i b)
          ∙ sym (there (λ (n : ℕ). n) (flagged_in flags) (flagged-id flags) id (signer_slot id i) (slots_of g) (rw b) (slots_rise 0 (ids_of g)) (slot_in id 0 (ids_of g) i found))
      by false b =
          collect-insert (λ (n : ℕ). n) (flagged_in flags) (flagged-id flags) id (flagged_in (set flags i true)) (signer_slot id i) (slots_of g) refl (rw b)
          (rw (get_or-set_same flags i true false low)) (slots_rise 0 (ids_of g)) (slot_in id 0 (ids_of g) i found) others

pub length-flags : (g : Config) (ids : List ℕ) → length (flags_of g ids) ≡ signer_limit
unfolding flags_of flag_at
length-flags g [] = refl
length-flags g (id ∷ ids) = by (slot_of id g) (length-flags g ids)
  where
    by : (o : Option ℕ) → length (flags_of g ids) ≡ signer_limit → length (flag_at o (flags_of g ids)) ≡ signer_limit
    by None h = h
    by (Some i) h = rw length-set h

pub flags-collect : (g : Config) (ids : List ℕ) → g.count ≤ signer_limit → every (is_known g) ids ≡ true → collect (flagged_in (flags_of g ids)) (slots_of g) ≡ insert_all ids []
unfolding flags_of flag_at insert_all
flags-collect g [] few k = collect_none (flagged_in (replicate signer_limit false)) (slots_of g) (λ e. rw (get_d_same signer_limit e.slot false))
flags-collect g (id ∷ ids) few k =
    by (slot_of id g) refl (and_left (is_known g id) (every (is_known g) ids) k) (flags-collect g ids few (and_right (is_known g id) (every (is_known g) ids) k))
  where
    by : (o : Option ℕ) → slot_of id g ≡ o → is_some o ≡ true → collect (flagged_in (flags_of g ids)) (slots_of g) ≡ insert_all ids []
        → collect (flagged_in (flag_at o (flags_of g ids))) (slots_of g) ≡ insert id (insert_all ids [])
    by None e n r = let z : ◌≡◌ {A = ℕ} 0 1 = cc in let f : ⊥ = omega arith in absurd f
    by (Some i) e n r =
        set_one g id i e (flags_of g ids) (omega (arith, slot_low g id i e, length-flags g ids)) ∙ ap (insert id) r
