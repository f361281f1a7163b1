-- Where the verdict is to record a response, what recording it asks holds.
-- Assumes nothing.
use Prim.Native.Nat.{ℕ, ◌<◌}
use mathlib.Core.Path.{◌≡◌, refl, sym, ap, ◌∙◌}
use mathlib.Core.Bool.{Bool, true, false, cond}
use mathlib.Core.List.{List}
use Rattle.std.specs.Prelude.{Option, Some, None}
use native.Mathlib.Omega.{arith}
use borrow.Author.Tests.{ltb-true, lt-ltb}
use lib.Dec.{eqb, ltb}
use lib.ListN.{get_or}
use Rattle.layout.specs.Limits.{record_limit}
use Rattle.layout.specs.declared.Ids.{Ids}
use Rattle.layout.specs.Decode.{ids_in, nonces_in}
use Rattle.step_definition.specs.Lists.{given}
use Rattle.state.specs.declared.fields.Coordinator.{Coordinator}
use Rattle.state.specs.View.{no_row, no_slot}
use Rattle.records.specs.declared.verdicts.Verdict.{Verdict}
use Rattle.records.specs.declared.verdicts.Verdict.TheVariants.{Wrong, Full, Nothing, Record}
use Rattle.records.specs.Records.{record_place}
use Rattle.records.specs.Admits.{slot_of, admitted_at}
use Rattle.records.specs.Verdicts.{held_at, verdict_on, verdict_at, verdict_of}

-- the signer's slot, room for its message, no response there
pub record Recordable (s : Coordinator) (store m : List ℕ) (id i : ℕ) : Type 0 where
  pub found : slot_of id s.config ≡ Some i
  pub room : record_place m s.records store < record_limit
  pub free :
      record_place m s.records store < s.records.count
      → (get_or (get_or s.records.rows (record_place m s.records store) no_row).slots i no_slot).held ≡ false

-- the outcome that differs from the other was taken by its test
took : {A : Type 0} (t : Bool) {a b z : A} → (b ≡ z → ⊥) → cond t a b ≡ z → (t ≡ true) × (a ≡ z)
took true n e = (refl, e)
took false n e = absurd (n e)

left : {A : Type 0} (t : Bool) {a b z : A} → (a ≡ z → ⊥) → cond t a b ≡ z → (t ≡ false) × (b ≡ z)
left true n e = absurd (n e)
left false n e = (refl, e)

not_wrong : {n a b r i : ℕ} → Wrong n a b ≡ Record r i → ⊥
not_wrong e = let z : ◌≡◌ {A = ℕ} 0 1 = cc in omega arith

not_nothing : {r i : ℕ} → Nothing ≡ Record r i → ⊥
not_nothing e = let z : ◌≡◌ {A = ℕ} 0 1 = cc in omega arith

not_full : {r i : ℕ} → Full ≡ Record r i → ⊥
not_full e = let z : ◌≡◌ {A = ℕ} 0 1 = cc in omega arith

module _ (s : Coordinator) (got : Ids) (id : ℕ) (store m keys nonces : List ℕ) (r i : ℕ) where
  abbrev p : ℕ
  p = record_place m s.records store

  at_slot : (o : Option ℕ) → slot_of id s.config ≡ o → given o (verdict_at s store m keys nonces) Nothing ≡ Record r i → (r ≡ p) × Recordable s store m id i
  unfolding verdict_at verdict_on held_at
  at_slot None f e = absurd (not_nothing e)
  at_slot (Some j) f e =
      let admits = took (admitted_at s j (ids_in keys) (nonces_in nonces)) not_nothing e in
      let fits = took (ltb p record_limit) not_full admits.1 in
      let held = left (held_at s.records p j) not_nothing fits.1 in
      let same : ◌≡◌ {A = Verdict} (Record p j) (Record r i) = held.1 in
      let q : p ≡ r = cc in
      let k : j ≡ i = cc in (
        sym q,
        record {
          found = f ∙ ap Some k;
          room = ltb-true p record_limit fits.0;
          free = λ l. rw k at (rw (lt-ltb p s.records.count l) at held.0);
        },
      )

  pub recordable : verdict_of s got id store m keys nonces ≡ Record r i → (r ≡ p) × Recordable s store m id i
  unfolding verdict_of
  recordable e =
      let a = took (eqb got.dkg_id s.ids.dkg_id) not_wrong e in
      let b = took (eqb got.sign_id s.ids.sign_id) not_wrong a.1 in
      let d = took (eqb got.sign_iter_id s.ids.sign_iter_id) not_wrong b.1 in
      at_slot (slot_of id s.config) refl d.1
