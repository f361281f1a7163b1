-- One id less in a list that is collected over the signers' slots, and one record changed.
-- Assumes nothing.
use Prim.Native.Nat.{ℕ, zero, suc, ◌+◌, ◌<◌}
use mathlib.Core.Path.{◌≡◌, refl, sym, ap}
use mathlib.Core.Bool.{Bool, true, false, cond}
use mathlib.Core.List.{List, [], ◌∷◌}
use Rattle.std.specs.Prelude.{Option, Some, None}
use native.Mathlib.Nat.{add-zero}
use native.Mathlib.Omega.{arith}
use borrow.Author.Tests.{eq-eqb, ne_eqb}
use lib.ListN.{get_or, set, take}
use Rattle.wire.specs.Bytes.{are_same_bytes, All}
use Rattle.step_definition.specs.Lists.{change}
use Rattle.step_definition.specs.Ids.{remove}
use Rattle.step_definition.specs.Coordinator as C
use Rattle.state.specs.declared.fields.SignRoundInfo.{SignRoundInfo}
use Rattle.state.specs.declared.fields.SignerSlot.{SignerSlot}
use Rattle.state.specs.Slots.{Above, Rising, with_some, collect}
use Rattle.state.specs.View.{no_row, row_of, rows_from}
use Rattle.state.proofs.SignerSlots.{In, here, later, in_all}
use Rattle.state.proofs.Collect.{collect_same}
use Rattle.records.specs.Records.{row_message, record_from}
use Rattle.records.proofs.AddRows.{index}

-- each slot holds its own id, if any
module _ (f : SignerSlot → Option ℕ) (own : (e : SignerSlot) (y : ℕ) → f e ≡ Some y → y ≡ e.id) where
  remove_above : (id : ℕ) (es : List SignerSlot) → Above id es → remove id (collect f es) ≡ collect f es
  unfolding collect with_some remove
  remove_above id [] a = refl
  remove_above id (e ∷ es) a = by (f e) refl (remove_above id es a.1)
    where
      by : (o : Option ℕ) → f e ≡ o → remove id (collect f es) ≡ collect f es → remove id (with_some o (collect f es)) ≡ with_some o (collect f es)
      by None q r = r
      by (Some y) q r = rw (ne_eqb id y (λ p. omega (arith, own e y q, a.0))) (ap (λ (l : List ℕ). y ∷ l) r)

  -- one slot holds nothing any more, the others what they held
  pub collect-remove :
      (f' : SignerSlot → Option ℕ) (t : SignerSlot) (es : List SignerSlot) → f' t ≡ None → Rising es → In t es
      → All (λ (e : SignerSlot). (e.id ≡ t.id → ⊥) → f' e ≡ f e) es → collect f' es ≡ remove t.id (collect f es)
  unfolding collect with_some remove
  collect-remove f' t [] n a x4 o = elim x4 [ ]
  collect-remove f' t (e ∷ es) n a here o =
      let rest : collect f' es ≡ collect f es = collect_same f' f es (others es a.0 o.1) in
      rw (n, rest) (by (f t) refl (remove_above t.id es a.0))
    where
      others : (es : List SignerSlot) → Above t.id es → All (λ (e : SignerSlot). (e.id ≡ t.id → ⊥) → f' e ≡ f e) es → All (λ (e : SignerSlot). f' e ≡ f e) es
      others [] b o = tt
      others (d ∷ ds) b o = (o.0 (λ q. omega (arith, b.0)), others ds b.1 o.1)

      by : (o : Option ℕ) → f t ≡ o → remove t.id (collect f es) ≡ collect f es → collect f es ≡ remove t.id (with_some o (collect f es))
      by None q r = sym r
      by (Some y) q r = rw (eq-eqb t.id y (sym (own t y q))) (sym r)
  collect-remove f' t (e ∷ es) n a (later i) o =
      let below : e.id < t.id = in_all (λ (z : SignerSlot). e.id < z.id) i a.0 in
      let rest : collect f' es ≡ remove t.id (collect f es) = collect-remove f' t es n a.1 i o.1 in
      rw (o.0 (λ q. omega arith), rest) (by below (f e) refl)
    where
      by : e.id < t.id → (p : Option ℕ) → f e ≡ p → with_some p (remove t.id (collect f es)) ≡ remove t.id (with_some p (collect f es))
      by l None q = refl
      by l (Some y) q = rw (ne_eqb t.id y (λ p. omega (arith, own e y q)))

-- the record of the message, as it stands without the waiter
module _ (es : List SignerSlot) (m store : List ℕ) (id : ℕ) (new : SignRoundInfo) where
  abbrev Less : ℕ → SignRoundInfo → Type 0
  Less r row = row_of es store r new ≡ C.without_waiter id (row_of es store r row)

  pub rows-less :
      (k : ℕ) (rows : List SignRoundInfo) (c : ℕ) → index m store k (take c rows) < c
      → Less (k + index m store k (take c rows)) (get_or rows (index m store k (take c rows)) no_row)
      → rows_from es store k (take c (set rows (index m store k (take c rows)) new)) ≡ C.remove_waiter m id (rows_from es store k (take c rows))
  unfolding index rows_from change row_of row_message
  rows-less k rows zero h e = let z : ⊥ = omega arith in absurd z
  rows-less k [] (suc c) h e = refl
  rows-less k (row ∷ rows) (suc c) h e = by (are_same_bytes m (row_message k row store)) h e (rows-less (k + 1) rows c)
    where
      by : (b : Bool) → cond b 0 (suc (index m store (k + 1) (take c rows))) < suc c
          → Less (k + cond b 0 (suc (index m store (k + 1) (take c rows)))) (get_or (row ∷ rows) (cond b 0 (suc (index m store (k + 1) (take c rows)))) no_row)
          → (index m store (k + 1) (take c rows) < c → Less (k + 1 + index m store (k + 1) (take c rows)) (get_or rows (index m store (k + 1) (take c rows)) no_row)
          → rows_from es store (k + 1) (take c (set rows (index m store (k + 1) (take c rows)) new)) ≡ C.remove_waiter m id (rows_from es store (k + 1) (take c rows)))
          → rows_from es store k (take (suc c) (set (row ∷ rows) (cond b 0 (suc (index m store (k + 1) (take c rows)))) new))
          ≡ cond b (C.without_waiter id (row_of es store k row) ∷ rows_from es store (k + 1) (take c rows))
          (row_of es store k row ∷ C.remove_waiter m id (rows_from es store (k + 1) (take c rows)))
      by true h e rec = ap (λ (y : C.SignRoundInfo). y ∷ rows_from es store (k + 1) (take c rows)) (rw (add-zero k) at e)
      by false h e rec =
          let at : k + suc (index m store (k + 1) (take c rows)) ≡ k + 1 + index m store (k + 1) (take c rows) = omega arith in
          ap (λ (l : List C.SignRoundInfo). row_of es store k row ∷ l) (rec (omega arith) (rw at at e))

-- a record of the same message in its place: the search finds what it found
pub place_same :
    (m store : List ℕ) (new : SignRoundInfo) (k : ℕ) (rows : List SignRoundInfo) (c j : ℕ) → new.message ≡ (get_or rows j no_row).message
    → record_from m store k (take c (set rows j new)) ≡ record_from m store k (take c rows)
unfolding record_from row_message
place_same m store new k rows zero j e = refl
place_same m store new k [] (suc c) j e = refl
place_same m store new k (row ∷ rows) (suc c) zero e = rw e
place_same m store new k (row ∷ rows) (suc c) (suc j) e = rw (place_same m store new (k + 1) rows c j e)
