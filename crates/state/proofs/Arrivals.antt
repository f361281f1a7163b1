-- 02, e): in every record that a struct and a store stand for, each responder has exactly one reading.
-- Assumes nothing.
use Prim.Native.Nat.{ℕ, ◌+◌, ◌<◌}
use mathlib.Core.Path.{◌≡◌, refl, ap₂}
use mathlib.Core.Bool.{Bool, true, false}
use mathlib.Core.List.{List, [], ◌∷◌, map}
use Rattle.std.specs.Prelude.{Option, Some, None}
use native.Mathlib.Omega.{arith}
use lib.ListN.{get_or, take}
use Rattle.wire.specs.Bytes.{All}
use Rattle.wire.proofs.Lists.{all_imp}
use Rattle.layout.specs.Encode.{arrival_signer}
use Rattle.layout.specs.Messages.{Arrival}
use Rattle.pieces.specs.Places.{response_at}
use Rattle.step_definition.specs.Coordinator as C
use Rattle.step_definition.specs.Demand3.{Ascending}
use Rattle.step_definition.specs.Arrivals.{OneReadingEach}
use Rattle.state.specs.declared.fields.SignRoundInfo.{SignRoundInfo}
use Rattle.state.specs.declared.fields.SignerSlot.{SignerSlot}
use Rattle.state.specs.declared.fields.Coordinator.{Coordinator}
use Rattle.state.specs.Slots.{Above, Rising, when, with_some, collect}
use Rattle.state.specs.View.{ids_of, slots_of, no_slot, place_of, arrival_in, row_of, rows_from, round_of, coordinator_of}
use Rattle.state.proofs.SignerSlots.{slots_rise}
use Rattle.state.proofs.Collect.{when_some}

-- lists that the same slots hold, by numbers that agree
module _ {A B : Type 0} (held : SignerSlot → Bool) (x : SignerSlot → A) (y : SignerSlot → B) (key : A → ℕ) (key' : B → ℕ)
    (same : (e : SignerSlot) → key (x e) ≡ key' (y e)) where
  same_keys :
      (es : List SignerSlot)
      → map key (collect (λ (e : SignerSlot). when (held e) (x e)) es) ≡ map key' (collect (λ (e : SignerSlot). when (held e) (y e)) es)
  unfolding collect with_some
  same_keys [] = refl
  same_keys (e ∷ es) = by (held e) _ _ (same_keys es)
    where
      by : (b : Bool) (xs : List A) (ys : List B) → map key xs ≡ map key' ys
          → map key (with_some (when b (x e)) xs) ≡ map key' (with_some (when b (y e)) ys)
      by true xs ys r = ap₂ {C = List ℕ} (λ n ns. n ∷ ns) (same e) r
      by false xs ys r = r

-- a list that is collected over ascending signers ascends
module _ {A : Type 0} (key : A → ℕ) (f : SignerSlot → Option A) (keyed : (e : SignerSlot) (y : A) → f e ≡ Some y → key y ≡ e.id) where
  collect_above : (n : ℕ) (es : List SignerSlot) → Above n es → All (λ (m : ℕ). n < m) (map key (collect f es))
  unfolding collect with_some
  collect_above n [] a = tt
  collect_above n (e ∷ es) a = by (f e) refl (collect f es) (collect_above n es a.1)
    where
      by : (o : Option A) → f e ≡ o → (ys : List A) → All (λ (m : ℕ). n < m) (map key ys) → All (λ (m : ℕ). n < m) (map key (with_some o ys))
      by None q ys r = r
      by (Some y) q ys r = (omega (arith, keyed e y q, a.0), r)

  collect_ascends : (es : List SignerSlot) → Rising es → Ascending (map key (collect f es))
  unfolding collect with_some
  collect_ascends [] a = tt
  collect_ascends (e ∷ es) a = by (f e) refl (collect f es) (collect_above e.id es a.0) (collect_ascends es a.1)
    where
      by : (o : Option A) → f e ≡ o → (ys : List A) → All (λ (m : ℕ). e.id < m) (map key ys) → Ascending (map key ys)
          → Ascending (map key (with_some o ys))
      by None q ys l r = r
      by (Some y) q ys l r = (all_imp (map key ys) (λ (m : ℕ) (h : e.id < m). omega (arith, keyed e y q)) l, r)

row_readings : (es : List SignerSlot) → Rising es → (store : List ℕ) (r : ℕ) (row : SignRoundInfo) → OneReadingEach (row_of es store r row)
unfolding row_of response_at place_of
row_readings es rising store r row =
    record {
      responders =
          same_keys (λ (e : SignerSlot). (get_or row.slots e.slot no_slot).held)
          (λ (e : SignerSlot). record { signer_id = e.id; clock = (get_or row.slots e.slot no_slot).clock })
          (λ (e : SignerSlot). response_at store (place_of r row.message row.slots e))
          arrival_signer C.responder_id (λ e. refl) es;
      once =
          collect_ascends arrival_signer (arrival_in row.slots)
          (λ e y h. arrival_id (get_or row.slots e.slot no_slot).held e.id _ y h) es rising;
    }
  where
    arrival_id : (b : Bool) (id clock : ℕ) (y : Arrival) → when b (record { signer_id = id; clock = clock }) ≡ Some y → y.signer_id ≡ id
    arrival_id b id clock y h = rw (← when_some b (record { signer_id = id; clock = clock }) y h) refl

rows_readings :
    (es : List SignerSlot) → Rising es → (store : List ℕ) (k : ℕ) (rows : List SignRoundInfo) → All OneReadingEach (rows_from es store k rows)
unfolding rows_from
rows_readings es rising store k [] = tt
rows_readings es rising store k (row ∷ rows) = (row_readings es rising store k row, rows_readings es rising store (k + 1) rows)

pub view_readings : (s : Coordinator) (store : List ℕ) → All OneReadingEach (coordinator_of s store).round.message_nonces
unfolding coordinator_of round_of
view_readings s store = rows_readings (slots_of s.config) (slots_rise 0 (ids_of s.config)) store 0 (take s.records.count s.records.rows)
