-- A nonce timeout that fires gives what the definition says of what the struct and the store stand for.
-- Assumes nothing.
use Prim.Native.Nat.{ℕ}
use mathlib.Core.Path.{◌≡◌, refl}
use mathlib.Core.Bool.{Bool, true, false}
use mathlib.Core.List.{List}
use borrow.Author.Tests.{ltb-true, ltb-false}
use lib.Dec.{ltb}
use lib.ListN.{take}
use Rattle.step_definition.specs.Lists.{find}
use Rattle.step_definition.specs.Questions.{question12}
use Rattle.step_definition.specs.Timeouts.{nonce_timeout}
use Rattle.state.specs.declared.fields.Coordinator.{Coordinator}
use Rattle.state.specs.Counts.{is_within_limits}
use Rattle.state.specs.View.{coordinator_of, standing_of, round_of, row_of}
use Rattle.state.specs.Turns.{unless, Refines}
use Rattle.state.proofs.Shape.{Shaped}
use Rattle.state.proofs.Refines.{view_held}
use Rattle.records.proofs.Decided.{found_record, no_record}
use Rattle.timeouts.specs.NonceTimeout.{current_place, record_asked, nonce_timeout_bytes, nonce_timeout_turn}

pub nonce_timeout_refines :
    (s : Coordinator) (store : List ℕ) → Shaped s → s.commissioned ≡ true → is_within_limits s ≡ true
    → Refines (nonce_timeout_turn s store) (nonce_timeout (coordinator_of s store))
unfolding nonce_timeout_turn nonce_timeout record_asked nonce_timeout_bytes current_place question12 unless coordinator_of round_of row_of standing_of
nonce_timeout_refines s store shaped b w = by (ltb (current_place s store) s.records.count) refl
  where
    m : List ℕ
    m = take s.message.len s.message.bytes

    by : (x : Bool) → ltb (current_place s store) s.records.count ≡ x → Refines (nonce_timeout_turn s store) (nonce_timeout (coordinator_of s store))
    by true e = rw (e, found_record s store shaped w m (ltb-true _ _ e)) (record { answer = refl; events = refl; after = view_held s store b w })
    by false e = rw (e, no_record s store shaped w m (ltb-false _ _ e)) (record { answer = refl; events = refl; after = view_held s store b w })
