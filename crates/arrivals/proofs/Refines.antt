-- The query gives what the definition says of what the struct and the store stand for.
-- Assumes nothing.
use Prim.Native.Nat.{ℕ}
use mathlib.Core.Path.{◌≡◌, refl, ap}
use mathlib.Core.Bool.{Bool, true, false}
use mathlib.Core.List.{List}
use borrow.Author.Tests.{ltb-true, ltb-false}
use lib.Dec.{ltb}
use lib.ListN.{length, take}
use Rattle.layout.specs.Encode.{encode_arrivals}
use Rattle.step_definition.specs.Coordinator as C
use Rattle.step_definition.specs.Calls as A
use Rattle.step_definition.specs.Questions.{asks}
use Rattle.step_definition.specs.Step.{on_arrivals, own, step_of, step}
use Rattle.state.specs.declared.fields.Coordinator.{Coordinator}
use Rattle.state.specs.Counts.{is_within_limits}
use Rattle.state.specs.View.{coordinator_of, round_of, row_of, view}
use Rattle.state.specs.Turns.{Refines}
use Rattle.state.proofs.Shape.{Shaped}
use Rattle.state.proofs.Refines.{view_held, on_held_law, call_of}
use Rattle.records.proofs.Decided.{found_record, no_record}
use Rattle.timeouts.specs.NonceTimeout.{current_place}
use Rattle.arrivals.specs.Query.{asking_query, current_arrivals, told_turn, arrivals_turn}

module _ (s : Coordinator) (store : List ℕ) (shaped : Shaped s) where
  -- the current message's arrivals, as the view has them
  arrivals_seen : is_within_limits s ≡ true → current_arrivals s store ≡ C.arrivals_of (C.current_record (coordinator_of s store))
  unfolding current_arrivals current_place coordinator_of round_of row_of
  arrivals_seen w = by (ltb (current_place s store) s.records.count) refl
    where
      m : List ℕ
      m = take s.message.len s.message.bytes

      by : (b : Bool) → ltb (current_place s store) s.records.count ≡ b
          → current_arrivals s store ≡ C.arrivals_of (C.current_record (coordinator_of s store))
      by true e = rw (e, found_record s store shaped w m (ltb-true _ _ e))
      by false e = rw (e, no_record s store shaped w m (ltb-false _ _ e))

  pub tell-arrivals-refines :
      (clock room : ℕ) (verdict : Bool)
      → Refines (arrivals_turn room s store) (step (call_of (A.other A.tell_arrivals) clock verdict (length store) room) (view s store))
  unfolding step_of asks own on_arrivals arrivals_turn told_turn
  tell-arrivals-refines clock room verdict =
      on_held_law (call_of (A.other A.tell_arrivals) clock verdict (length store) room) A.tell_arrivals asking_query refl s store _ refl
      (λ b w. record {
        answer = ap (λ l. A.sending A.result (encode_arrivals l)) (arrivals_seen w);
        events = refl;
        after = view_held s store b w;
      })
