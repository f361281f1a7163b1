-- What a struct stands for beside a store looks at the first 52,224 bytes alone; a call that is lent fewer is refused with 4.
-- Assumes nothing.
use Rattle.std.specs.Prelude.{Err}
use Prim.Native.Nat.{ℕ, ◌*◌, ◌≤◌, ◌<◌}
use mathlib.Core.Path.{◌≡◌, refl}
use mathlib.Core.Bool.{Bool, true, false}
use mathlib.Core.List.{List, [], ◌++◌}
use native.Mathlib.Omega.{arith}
use borrow.Author.Tests.{lt-leb}
use lib.ListN.{length}
use Rattle.layout.specs.Limits.{signer_limit, store_length}
use Rattle.step_definition.specs.Coordinator.{Held, uncommissioned, miscounted, commissioned}
use Rattle.step_definition.specs.Calls as A
use Rattle.step_definition.specs.Questions.{question4, before}
use Rattle.step_definition.specs.Step.{on_held}
use Rattle.state.specs.declared.answers.Asks.{Asks}
use Rattle.state.specs.declared.fields.Coordinator.{Coordinator}
use Rattle.state.specs.Counts.{is_within_limits}
use Rattle.state.specs.View.{shares_start, share_bytes, slots_of, view, held_if, coordinator_of, round_of}
use Rattle.state.specs.Turns.{asked, asked_if}
use Rattle.state.proofs.SignerSlots.{slots-live}
use Rattle.state.proofs.Within.{within, config_few}
use Rattle.state.proofs.Shape.{Shaped, shares_kept}
use Rattle.state.proofs.Store.{Same, same_front, same_part}
use Rattle.shares.proofs.RowsKept.{records_kept}

module _ (s : Coordinator) (shaped : Shaped s) (store more : List ℕ) (long : store_length ≤ length store) where
  seen_lent : is_within_limits s ≡ true → coordinator_of s (store ++ more) ≡ coordinator_of s store
  unfolding coordinator_of round_of
  seen_lent w =
      let same : Same 0 store_length store (store ++ more) = same_front store_length store more long in
      let records = records_kept s shaped w store (store ++ more) (same_part 0 shares_start same (omega arith) (omega arith)) in
      let shares = shares_kept (slots_of s.config) s.config.count store (store ++ more) s.shares.slots (config_few s (within s w)) shaped.shares (slots-live s.config) (within s w).shares
      (same_part shares_start (signer_limit * share_bytes) same (omega arith) (omega arith)) in
      rw (← records, ← shares)

  pub view_lent : view s (store ++ more) ≡ view s store
  unfolding view held_if
  view_lent = by s.commissioned (is_within_limits s) refl
    where
      by : (b w : Bool) → is_within_limits s ≡ w → held_if b w (coordinator_of s (store ++ more)) ≡ held_if b w (coordinator_of s store)
      by false w e = refl
      by true false e = refl
      by true true e = rw (seen_lent e)

-- too little is lent: 4, whatever else is asked
pub short-asked : (a : Asks) (size room : ℕ) (s : Coordinator) → size < store_length → asked a size room s ≡ Err 4
unfolding asked asked_if
short-asked a size room s l = by s.commissioned (is_within_limits s)
  where
    by : (b w : Bool) → asked_if a size room s.job b w ≡ Err 4
    by false w = refl
    by true false = refl
    by true true = rw (lt-leb _ _ l)

pub short_step : (k : A.Call) (o : A.Operation) (h : Held) → k.store < store_length → on_held k o h ≡ A.outcome (A.refusing A.error 4 []) [] h
unfolding on_held before question4
short_step k o uncommissioned l = refl
short_step k o miscounted l = refl
short_step k o (commissioned c) l = rw (lt-leb _ _ l)
