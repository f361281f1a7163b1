-- Each call gives what the step says of what the struct and the store stand for.
-- Assumes nothing.
use Prim.Native.Nat.{ℕ}
use mathlib.Core.Path.{◌≡◌, refl, ap, ◌∙◌}
use mathlib.Core.Bool.{Bool, true, false, ◌&&◌}
use mathlib.Core.List.{List, [], ◌∷◌}
use lib.Dec.{leb}
use lib.ListN.{length, replicate}
use Rattle.wire.proofs.Lists.{and_left}
use Rattle.layout.specs.Limits.{message_limit, signer_limit}
use Rattle.state_table.specs.declared.State.{State}
use Rattle.step_definition.specs.Calls as A
use Rattle.step_definition.specs.Questions.{asks}
use Rattle.step_definition.specs.Step.{on_aggregated, own, step_of, step, yes_no}
use Rattle.state.specs.declared.fields.Coordinator.{Coordinator}
use Rattle.state.specs.declared.fields.SignerSlot.{SignerSlot}
use Rattle.state.specs.Slots.{collect}
use Rattle.state.specs.Counts.{is_within_limits, config_within, records_within, shares_within}
use Rattle.state.specs.View.{view, coordinator_of, standing_of, round_of, slots_of, flagged_in, rows_from, position_of, root_bytes, reading}
use Rattle.state.specs.Turns.{asked, asked_if, Refines}
use Rattle.state.proofs.Arrays.{get_d_same}
use Rattle.state.proofs.Collect.{collect_none}
use Rattle.state.proofs.Refines.{on_held_law, view_held, call_of}
use Rattle.state.proofs.Moves.{move-viewed}
use Rattle.calls.specs.Resets.{reset_turn, abandoned, forgotten, asks_nothing}
use Rattle.state.proofs.Viewed.{no_shares_law, no_shares-within}
use Rattle.calls.specs.declared.held_keys.HeldKey.{HeldKey}
use Rattle.calls.specs.declared.held_keys.HeldKey.TheVariants as Which
use Rattle.calls.specs.Calls.{asking_no_job, asking_ajob, keys_with, set_key_turn, move_turn, aggregated_turn}

-- which key the definition's call names
abbrev pub named : HeldKey → A.HeldKey
named Which.Coordinator = A.coordinator_key
named Which.Aggregate = A.aggregate_key

module _ (clock room : ℕ) (verdict : Bool) (s : Coordinator) (store : List ℕ) where
  abbrev pub calling : A.Operation → A.Call
  calling o = call_of (A.other o) clock verdict (length store) room

  pub set-key-refines :
      (which : HeldKey) (held : Bool) → Refines (set_key_turn which held s store) (step (calling (A.set_key (named which) held)) (view s store))
  unfolding step_of asks own set_key_turn keys_with asked asked_if coordinator_of standing_of round_of is_within_limits
  set-key-refines Which.Coordinator held =
      on_held_law (calling (A.set_key A.coordinator_key held)) (A.set_key A.coordinator_key held) asking_no_job refl s store _ refl
      (λ b w. record { answer = refl; events = refl; after = view_held _ store b w })
  set-key-refines Which.Aggregate held =
      on_held_law (calling (A.set_key A.aggregate_key held)) (A.set_key A.aggregate_key held) asking_no_job refl s store _ refl
      (λ b w. record { answer = refl; events = refl; after = view_held _ store b w })

  pub aggregated_refines : (ok : Bool) → Refines (aggregated_turn ok s store) (step (calling (A.aggregated ok)) (view s store))
  unfolding step_of asks own on_aggregated aggregated_turn asked asked_if coordinator_of standing_of round_of position_of root_bytes is_within_limits
  aggregated_refines true =
      on_held_law (calling (A.aggregated true)) (A.aggregated true) asking_ajob refl s store _ refl
      (λ b w. record { answer = refl; events = refl; after = view_held _ store b w })
  aggregated_refines false =
      on_held_law (calling (A.aggregated false)) (A.aggregated false) asking_ajob refl s store _ refl
      (λ b w. record { answer = refl; events = refl; after = view_held _ store b w })

  -- the root is the 32 bytes that the host gives; the definition's call has them where the type has a root
  pub can-move-refines :
      (next : State) (root : List ℕ) → length root ≡ 32 → length s.position.root ≡ 32
      → Refines (move_turn next root s store) (step (calling (A.can_move (position_of (record { state = next; root = root })))) (view s store))
  unfolding step_of asks own move_turn asked asked_if coordinator_of position_of
  can-move-refines next root given kept =
      let p = position_of (record { state = next; root = root }) in
      on_held_law (calling (A.can_move p)) (A.can_move p) asking_no_job refl s store _ refl
      (λ b w. record {
        answer = ap (λ (b : Bool). A.telling (yes_no b ∷ [])) (move-viewed s.position.root root kept given s.position.state next);
        events = refl;
        after = view_held s store b w;
      })

-- reset: nothing is collected from cleared flags
no_flags : (es : List SignerSlot) → collect (flagged_in (replicate signer_limit false)) es ≡ []
no_flags es = collect_none (flagged_in (replicate signer_limit false)) es (λ e. rw (get_d_same signer_limit e.slot false))

reset-within : (s : Coordinator) → is_within_limits s ≡ true → is_within_limits (forgotten (abandoned s)) ≡ true
unfolding forgotten abandoned is_within_limits records_within shares_within
reset-within s w =
    let a = config_within s.config in
    let b = leb s.message.len message_limit in
    let ab : a && b ≡ true = and_left _ _ (and_left _ _ w) in
    rw ab (no_shares-within s.config.count)

pub reset_refines :
    (clock room : ℕ) (verdict : Bool) (s : Coordinator) (store : List ℕ)
    → Refines (reset_turn s store) (step (calling clock room verdict s store A.reset) (view s store))
unfolding step_of asks own reset_turn asked asked_if coordinator_of standing_of round_of rows_from position_of root_bytes forgotten abandoned
reset_refines clock room verdict s store =
    on_held_law (calling clock room verdict s store A.reset) A.reset asks_nothing refl s store _ refl
    (λ b w. record {
      answer = refl;
      events = refl;
      after = view_held (forgotten (abandoned s)) store b (reset-within s w) ∙ rw (no_shares_law (slots_of s.config) store, no_flags (slots_of s.config));
    })
