-- A message replaced and shares emptied, as the view has them.
-- Assumes nothing.
use Prim.Native.Nat.{ℕ, ◌≤◌}
use mathlib.Core.Path.{◌≡◌, refl}
use mathlib.Core.Bool.{true}
use mathlib.Core.List.{List, []}
use Rattle.std.specs.Prelude.{None}
use native.Mathlib.Omega.{arith}
use lib.ListN.{length, take}
use Rattle.wire.specs.Bytes.{put, every}
use Rattle.layout.specs.Limits.{message_limit, signer_limit}
use Rattle.step_definition.specs.Coordinator.{with_message}
use Rattle.state.specs.declared.fields.ShareSlot.{ShareSlot}
use Rattle.state.specs.declared.fields.SignerSlot.{SignerSlot}
use Rattle.state.specs.declared.fields.Coordinator.{Coordinator}
use Rattle.state.specs.Slots.{collect, when}
use Rattle.state.specs.Setters.{set_message}
use Rattle.state.specs.Counts.{shares_within}
use Rattle.state.specs.View.{coordinator_of, standing_of, round_of, shares_of, shares_in, no_shares}
use Rattle.state.proofs.Arrays.{get_d_either, every_same}
use Rattle.state.proofs.Collect.{collect_none}
use Rattle.state.proofs.Store.{put_read}
use Rattle.state.specs.Replaced.{message_with, empty_shares, none_held}

module _ (m : List ℕ) (few : length m ≤ message_limit) (s : Coordinator) (long : length s.message.bytes ≡ message_limit) where
  pub message_read : take (length m) (put s.message.bytes 0 m) ≡ m
  message_read = put_read s.message.bytes 0 m (length m) refl (omega arith)

  pub message_viewed : (store : List ℕ) → coordinator_of (set_message (message_with m s.message) s) store ≡ with_message m (coordinator_of s store)
  unfolding coordinator_of standing_of round_of
  message_viewed store = rw message_read

pub no_shares_law : (es : List SignerSlot) (store : List ℕ) → collect (shares_in store none_held.slots) es ≡ []
no_shares_law es store =
    collect_none (shares_in store none_held.slots) es
    (λ e. get_d_either (λ (x : ShareSlot). when x.held (shares_of store e x) ≡ None) signer_limit e.slot empty_shares no_shares refl refl)

pub no_shares-within : (n : ℕ) → every shares_within (take n none_held.slots) ≡ true
unfolding shares_within
no_shares-within n = every_same shares_within n signer_limit empty_shares refl
