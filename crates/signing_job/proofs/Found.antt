-- The search for a signer's shares finds those of its slot, and that every responder's are held is a test of each slot.
-- Assumes nothing.
use Prim.Native.Nat.{ℕ}
use mathlib.Core.Path.{◌≡◌, refl, sym, ap}
use mathlib.Core.Bool.{Bool, true, false, cond, ◌&&◌}
use mathlib.Core.List.{List, [], ◌∷◌}
use Rattle.std.specs.Prelude.{Some}
use lib.ListN.{get_or}
use Rattle.wire.specs.Bytes.{every, All}
use Rattle.pieces.specs.Places.{response_at}
use Rattle.step_definition.specs.Coordinator.{SignerShares, shares_by, sharer_id}
use Rattle.step_definition.specs.Effects.{all_shared}
use Rattle.state.specs.declared.fields.Config.{Config}
use Rattle.state.specs.declared.fields.SignerSlot.{SignerSlot}
use Rattle.state.specs.declared.fields.SignRoundInfo.{SignRoundInfo}
use Rattle.state.specs.declared.fields.Shares.{Shares}
use Rattle.state.specs.Slots.{collect, with_some, when}
use Rattle.state.specs.View.{ids_of, slots_of, shares_of, shares_in, row_of, place_of, no_slot, no_shares}
use Rattle.state.proofs.SignerSlots.{In, here, later, slots_rise}
use Rattle.state.proofs.Collect.{find_in, when_some, when_is}
use Rattle.signing_job.specs.SigningJob.{responses, shares_held, shares_are_held}

-- what holds of each that is in a list holds of all
in_each : (P : SignerSlot → Type 0) (es : List SignerSlot) → ((e : SignerSlot) → In e es → P e) → All P es
in_each P [] h = tt
in_each P (e ∷ es) h = (h e here, in_each P es (λ t i. h t (later i)))

module _ (store : List ℕ) (ss : Shares) where
  -- shares are their signer's
  shares-id : (e : SignerSlot) (y : SignerShares) → shares_in store ss.slots e ≡ Some y → sharer_id y ≡ e.id
  shares-id e y h = sym (ap sharer_id (when_some (get_or ss.slots e.slot no_shares).held (shares_of store e (get_or ss.slots e.slot no_shares)) y h))

  -- of these shares, a slot's are found by its id
  abbrev pub Found : List SignerShares → SignerSlot → Type 0
  Found held e = shares_by e.id held ≡ shares_in store ss.slots e

  pub found : (g : Config) → All (Found (shares_held (slots_of g) store ss)) (slots_of g)
  found g =
      in_each (Found (shares_held (slots_of g) store ss)) (slots_of g)
      (λ e i. find_in sharer_id (shares_in store ss.slots) shares-id e (slots_of g) (slots_rise 0 (ids_of g)) i)

  module _ (r : ℕ) (row : SignRoundInfo) (held : List SignerShares) where
    shared_in : (es : List SignerSlot) → All (Found held) es
        → all_shared (responses es store r row) held ≡ every (shares_are_held row.slots ss.slots) es
    unfolding row_of collect with_some all_shared shares_are_held response_at place_of
    shared_in [] a = refl
    shared_in (e ∷ es) a = by (get_or row.slots e.slot no_slot).held (shared_in es a.1)
      where
        by : (b : Bool) → all_shared (responses es store r row) held ≡ every (shares_are_held row.slots ss.slots) es
            → all_shared (with_some (when b (response_at store (place_of r row.message row.slots e))) (responses es store r row)) held
            ≡ cond b (get_or ss.slots e.slot no_shares).held true && every (shares_are_held row.slots ss.slots) es
        by true h = rw (a.0, when_is (get_or ss.slots e.slot no_shares).held (shares_of store e (get_or ss.slots e.slot no_shares)), h)
        by false h = h

  pub shared_walked : (g : Config) (r : ℕ) (row : SignRoundInfo)
      → all_shared (responses (slots_of g) store r row) (shares_held (slots_of g) store ss)
      ≡ every (shares_are_held row.slots ss.slots) (slots_of g)
  shared_walked g r row = shared_in r row (shares_held (slots_of g) store ss) (slots_of g) (found g)
