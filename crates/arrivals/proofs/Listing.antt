-- Arrivals as the writer takes them are those of the definition.
-- Assumes nothing.
use mathlib.Core.Path.{◌≡◌, refl}
use mathlib.Core.Bool.{Bool, true, false}
use mathlib.Core.List.{List, map}
use Rattle.std.specs.Prelude.{Option, Some}
use lib.ListN.{get_or}
use Rattle.pieces.specs.declared.places.Arrival.{Arrival}
use Rattle.pieces.specs.Places.{arrival_of}
use Rattle.state.specs.declared.fields.ResponseSlot.{ResponseSlot}
use Rattle.state.specs.declared.fields.SignerSlot.{SignerSlot}
use Rattle.state.specs.Slots.{collect, with_some, when}
use Rattle.state.specs.View.{arrival_in, no_slot}
use Rattle.signers.proofs.Walking.{collect-map}
use Rattle.arrivals.specs.Walks.{arrival_at}

pub arrivals_mapped : (slots : List ResponseSlot) (es : List SignerSlot)
    → collect (arrival_in slots) es ≡ map arrival_of (collect (arrival_at slots) es)
unfolding with_some
arrivals_mapped slots es =
    collect-map arrival_of (arrival_at slots) (arrival_in slots) es (λ e xs. by (get_or slots e.slot no_slot).held e xs)
  where
    by : (b : Bool) (e : SignerSlot) (xs : List Arrival)
        → with_some (when b (arrival_of (record { signer_id = record { 0 = e.id }; clock = (get_or slots e.slot no_slot).clock }))) (map arrival_of xs)
        ≡ map arrival_of (with_some (when b (record { signer_id = record { 0 = e.id }; clock = (get_or slots e.slot no_slot).clock })) xs)
    by true e xs = refl
    by false e xs = refl

-- the arrival of a response that is held
pub arrival_there : (slots : List ResponseSlot) (e : SignerSlot) (x : ResponseSlot) → x ≡ get_or slots e.slot no_slot → x.held ≡ true
    → ◌≡◌ {A = Option Arrival} (Some (record { signer_id = record { 0 = e.id }; clock = x.clock })) (arrival_at slots e)
arrival_there slots e x is held = rw (← is, held)
