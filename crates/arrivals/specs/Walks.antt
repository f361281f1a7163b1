-- A response's arrival as the writer takes it.
use Rattle.std.specs.Prelude.{Option, List, get_or}
use Rattle.pieces.specs.declared.places.Arrival.{Arrival}
use Rattle.state.specs.declared.fields.ResponseSlot.{ResponseSlot}
use Rattle.state.specs.declared.fields.SignerSlot.{SignerSlot}
use Rattle.state.specs.Slots.{when}
use Rattle.state.specs.View.{no_slot}

abbrev pub arrival_at : List ResponseSlot → SignerSlot → Option Arrival
arrival_at slots e =
    when (get_or slots e.slot no_slot).held (record { signer_id = record { 0 = e.id }; clock = (get_or slots e.slot no_slot).clock })
