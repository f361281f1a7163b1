-- `arrival`: that of a response that is held.
-- Assumes nothing.
use Rattle.state.specs.Slots.{signer_slot}
use Rattle.state.specs.View.{no_slot}
use Rattle.arrivals.proofs.Listing.{arrival_there}
use Rattle.arrivals.proofs.walks.arrival.Goals as goal

pub returns : goal.returns
returns c =
    let a = c.args in
    arrival_there a.row.now.slots (signer_slot a.id a.slot) c.in_ok-response.response.now (c.in_ok-response.ensures.lookup.3.1 no_slot)
    c.if-not-response.false
