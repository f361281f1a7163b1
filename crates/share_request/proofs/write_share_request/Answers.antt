use mathlib.Core.Path.{◌≡◌, ap, ◌∙◌}
use lib.ListN.{length, get_or}
use Rattle.pieces.specs.Places.{places_of}
use Rattle.state.specs.Slots.{collect}
use Rattle.state.specs.View.{slots_of, no_row}
use Rattle.signers.specs.Order.{place_in}
use Rattle.share_request.proofs.Writes.{writes}
use Rattle.share_request.proofs.write_share_request.Goals as goal

-- src/lib.rt:13:1
pub returns : goal.returns
returns c =
    let a = c.args in
    let places = c.response_places-places in
    let walked : places_of places.result ≡ collect (place_in a.r (get_or a.s.records.rows a.r no_row))
    (slots_of a.s.config) =
    places.ensures.0
    ∙ ap (collect (place_in a.r (get_or a.s.records.rows a.r no_row)))
    c.ascending-walked.ensures.0 in
    rw
    (← writes a.s a.store.now a.r a.message.now a.signature_type (length a.out.now) c.requires
    places.result places.ensures.1 walked) c.write_signature_share_request.ensures
