-- What plain numbers give a writer.
use Rattle.std.specs.Prelude.{ℕ, map}
use Rattle.layout.specs.declared.SignerId.{SignerId}
use Rattle.layout.specs.Types.{type_of}
use Rattle.body.specs.declared.RequestHead.{RequestHead}
use Rattle.pieces.specs.declared.places.Place.{Place}
use Rattle.pieces.specs.declared.places.ResponsePlace.{ResponsePlace}
use Rattle.pieces.specs.declared.places.ResponsePlaces.{ResponsePlaces}
use Rattle.pieces.specs.declared.places.SignerIds.{SignerIds}
use Rattle.pieces.specs.declared.places.Arrival.{Arrival}
use Rattle.pieces.specs.declared.places.Arrivals.{Arrivals}
use Rattle.job.specs.declared.JobPlace.{JobPlace}
use Rattle.job.specs.declared.JobPlaces.{JobPlaces}
use Rattle.responses.specs.declared.lists.ResponseHead.{ResponseHead}
use Rattle.library_writers.specs.declared.given.RcHead.{RcHead}
use Rattle.library_writers.specs.declared.given.RcResponseHead.{RcResponseHead}
use Rattle.library_writers.specs.declared.given.RcSignerIds.{RcSignerIds}
use Rattle.library_writers.specs.declared.given.RcArrival.{RcArrival}
use Rattle.library_writers.specs.declared.given.RcArrivals.{RcArrivals}
use Rattle.library_writers.specs.declared.given.RcPlace.{RcPlace}
use Rattle.library_writers.specs.declared.given.RcResponse.{RcResponse}
use Rattle.library_writers.specs.declared.given.RcResponses.{RcResponses}
use Rattle.library_writers.specs.declared.given.RcJobPlace.{RcJobPlace}
use Rattle.library_writers.specs.declared.given.RcJobPlaces.{RcJobPlaces}

unfoldable pub head_of : RcHead → RequestHead
head_of h =
    record {
      ids = record { dkg_id = h.dkg_id; sign_id = h.sign_id; sign_iter_id = h.sign_iter_id };
      signature_type = type_of h.signature_type;
      root = h.root;
    }

abbrev pub signer_id_of : ℕ → SignerId
signer_id_of n = record { 0 = n }

unfoldable pub response_head_of : RcResponseHead → ResponseHead
response_head_of given =
    record {
      ids = record { dkg_id = given.dkg_id; sign_id = given.sign_id; sign_iter_id = given.sign_iter_id };
      signer_id = signer_id_of given.signer_id;
    }

unfoldable pub signers_given : RcSignerIds → SignerIds
signers_given s = record { ids = map signer_id_of s.ids; count = s.count }

unfoldable pub arrival_given : RcArrival → Arrival
arrival_given a = record { signer_id = signer_id_of a.signer_id; clock = a.clock }

unfoldable pub arrivals_given : RcArrivals → Arrivals
arrivals_given s = record { arrivals = map arrival_given s.arrivals; count = s.count }

unfoldable pub place_of : RcPlace → Place
place_of p = record { at = p.at; count = p.count }

unfoldable pub response_of : RcResponse → ResponsePlace
response_of p =
    record {
      ids = record { dkg_id = p.dkg_id; sign_id = p.sign_id; sign_iter_id = p.sign_iter_id };
      signer_id = signer_id_of p.signer_id;
      message = place_of p.message;
      key_ids = place_of p.key_ids;
      nonces = place_of p.nonces;
    }

unfoldable pub responses_of : RcResponses → ResponsePlaces
responses_of ps = record { places = map response_of ps.places; count = ps.count }

unfoldable pub job_place_of : RcJobPlace → JobPlace
job_place_of p =
    record {
      key_ids = place_of p.key_ids;
      nonces = place_of p.nonces;
      shares = place_of p.shares;
      share_keys_at = p.share_keys_at;
      share_key_counts = p.share_key_counts;
    }

unfoldable pub job_places_of : RcJobPlaces → JobPlaces
job_places_of ps = record { places = map job_place_of ps.places; count = ps.count }
