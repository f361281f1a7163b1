-- What a writer is given: lists by their places in a source that the caller lends, and the message that they say.
use Rattle.std.specs.Prelude.{ℕ, ◌+◌, ◌*◌, ◌-◌, Bool, ◌&&◌, List, map, leb, take, drop}
use Rattle.wire.specs.Bytes.{every}
use Rattle.layout.specs.declared.SignerId.{SignerId}
use Rattle.layout.specs.Messages.{NonceResponse}
use Rattle.layout.specs.Messages as Said
use Rattle.layout.specs.Decode.{ids_in, nonces_in}
use Rattle.layout.specs.Limits.{message_limit, list_limit, signer_limit}
use Rattle.pieces.specs.declared.places.Place.{Place}
use Rattle.pieces.specs.declared.places.ResponsePlace.{ResponsePlace}
use Rattle.pieces.specs.declared.places.ResponsePlaces.{ResponsePlaces}
use Rattle.pieces.specs.declared.places.SignerIds.{SignerIds}
use Rattle.pieces.specs.declared.places.Arrival.{Arrival}
use Rattle.pieces.specs.declared.places.Arrivals.{Arrivals}

-- the bytes of a list of entries of w bytes at its place
unfoldable pub bytes_at : ℕ → Place → List ℕ → List ℕ
bytes_at w p source = take (p.count * w) (drop p.at source)

-- the list has at most so many entries and lies in a source of so many bytes
unfoldable pub holds : ℕ → ℕ → ℕ → Place → Bool
holds size w limit p = leb p.count limit && leb p.at size && leb (p.count * w) (size - p.at)

unfoldable pub response_holds : ℕ → ResponsePlace → Bool
response_holds size p =
    holds size 1 message_limit p.message && holds size 4 list_limit p.key_ids && holds size 66 list_limit p.nonces

unfoldable pub response_at : List ℕ → ResponsePlace → NonceResponse
response_at source p =
    record {
      ids = p.ids;
      signer_id = p.signer_id.0;
      message = bytes_at 1 p.message source;
      key_ids = ids_in (bytes_at 4 p.key_ids source);
      nonces = nonces_in (bytes_at 66 p.nonces source);
    }

-- the length of the kind 2 packet whose lists lie at these places
unfoldable pub response_length : ResponsePlace → ℕ
response_length p = 56 + p.message.count + p.key_ids.count * 4 + p.nonces.count * 66

-- the places that count
unfoldable pub places_of : ResponsePlaces → List ResponsePlace
places_of ps = take ps.count ps.places

unfoldable pub responses_hold : ℕ → ResponsePlaces → Bool
responses_hold size ps = leb ps.count signer_limit && every (response_holds size) (places_of ps)

-- a list of signers
abbrev pub signer_number : SignerId → ℕ
signer_number s = s.0

unfoldable pub signers_of : SignerIds → List ℕ
signers_of s = take s.count (map signer_number s.ids)

-- a list of arrivals
abbrev pub arrival_of : Arrival → Said.Arrival
arrival_of a = record { signer_id = a.signer_id.0; clock = a.clock }

unfoldable pub arrivals_of : Arrivals → List Said.Arrival
arrivals_of s = take s.count (map arrival_of s.arrivals)
