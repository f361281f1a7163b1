-- The signature share request that the writer's arguments say, and what is written of it.
use Rattle.std.specs.Prelude.{ℕ, ◌&&◌, List, map, leb, length}
use Rattle.layout.specs.Messages.{SignatureShareRequest, signature_share_request}
use Rattle.layout.specs.Encode.{encode}
use Rattle.layout.specs.Limits.{message_limit}
use Rattle.framing.specs.Writing.{Writing, writing}
use Rattle.body.specs.declared.RequestHead.{RequestHead}
use Rattle.pieces.specs.declared.places.ResponsePlaces.{ResponsePlaces}
use Rattle.body.specs.Body.{root_of}
use Rattle.pieces.specs.Places.{response_at, places_of, responses_hold}

unfoldable pub share_request_of : RequestHead → List ℕ → List ℕ → ResponsePlaces → SignatureShareRequest
share_request_of h message source ps =
    record {
      ids = h.ids;
      message = message;
      signature_type = h.signature_type;
      root = root_of h;
      nonce_responses = map (response_at source) (places_of ps);
    }

-- kind 3: 9 is answered no too where a list lies outside the source
unfoldable pub write_share_request : ℕ → RequestHead → List ℕ → List ℕ → ResponsePlaces → Writing
write_share_request room h message source ps =
    writing room
    (leb (length message) message_limit && responses_hold (length source) ps)
    (encode (signature_share_request (share_request_of h message source ps)))
