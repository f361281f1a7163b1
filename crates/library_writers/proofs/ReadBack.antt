-- What is written is read as what was given.
-- Assumes nothing.
use Prim.Native.Nat.{ℕ, ◌+◌, ◌≤◌}
use mathlib.Core.Path.{◌≡◌, refl, ap}
use mathlib.Core.Bool.{true}
use mathlib.Core.List.{List}
use lib.ListN.{length}
use Rattle.layout.specs.Messages.{nonce_request, signature_share_request}
use Rattle.layout.specs.Types.{type_number, type_of}
use Rattle.layout.specs.Encode.{header_of, header}
use Rattle.layout.specs.Fits.{Fits}
use Rattle.layout.specs.Decode.{within}
use Rattle.layout.proofs.Headed.{type_number-type_of}
use Rattle.layout.proofs.RoundTrip.{decode-encode}
use Rattle.body.specs.Body.{request_of}
use Rattle.requests.specs.Requests.{share_request_of}
use Rattle.library_writers.specs.declared.given.RcHead.{RcHead}
use Rattle.library_writers.specs.declared.given.RcResponseHead.{RcResponseHead}
use Rattle.library_writers.specs.declared.given.RcResponses.{RcResponses}
use Rattle.library_writers.specs.Given.{head_of, response_head_of, responses_of}
use Rattle.library_writers.specs.ReadBack.{header_given, ReadAs, HeadGiven}

-- the type's number, in a header of the head's
pub type_given :
    (kind pairs : ℕ) (h : RcHead) → h.signature_type ≤ 3
    → header_of kind (type_number (type_of h.signature_type)) pairs 0 (header_given kind pairs h).ids ≡ header_given kind pairs h
type_given kind pairs h few = ap (λ (t : ℕ). header_of kind t pairs 0 (header_given kind pairs h).ids) (type_number-type_of h.signature_type few)

module _ (h : RcHead) (few : h.signature_type ≤ 3) (message : List ℕ) where
  -- kind 1
  pub nonce-request-read :
      let m = nonce_request (request_of (head_of h) message) in Fits m → within m ≡ true → ReadAs m (header_given 1 2 h)
  unfolding header head_of request_of
  nonce-request-read f w =
      record { decoded = decode-encode (nonce_request (request_of (head_of h) message)) f w; headed = type_given 1 2 h few }

  -- kind 3, with its responses
  pub share-request-read :
      (source : List ℕ) (ps : RcResponses) →
      let r = share_request_of (head_of h) message source (responses_of ps) in
      Fits (signature_share_request r) → within (signature_share_request r) ≡ true →
      ReadAs (signature_share_request r) (header_given 3 (2 + length r.nonce_responses) h)
  unfolding header head_of share_request_of
  share-request-read source ps f w =
      record {
        decoded = decode-encode (signature_share_request (share_request_of (head_of h) message source (responses_of ps))) f w;
        headed = type_given 3 _ h few;
      }

-- kinds 2 and 4: the head's numbers, each under its name
pub head_given : (h : RcResponseHead) → HeadGiven h (response_head_of h)
unfolding response_head_of
head_given h = record { dkg_id = refl; sign_id = refl; sign_iter_id = refl; signer_id = refl }
