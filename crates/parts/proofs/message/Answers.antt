-- The first part is the message of each kind that has one.
-- Assumes nothing.
use mathlib.Core.Path.{◌∙◌, ap}
use Rattle.layout.specs.Messages.{NonceRequest, NonceResponse, SignatureShareRequest, nonce_request, nonce_response, signature_share_request}
use Rattle.layout.specs.Decode.{request_in, response_in, share_request_in}
use Rattle.parts.proofs.Taken.{says}
use Rattle.parts.proofs.message.Goals as goal

pub returns : goal.returns
unfolding request_in response_in share_request_in
returns c = let s = c.args.s.now in
    let p = c.part_at.ensures in (
      p,
      record {
        request = λ m e. p ∙ ap (λ (r : NonceRequest). r.message) (says s (nonce_request m) e);
        response = λ m e. p ∙ ap (λ (r : NonceResponse). r.message) (says s (nonce_response m) e);
        share_request = λ m e. p ∙ ap (λ (r : SignatureShareRequest). r.message) (says s (signature_share_request m) e).0;
      },
    )
