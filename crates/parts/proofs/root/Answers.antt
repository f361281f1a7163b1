-- The second part is the root of each kind that has one.
-- Assumes nothing.
use mathlib.Core.Path.{◌∙◌, ap}
use Rattle.layout.specs.Messages.{NonceRequest, SignatureShareRequest, nonce_request, signature_share_request}
use Rattle.layout.specs.Decode.{request_in, share_request_in}
use Rattle.parts.proofs.Taken.{says}
use Rattle.parts.proofs.root.Goals as goal

pub returns : goal.returns
unfolding request_in share_request_in
returns c = let s = c.args.s.now in
    let p = c.part_at.ensures in (
      p,
      record {
        request = λ m e. p ∙ ap (λ (r : NonceRequest). r.root) (says s (nonce_request m) e);
        share_request = λ m e. p ∙ ap (λ (r : SignatureShareRequest). r.root) (says s (signature_share_request m) e).0;
      },
    )
