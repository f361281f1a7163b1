-- The second part is a response's key ids.
-- Assumes nothing.
use mathlib.Core.Path.{◌∙◌, ap}
use Rattle.layout.specs.Messages.{NonceResponse, nonce_response}
use Rattle.layout.specs.Decode.{response_in, ids_in}
use Rattle.parts.proofs.Taken.{says}
use Rattle.parts.proofs.key_ids.Goals as goal

pub returns : goal.returns
unfolding response_in
returns c = let p = c.part_at.ensures in
    (p, λ m e. ap ids_in p ∙ ap (λ (r : NonceResponse). r.key_ids) (says c.args.s.now (nonce_response m) e))
