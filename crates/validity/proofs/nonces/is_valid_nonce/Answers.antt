-- D is the first 33 bytes, and E is what is left, however much that is.
-- Assumes nothing.
use mathlib.Core.Path.{◌≡◌, sym, ◌∙◌, ap}
use mathlib.Core.Bool.{true}
use lib.ListN.{take}
use Rattle.validity.specs.Nonces.{valid_point, valid_nonce}
use Rattle.layout.specs.Decode.{nonce_in}
use Rattle.validity.proofs.Chunks.{whole}
use Rattle.validity.proofs.nonces.is_valid_nonce.Goals as goal

pub returns-then-is_valid_point : goal.returns-then-is_valid_point
unfolding valid_nonce nonce_in
returns-then-is_valid_point c =
    let s = c.args.s.now in
    let e : valid_point (take 33 s) ≡ true = sym (c.is_valid_point.ensures ∙ ap valid_point c.part.ensures) ∙ c.if-is_valid_point.true in
    rw e (c.is_valid_point-then-is_valid_point.ensures ∙ ap valid_point (c.part-then-is_valid_point.ensures ∙ whole s 33))
