-- `write_response`: header and pairs, then three parts.
-- Assumes nothing.
use mathlib.Core.Path.{refl, ◌∙◌}
use mathlib.Core.List.{[], ◌∷◌}
use native.Mathlib.Omega.{arith}
use Rattle.framing.specs.Writing.{total}
use Rattle.framing.proofs.Laws.{lent_short, lent_whole, put-parts, put-framed, length-parts}
use Rattle.pieces.proofs.response.write_response.Goals as goal

pub returns-then-out-end : goal.returns-then-out-end
unfolding total
returns-then-out-end c = lent_short _ _ _ (length-parts _ (_ ∷ (_ ∷ (_ ∷ []))) ∙ omega arith) c.if-out-end.true

pub returns : goal.returns
unfolding total
returns c =
    lent_whole _ _ _ (length-parts _ (_ ∷ (_ ∷ (_ ∷ []))) ∙ omega arith) c.if-out-end.false _
    (rw (c.copy-3.ensures, c.copy-2.ensures, c.copy.ensures, c.put_response_frame.ensures)
    (put-parts _ 56 (_ ∷ (_ ∷ (_ ∷ []))) ∙ put-framed _ _ (_ ∷ (_ ∷ (_ ∷ []))) 56 refl))
