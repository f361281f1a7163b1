-- `put_response_frame`: the header, then three pairs.
-- Assumes nothing.
use mathlib.Core.List.{[], ◌∷◌}
use Rattle.framing.proofs.Laws.{put-frame}
use Rattle.pieces.proofs.response.put_response_frame.Goals as goal

pub returns : goal.returns
returns c =
    rw (c.put-3.ensures.2, c.put-2.ensures.2, c.put.ensures.2, c.put-2.ensures.0, c.put-2.ensures.1, c.put.ensures.0, c.put.ensures.1, c.put_header.ensures, c.header.ensures)
    (put-frame _ _ 56 (_ ∷ (_ ∷ (_ ∷ []))))
