-- The parts are the shares.
-- Assumes nothing.
use Rattle.parts.proofs.Taken.{share-says}
use Rattle.parts.proofs.share.Goals as goal

pub returns : goal.returns
returns c = let a = c.args in (c.part_at.ensures, λ m t h. rw c.part_at.ensures (share-says a.s.now a.i m t h))
