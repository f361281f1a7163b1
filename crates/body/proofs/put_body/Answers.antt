-- `put_body`: the message, then the root.
-- Assumes nothing.
use Rattle.wire.proofs.Buffer.{put-put}
use Rattle.body.proofs.put_body.Goals as goal

pub returns : goal.returns
returns c = rw (c.copy-2.ensures, c.copy.ensures, c.root.ensures) (put-put _ _ _ _)
