-- `put`: the offset, then the length.
-- Assumes nothing.
use mathlib.Core.Path.{refl}
use Rattle.framing.proofs.Laws.{put-field}
use Rattle.framing.proofs.Cursor.put.Goals as goal

pub returns : goal.returns
returns c =
    (refl, refl, rw (c.put_number-2.ensures, c.put_number.ensures, put-field _ c.args.self.pair 4))
