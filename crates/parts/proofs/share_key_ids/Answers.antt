-- What stands after id and z_i, to the end.
-- Assumes nothing.
use mathlib.Core.Path.{◌∙◌}
use native.Mathlib.Omega.{arith}
use lib.ListN.{length, drop, length-drop}
use lib.Seq.{take_all}
use Rattle.parts.proofs.share_key_ids.Goals as goal

pub returns : goal.returns
returns c = let s = c.args.share.now in c.part.ensures ∙ take_all (length s) (drop 36 s) (rw length-drop (omega arith))
