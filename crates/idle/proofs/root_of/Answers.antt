-- `root_of`: the part's bytes over zeros.
-- Assumes nothing.
use Rattle.std.proofs.Common.{◌∙◌, rules}
use mathlib.Core.Path.{sym}
use native.Mathlib.Omega.{arith}
use Rattle.std.proofs.lemmas.Grind.{common_steps}
use Rattle.idle.proofs.root_of.Goals as goal

pub returns : goal.returns
returns c = c.copy.ensures ∙ rw c.root.ensures.0
