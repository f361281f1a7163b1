-- Over zeros.
-- Assumes nothing.
use borrow.Author.Rules.{rules}
use Rattle.layout.specs.Types.{root_length}
use Rattle.library_start.specs.Given.{root_given}
use mathlib.Core.Path.{sym, ◌∙◌}
use native.Mathlib.Omega.{arith}
use Rattle.std.proofs.lemmas.Grind.{common_steps}
use Rattle.library_start.proofs.root_given.Goals as goal

pub returns : goal.returns
unfolding root_given root_length
returns c = c.copy.ensures
