-- Above the last type, the last type, below it.
-- Assumes nothing.
use borrow.Author.Tests.{eq-eqb, ne_eqb, le-leb, lt-leb}
use Rattle.layout.specs.Types.{root_length}
use Rattle.library_start.specs.Given.{type_said}
use mathlib.Core.Path.{sym, ◌∙◌}
use borrow.Author.Rules.{rules}
use native.Mathlib.Omega.{arith}
use Rattle.std.proofs.lemmas.Grind.{common_steps}
use Rattle.library_start.proofs.type_said.Goals as goal

pub returns-then-n-gt-LAST_TYPE : goal.returns-then-n-gt-LAST_TYPE
unfolding type_said
returns-then-n-gt-LAST_TYPE c = rw (lt-leb _ _ c.if-n-gt-LAST_TYPE.true)

pub returns-then-n-eq-LAST_TYPE : goal.returns-then-n-eq-LAST_TYPE
unfolding type_said root_length
returns-then-n-eq-LAST_TYPE c = rw (le-leb _ _ c.if-n-gt-LAST_TYPE.false, eq-eqb _ _ c.if-n-eq-LAST_TYPE.true)

pub returns : goal.returns
unfolding type_said
returns c = rw (le-leb _ _ c.if-n-gt-LAST_TYPE.false, ne_eqb _ _ c.if-n-eq-LAST_TYPE.false)
