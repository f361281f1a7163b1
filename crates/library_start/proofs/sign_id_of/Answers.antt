-- Given, or not.
-- Assumes nothing.
use borrow.Author.Tests.{eq-eqb, ne_eqb}
use Rattle.library_start.specs.Given.{given_sign_id}
use mathlib.Core.Path.{sym, ◌∙◌}
use borrow.Author.Rules.{rules}
use native.Mathlib.Omega.{arith}
use Rattle.std.proofs.lemmas.Grind.{common_steps}
use Rattle.library_start.proofs.sign_id_of.Goals as goal

pub returns-then-given-eq0 : goal.returns-then-given-eq0
unfolding given_sign_id
returns-then-given-eq0 c = rw (eq-eqb _ _ c.if-given-eq0.true)

pub returns-else-given-eq0 : goal.returns-else-given-eq0
unfolding given_sign_id
returns-else-given-eq0 c = rw (ne_eqb _ _ c.if-given-eq0.false)
