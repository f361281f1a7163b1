-- Part i where there is one.
-- Assumes nothing.
use borrow.Author.Rules.{rules}
use borrow.Author.Tests.{lt-ltb}
use Rattle.parts.specs.Parts.{part_in}
use Rattle.parts.proofs.part.Goals as goal

pub returns-then-i-pairs : goal.returns-then-i-pairs
unfolding part_in
returns-then-i-pairs c = rw (lt-ltb _ _ c.if-i-pairs.true) c.part_at.ensures

pub returns-else-i-pairs : goal.returns-else-i-pairs
unfolding part_in
returns-else-i-pairs c = search rules
