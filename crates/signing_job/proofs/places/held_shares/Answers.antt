-- `held_shares`: by whether they are held.
-- Assumes nothing.
use borrow.Author.Tests.{not-true, not-false}
use Rattle.signing_job.specs.Places.{held_shares}
use mathlib.Core.Path.{sym, ◌∙◌}
use borrow.Author.Rules.{rules}
use native.Mathlib.Omega.{arith}
use Rattle.std.proofs.lemmas.Grind.{common_steps}
use Rattle.signing_job.proofs.places.held_shares.Goals as goal

pub returns-then-not-slot : goal.returns-then-not-slot
unfolding held_shares
returns-then-not-slot c = rw (not-true c.args.slot.held c.if-not-slot.true)

pub returns : goal.returns
unfolding held_shares
returns c = rw (not-false c.args.slot.held c.if-not-slot.false)
