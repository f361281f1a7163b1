-- `is_any`: a list that counts one has one.
-- Assumes nothing.
use Rattle.pieces.proofs.Given.{signers_10}
use Rattle.signing_job.proofs.Waiting.{any_counted}
use mathlib.Core.Path.{sym, ◌∙◌}
use borrow.Author.Rules.{rules}
use native.Mathlib.Omega.{arith}
use Rattle.std.proofs.lemmas.Grind.{common_steps}
use Rattle.signing_job.proofs.waiters.is_any.Goals as goal

pub returns : goal.returns
returns c = any_counted c.args.list (signers_10 c.args.list _ c.well_formed.0) c.requires
