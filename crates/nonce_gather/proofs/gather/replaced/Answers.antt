-- `replaced`: the message in the place of the last one.
-- Assumes nothing.
use borrow.Author.Rules.{rules}
use mathlib.Core.Path.{sym, ◌∙◌}
use native.Mathlib.Omega.{arith}
use Rattle.std.proofs.lemmas.Grind.{common_steps}
use Rattle.nonce_gather.proofs.gather.replaced.Goals as goal

pub returns : goal.returns
returns c = rw c.with_message.ensures
