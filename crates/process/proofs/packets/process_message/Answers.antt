-- `process_message`: as `receive` says. Written out, so that a wrong hand-on is refused at once.
-- Assumes nothing.
use borrow.Author.Rules.{rules}
use mathlib.Core.Path.{sym, ◌∙◌}
use native.Mathlib.Omega.{arith}
use Rattle.std.proofs.lemmas.Grind.{common_steps}
use Rattle.process.proofs.packets.process_message.Goals as goal

pub returns : goal.returns
returns c = c.receive.ensures
