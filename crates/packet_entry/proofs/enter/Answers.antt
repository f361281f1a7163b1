-- `enter`: by the call.
-- Assumes nothing.
use borrow.Author.Rules.{rules}
use Rattle.packet_entry.proofs.Entering.{process_did, message_did}
use mathlib.Core.Path.{sym, ◌∙◌}
use native.Mathlib.Omega.{arith}
use Rattle.std.proofs.lemmas.Grind.{common_steps}
use Rattle.packet_entry.proofs.enter.Goals as goal

pub returns-in-Process : goal.returns-in-Process
returns-in-Process c = process_did _ _ _ _ _ _ c.in-Process.is c.unless_late.ensures

pub returns-in-ProcessMessage : goal.returns-in-ProcessMessage
returns-in-ProcessMessage c = message_did _ _ _ _ _ _ c.in-ProcessMessage.is c.on_message.ensures
