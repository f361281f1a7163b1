-- `read`: 8 or 9, or the packet's message.
use mathlib.Core.Path.{sym, ◌∙◌}
use Rattle.process.proofs.Entering.{incoming, refused_did, taken_did}
use Rattle.process.proofs.packets.read.Goals as goal

pub enter-requires : goal.enter-requires
enter-requires c = incoming _ _ c.requires (sym c.open.ensures ∙ c.in-Ok.is) c.header-h.ensures

pub returns-in-Ok : goal.returns-in-Ok
returns-in-Ok c = taken_did _ _ _ _ _ _ _ (sym c.open.ensures ∙ c.in-Ok.is) _ _ c.enter.ensures

pub returns-in-Err : goal.returns-in-Err
returns-in-Err c = refused_did _ _ _ _ _ _ _ (sym c.open.ensures ∙ c.in-Err.is) c.refused.ensures
