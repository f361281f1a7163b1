-- `receive`: refused before, or read.
-- Assumes nothing.
use borrow.Author.Rules.{rules}
use mathlib.Core.Path.{sym, ◌∙◌}
use Rattle.state.proofs.Turns.{passed_did}
use Rattle.state.proofs.Turns.{refused_did as before_did}
use Rattle.process.specs.Process.{receive_turn}
use Rattle.process.proofs.Entering.{ready}
use native.Mathlib.Omega.{arith}
use Rattle.std.proofs.lemmas.Grind.{common_steps}
use Rattle.process.proofs.packets.receive.Goals as goal

pub read-requires : goal.read-requires
read-requires c = ready _ _ _ (sym c.before-passed.ensures ∙ c.in-Ok.is)

pub returns-in-Err : goal.returns-in-Err
unfolding receive_turn
returns-in-Err c =
    before_did _ _ _ (sym c.before-passed.ensures ∙ c.in-Err.is)
    c.refused.ensures

pub returns-in-Ok : goal.returns-in-Ok
unfolding receive_turn
returns-in-Ok c =
    passed_did _ _ (sym c.before-passed.ensures ∙ c.in-Ok.is)
    c.read.ensures
