-- `on_message`: 13 and 14, then by state.
-- Assumes nothing.
use borrow.Author.Rules.{rules}
use Rattle.state.proofs.Within.{within, config_few}
use Rattle.messages.proofs.Turns.{unverified_did, verified_did}
use mathlib.Core.Path.{sym, ◌∙◌}
use native.Mathlib.Omega.{arith}
use Rattle.std.proofs.lemmas.Grind.{common_steps}
use Rattle.messages.proofs.states.on_message.Goals as goal

pub verified-passed-requires : goal.verified-passed-requires
verified-passed-requires c = config_few _ (within _ c.requires.within)

pub returns-in-Err : goal.returns-in-Err
returns-in-Err c =
    unverified_did _ _ _ _ _ _ c.requires.header _ c.verified-passed.ensures _
    c.in-Err.is c.refused.ensures

pub returns-in-Ok : goal.returns-in-Ok
returns-in-Ok c =
    verified_did _ _ _ _ _ _ c.requires.header _ c.verified-passed.ensures _ _
    c.in-Ok.is c.by_phase.ensures
