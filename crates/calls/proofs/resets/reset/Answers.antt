-- `reset`: refused, or both steps and nothing said.
-- Assumes nothing.
use mathlib.Core.Path.{sym, ap, ◌∙◌}
use Rattle.calls.specs.Resets.{reset_turn, forgotten}
use Rattle.state.specs.declared.fields.Coordinator.{Coordinator}
use Rattle.state.specs.declared.answers.Done.{Done}
use Rattle.state.specs.Turns.{plain_answer}
use Rattle.state.proofs.Turns.{refused_did, quiet_did}
use Rattle.calls.proofs.resets.reset.Goals as goal

abbrev plainly : Coordinator → Done
plainly t = record { answer = plain_answer; after = t }

pub returns-in-Err : goal.returns-in-Err
unfolding reset_turn
returns-in-Err c = refused_did _ _ _ (sym c.before-passed.ensures ∙ c.in-Err.is) c.refused.ensures

pub returns-in-Ok : goal.returns-in-Ok
unfolding reset_turn
returns-in-Ok c =
    quiet_did _ _ _ _ (sym c.before-passed.ensures ∙ c.in-Ok.is)
    (c.quiet.ensures ∙ ap plainly (c.forget-after.ensures ∙ ap forgotten c.abandon.ensures))
