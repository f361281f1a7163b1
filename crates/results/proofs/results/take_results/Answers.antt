-- `take_results`: refused before its own questions, refused by them, or taken.
-- Assumes nothing.
use mathlib.Core.Path.{sym, ap, ◌∙◌}
use Rattle.state.specs.declared.answers.Done.{Done}
use Rattle.state.specs.declared.fields.Coordinator.{Coordinator}
use Rattle.state.specs.Turns.{plain_answer}
use Rattle.state.proofs.Turns.{refused_did, quiet_did, passed_did}
use Rattle.results.specs.Results.{results_turn}
use Rattle.results.proofs.results.take_results.Goals as goal

abbrev plainly : Coordinator → Done
plainly t = record { answer = plain_answer; after = t }

pub returns-in-Err : goal.returns-in-Err
unfolding results_turn
returns-in-Err c = refused_did _ _ _ (sym c.before-passed.ensures ∙ c.in-Err.is) c.refused.ensures

pub returns-in-Err-own : goal.returns-in-Err-own
unfolding results_turn
returns-in-Err-own c =
    passed_did _ _ (sym c.before-passed.ensures ∙ c.in-Ok.is)
    (refused_did _ _ _ (sym c.questions-own.ensures ∙ c.in-Err-own.is) c.refused-in-Err-own.ensures)

pub returns-in-Ok-own : goal.returns-in-Ok-own
unfolding results_turn
returns-in-Ok-own c =
    passed_did _ _ (sym c.before-passed.ensures ∙ c.in-Ok.is)
    (quiet_did _ _ _ _ (sym c.questions-own.ensures ∙ c.in-Ok-own.is)
    (c.quiet.ensures ∙ ap plainly c.with_results.ensures))
