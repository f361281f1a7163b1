use mathlib.Core.Path.{refl, sym, ap, ◌∙◌}
use Rattle.state.specs.declared.fields.Coordinator.{Coordinator}
use Rattle.state.specs.Turns.{said, answer_of, failed_answer, telling_answer}
use Rattle.state.proofs.Turns.{refused_did}
use Rattle.calls.proofs.Turns.{bare_did}
use Rattle.calls.specs.Calls.{aggregated_turn}
use Rattle.calls.proofs.aggregator.aggregated.Goals as goal

-- src/aggregator.rt:71:1
pub returns-in-Err : goal.returns-in-Err
unfolding aggregated_turn
returns-in-Err c = refused_did _ _ _ (sym c.before-passed.ensures ∙ c.in-Err.is) c.refused.ensures

-- src/aggregator.rt:71:1
pub returns-else-ok : goal.returns-else-ok
unfolding aggregated_turn said answer_of
returns-else-ok c =
    rw (c.if-ok.false)
    (bare_did _ _ _ (sym c.before-passed.ensures ∙ c.in-Ok.is)
    (c.failed.ensures ∙ ap (λ (t : Coordinator). record { answer = failed_answer 23; after = t }) c.drop_job.ensures) refl refl refl)

-- src/aggregator.rt:71:1
pub returns-then-ok : goal.returns-then-ok
unfolding aggregated_turn said answer_of
returns-then-ok c =
    rw (c.if-ok.true)
    (bare_did _ _ _ (sym c.before-passed.ensures ∙ c.in-Ok.is)
    (c.telling.ensures ∙ (λ i. record { answer = telling_answer (c.kind_of.ensures i); after = c.to_idle-after.ensures i })) refl refl refl)
