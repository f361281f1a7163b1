-- `process_timeout`: 4, 5 and 7, then the timeout that is due.
-- Assumes nothing.
use borrow.Author.Tests.{leb-true}
use mathlib.Core.Path.{sym, ◌∙◌}
use lib.ListN.{length}
use Rattle.state.proofs.Turns.{refused_did, passed_did, answered_all}
use Rattle.process_timeout.specs.ProcessTimeout.{asking_timeout, process_timeout_turn}
use Rattle.process_timeout.proofs.calls.process_timeout.Goals as goal

pub answer_due-requires : goal.answer_due-requires
answer_due-requires c =
    let a = c.args in
    let yeses = answered_all asking_timeout (length a.store.now) (length a.out.now) a.s (sym c.before-passed.ensures ∙ c.in-Ok.is) in
    record { within = yeses.within; wide = leb-true _ _ yeses.roomy }

pub returns-in-Err : goal.returns-in-Err
unfolding process_timeout_turn
returns-in-Err c = refused_did _ _ _ (sym c.before-passed.ensures ∙ c.in-Err.is) c.refused.ensures

pub returns-in-Ok : goal.returns-in-Ok
unfolding process_timeout_turn
returns-in-Ok c = rw (← c.timeout_due.ensures) (passed_did _ _ (sym c.before-passed.ensures ∙ c.in-Ok.is) c.answer_due.ensures)
