-- `tell_arrivals`: 4, 5 and 7, then the result.
-- Assumes nothing.
use borrow.Author.Tests.{leb-true}
use mathlib.Core.Path.{sym, ◌∙◌}
use lib.ListN.{length}
use Rattle.state.proofs.Turns.{refused_did, passed_did, answered_all}
use Rattle.arrivals.specs.Query.{asking_query, arrivals_turn}
use Rattle.arrivals.proofs.Answering.{query-ready}
use Rattle.arrivals.proofs.tell_arrivals.Goals as goal

pub told-requires : goal.told-requires
told-requires c =
    let a = c.args in
    let yeses = answered_all asking_query (length a.store.now) (length a.out.now) a.s
    (sym c.before-passed.ensures ∙ c.in-Ok.is) in
    (query-ready a.s yeses.within, leb-true _ _ yeses.roomy)

pub returns-in-Err : goal.returns-in-Err
unfolding arrivals_turn
returns-in-Err c =
    refused_did _ _ _ (sym c.before-passed.ensures ∙ c.in-Err.is) c.refused.ensures

pub returns-in-Ok : goal.returns-in-Ok
unfolding arrivals_turn
returns-in-Ok c =
    passed_did _ _ (sym c.before-passed.ensures ∙ c.in-Ok.is) c.told.ensures
