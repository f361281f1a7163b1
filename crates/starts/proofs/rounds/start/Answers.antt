-- `start`: 4, 5 and 7, then 9, then the rest.
-- Assumes nothing.
use Rattle.std.proofs.Common.{length, sym, ◌∙◌, rules, le-leb, leb-true}
use borrow.Author.Tests.{lt-leb}
use Rattle.state.specs.Turns.{unless}
use Rattle.state.proofs.Turns.{refused_did, error_did, answered_all}
use Rattle.starts.specs.Starts.{asking_start, start_turn}
use native.Mathlib.Omega.{arith}
use Rattle.std.proofs.lemmas.Grind.{common_steps}
use Rattle.starts.proofs.rounds.start.Goals as goal

pub begin-requires : goal.begin-requires
begin-requires c =
    let a = c.args in
    let asked = answered_all asking_start (length a.store.now) (length a.out.now) a.s
    (sym c.before-passed.ensures ∙ c.in-Ok.is) in
    (c.if-message-gt-MESSAGE_LIMIT.false, leb-true _ _ asked.roomy)

pub returns-in-Err : goal.returns-in-Err
unfolding start_turn
returns-in-Err c =
    refused_did _ _ _ (sym c.before-passed.ensures ∙ c.in-Err.is)
    c.refused.ensures

pub returns-then-message-gt-MESSAGE_LIMIT : goal.returns-then-message-gt-MESSAGE_LIMIT
unfolding start_turn unless
returns-then-message-gt-MESSAGE_LIMIT c =
    rw (← c.before-passed.ensures, c.in-Ok.is, lt-leb _ _ c.if-message-gt-MESSAGE_LIMIT.true)
    (error_did _ _ c.refused-then-message-gt-MESSAGE_LIMIT.ensures)

pub returns-else-message-gt-MESSAGE_LIMIT : goal.returns-else-message-gt-MESSAGE_LIMIT
unfolding start_turn unless
returns-else-message-gt-MESSAGE_LIMIT c =
    rw (← c.before-passed.ensures, c.in-Ok.is, le-leb _ _ c.if-message-gt-MESSAGE_LIMIT.false)
    (c.begin.ensures c.args.store.now)
