-- Refused for a short buffer, or commissioned.
-- Assumes nothing.
use mathlib.Core.Bool.{false, false≢true}
use borrow.Author.Rules.{rules}
use borrow.Author.Tests.{le-leb, lt-leb}
use Rattle.state.proofs.Turns.{error_did}
use Rattle.interface.proofs.Call.{called}
use Rattle.coordinator_theorems.proofs.Quiet.{commission_loud}
use Rattle.library_commission.specs.Commissioned.{commissioned_turn}
use mathlib.Core.Path.{sym, ◌∙◌}
use native.Mathlib.Omega.{arith}
use Rattle.std.proofs.lemmas.Grind.{common_steps}
use Rattle.library_commission.proofs.commission.Goals as goal

pub returns-then-state-lt-STATE_LENGTH : goal.returns-then-state-lt-STATE_LENGTH
unfolding commissioned_turn
returns-then-state-lt-STATE_LENGTH c =
    rw (lt-leb _ _ c.if-state-lt-STATE_LENGTH.true)
    (called _ false _ (rw (← c.unsaved-none.ensures) (error_did _ _ c.refused-d.ensures))
    (c.keep.ensures.value, (c.keep.ensures.state_after, c.keep.ensures.saves)) (λ w q. absurd (false≢true w)))

pub returns : goal.returns
unfolding commissioned_turn
returns c =
    rw (le-leb _ _ c.if-state-lt-STATE_LENGTH.false, ← c.new_config-g.ensures)
    (called _ false _ c.commission-d.ensures (c.keep-2.ensures.value, (c.keep-2.ensures.state_after, c.keep-2.ensures.saves)) (λ w q. absurd (commission_loud _ _ q)))
