-- Refused before, or asked.
-- Assumes nothing.
use borrow.Author.Rules.{rules}
use borrow.Author.Tests.{le-leb, lt-leb}
use Rattle.frame.proofs.Flags.{says_no, says_yes}
use Rattle.state.proofs.Turns.{error_did}
use Rattle.library_start.specs.Given.{moved_turn}
use mathlib.Core.Path.{sym, ◌∙◌}
use native.Mathlib.Omega.{arith}
use Rattle.std.proofs.lemmas.Grind.{common_steps}
use Rattle.library_start.proofs.moves.Goals as goal

pub returns-then-next-gt-LAST_STATE : goal.returns-then-next-gt-LAST_STATE
unfolding moved_turn
returns-then-next-gt-LAST_STATE c = rw (lt-leb _ _ c.if-next-gt-LAST_STATE.true) (error_did _ _ c.refused.ensures)

pub returns-then-not-type_said : goal.returns-then-not-type_said
unfolding moved_turn
returns-then-not-type_said c =
    rw (le-leb _ _ c.if-next-gt-LAST_STATE.false, (sym c.type_said.ensures ∙ c.if-not-type_said.true))
    (error_did _ _ c.refused-then-not-type_said.ensures)

pub returns : goal.returns
unfolding moved_turn
returns c =
    rw (le-leb _ _ c.if-next-gt-LAST_STATE.false, (sym c.type_said.ensures ∙ c.if-not-type_said.false))
    (rw (← c.signature_type-t.ensures, ← c.state_for-to.ensures, ← c.root_given-root.ensures)
    c.can_move_to.ensures)
