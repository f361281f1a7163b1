-- Refused before, or started.
-- Assumes nothing.
use borrow.Author.Rules.{rules}
use Rattle.frame.proofs.Flags.{says_no, says_yes}
use Rattle.state.proofs.Turns.{error_did, answered_yes, answered_no}
use Rattle.library_start.specs.Given.{started_turn}
use mathlib.Core.Path.{sym, ◌∙◌}
use native.Mathlib.Omega.{arith}
use Rattle.std.proofs.lemmas.Grind.{common_steps}
use Rattle.library_start.proofs.start.Goals as goal

pub returns-then-not-type_said : goal.returns-then-not-type_said
unfolding started_turn
returns-then-not-type_said c =
    answered_no _ _ _ ((sym c.type_said.ensures ∙ c.if-not-type_said.true)) (error_did _ _ c.refused.ensures)

pub returns : goal.returns
unfolding started_turn
returns c =
    answered_yes _ _ _ ((sym c.type_said.ensures ∙ c.if-not-type_said.false))
    (rw (← c.signature_type-t.ensures, ← c.root_given-root.ensures) c.start_signing_round.ensures)
