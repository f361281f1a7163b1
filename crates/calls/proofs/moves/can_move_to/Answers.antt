use mathlib.Core.Path.{refl, sym, ap, ◌∙◌}
use mathlib.Core.Bool.{Bool}
use mathlib.Core.List.{[], ◌∷◌}
use Rattle.step_definition.specs.Calls as A
use Rattle.step_definition.specs.Step.{yes_no}
use Rattle.state.proofs.Turns.{refused_did}
use Rattle.calls.proofs.Turns.{bare_did}
use Rattle.state.specs.Turns.{said, answer_of, telling_answer}
use Rattle.calls.specs.Calls.{move_turn}
use Rattle.calls.proofs.moves.can_move_to.Goals as goal

-- src/moves.rt:13:1
pub returns-in-Err : goal.returns-in-Err
unfolding move_turn
returns-in-Err c = refused_did _ _ _ (sym c.before-passed.ensures ∙ c.in-Err.is) c.refused.ensures

-- src/moves.rt:13:1
pub returns-then-can_move_to : goal.returns-then-can_move_to
unfolding move_turn said answer_of
returns-then-can_move_to c =
    bare_did _ _ _ (sym c.before-passed.ensures ∙ c.in-Ok.is)
    c.telling.ensures (ap (λ (b : Bool). telling_answer (yes_no b)) (sym c.if-can_move_to.true ∙ c.can_move_to.ensures)) (ap (λ (b : Bool). A.telling (yes_no b ∷ [])) (sym c.if-can_move_to.true ∙ c.can_move_to.ensures)) refl

-- src/moves.rt:13:1
pub returns-else-can_move_to : goal.returns-else-can_move_to
unfolding move_turn said answer_of
returns-else-can_move_to c =
    bare_did _ _ _ (sym c.before-passed.ensures ∙ c.in-Ok.is)
    c.telling-else-can_move_to.ensures (ap (λ (b : Bool). telling_answer (yes_no b)) (sym c.if-can_move_to.false ∙ c.can_move_to.ensures)) (ap (λ (b : Bool). A.telling (yes_no b ∷ [])) (sym c.if-can_move_to.false ∙ c.can_move_to.ensures)) refl
