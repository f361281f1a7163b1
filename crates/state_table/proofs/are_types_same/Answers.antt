-- By the two matches.
-- Assumes nothing.
use borrow.Author.Rules.{rules}
use mathlib.Core.Path.{sym, ◌∙◌, ap, ap₂}
use Rattle.state_table.specs.States.{types_agree, StateType}
use native.Mathlib.Omega.{arith}
use Rattle.std.proofs.lemmas.Grind.{common_steps}
use Rattle.state_table.proofs.are_types_same.Goals as goal

pub returns-in-None : goal.returns-in-None
unfolding types_agree
returns-in-None c =
    let x = c.args in
    sym (ap (λ (b : StateType). types_agree x.a x.a_root b x.b_root) c.in-None.is)

pub returns-in-None-a : goal.returns-in-None-a
unfolding types_agree
returns-in-None-a c =
    let x = c.args in
    sym
    (ap₂ (λ (a b : StateType). types_agree a x.a_root b x.b_root) c.in-None-a.is
    c.in-Some.is)

pub returns-in-Some-a : goal.returns-in-Some-a
unfolding types_agree
returns-in-Some-a c =
    let x = c.args in
    c.is_same_type.ensures
    ∙ sym
    (ap₂ (λ (a b : StateType). types_agree a x.a_root b x.b_root) c.in-Some-a.is
    c.in-Some.is)
