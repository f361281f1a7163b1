-- By the two tests; the roots are compared as bytes.
-- Assumes nothing.
use borrow.Author.Rules.{rules}
use mathlib.Core.Path.{sym, ◌∙◌}
use borrow.Author.Tests.{eq-eqb, ne_eqb}
use Rattle.layout.specs.Types.{type_number}
use Rattle.state_table.specs.States.{same_type}
use native.Mathlib.Omega.{arith}
use Rattle.std.proofs.lemmas.Grind.{common_steps}
use Rattle.state_table.proofs.is_same_type.Goals as goal

pub returns-then-n-type_number : goal.returns-then-n-type_number
unfolding same_type
returns-then-n-type_number c =
    let a = c.args in
    rw
    (ne_eqb (type_number a.a) (type_number a.b)
    (λ e. c.if-n-type_number.true (c.type_number-n.ensures ∙ e ∙ sym c.type_number.ensures)))

pub returns-then-n-ne3 : goal.returns-then-n-ne3
unfolding same_type
returns-then-n-ne3 c =
    let a = c.args in
    rw (
      eq-eqb (type_number a.a) (type_number a.b)
          (sym c.type_number-n.ensures ∙ c.if-n-type_number.false
          ∙ c.type_number.ensures),
      ne_eqb (type_number a.a) 3 (λ e. c.if-n-ne3.true (c.type_number-n.ensures ∙ e)),
    )

pub returns : goal.returns
unfolding same_type
returns c =
    let a = c.args in
    rw (
      eq-eqb (type_number a.a) (type_number a.b)
          (sym c.type_number-n.ensures ∙ c.if-n-type_number.false ∙ c.type_number.ensures),
      eq-eqb (type_number a.a) 3 (sym c.type_number-n.ensures ∙ c.if-n-ne3.false),
    ) c.same.ensures
