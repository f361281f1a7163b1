-- `decide`: three ids, then the signer's slot.
-- Assumes nothing.
use mathlib.Core.Path.{sym, ◌∙◌}
use borrow.Author.Tests.{eq-eqb, ne_eqb}
use native.Mathlib.Omega.{arith}
use Rattle.records.specs.Verdicts.{verdict_of}
use Rattle.records.proofs.Asking.{slot_low}
use Rattle.records.proofs.verdicts.decide.Goals as goal

pub returns-then-got-s : goal.returns-then-got-s
unfolding verdict_of
returns-then-got-s c = rw (ne_eqb _ _ c.if-got-s.true)

pub returns-then-got-s-2 : goal.returns-then-got-s-2
unfolding verdict_of
returns-then-got-s-2 c = rw (eq-eqb _ _ c.if-got-s.false, ne_eqb _ _ c.if-got-s-2.true)

pub returns-then-got-s-3 : goal.returns-then-got-s-3
unfolding verdict_of
returns-then-got-s-3 c =
    rw (eq-eqb _ _ c.if-got-s.false, eq-eqb _ _ c.if-got-s-2.false, ne_eqb _ _ c.if-got-s-3.true)

pub verdict_at-requires : goal.verdict_at-requires
verdict_at-requires c =
    let low = slot_low c.args.s.config c.args.id.0 c.in-Some.i
    (sym c.slot_of.ensures ∙ c.in-Some.is) in
    (c.requires, omega (arith, c.requires.signers))

pub returns-in-None : goal.returns-in-None
unfolding verdict_of
returns-in-None c =
    rw (
      eq-eqb _ _ c.if-got-s.false,
      eq-eqb _ _ c.if-got-s-2.false,
      eq-eqb _ _ c.if-got-s-3.false,
      (sym c.slot_of.ensures ∙ c.in-None.is),
    )

pub returns-in-Some : goal.returns-in-Some
unfolding verdict_of
returns-in-Some c =
    rw (
      eq-eqb _ _ c.if-got-s.false,
      eq-eqb _ _ c.if-got-s-2.false,
      eq-eqb _ _ c.if-got-s-3.false,
      (sym c.slot_of.ensures ∙ c.in-Some.is),
    ) c.verdict_at.ensures
