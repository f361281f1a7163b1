-- `waiter_verdict`: waited for, then two ids, then the shares.
-- Assumes nothing.
use borrow.Author.Rules.{rules}
use borrow.Author.Tests.{eq-eqb, ne_eqb, not-true, not-false}
use Rattle.layout.specs.Decode.{share_response_in}
use Rattle.frame.proofs.Flags.{says_no, says_yes}
use Rattle.state.proofs.Within.{within, records_few}
use Rattle.share_verdicts.specs.Verdicts.{waiter_verdict}
use mathlib.Core.Path.{sym, ◌∙◌}
use native.Mathlib.Omega.{arith}
use Rattle.std.proofs.lemmas.Grind.{common_steps}
use Rattle.share_verdicts.proofs.waiter_verdict.Goals as goal

pub is_awaited-requires : goal.is_awaited-requires
is_awaited-requires c = (records_few _ (within _ c.requires.0.within), c.requires.1)

pub returns-then-not-is_awaited : goal.returns-then-not-is_awaited
unfolding waiter_verdict
returns-then-not-is_awaited c = rw (← c.is_awaited.ensures, c.if-not-is_awaited.true)

pub returns-then-got-current : goal.returns-then-got-current
unfolding waiter_verdict share_response_in
returns-then-got-current c =
    rw (
      ← c.requires.0.header,
      ← c.is_awaited.ensures,
      c.if-not-is_awaited.false,
      ne_eqb _ _ c.if-got-current.true,
    )

pub returns-then-got-current-2 : goal.returns-then-got-current-2
unfolding waiter_verdict share_response_in
returns-then-got-current-2 c =
    rw (
      ← c.requires.0.header,
      ← c.is_awaited.ensures,
      c.if-not-is_awaited.false,
      eq-eqb _ _ c.if-got-current.false,
      ne_eqb _ _ c.if-got-current-2.true,
    )

pub returns : goal.returns
unfolding waiter_verdict share_response_in
returns c =
    rw (
      ← c.requires.0.header,
      ← c.is_awaited.ensures,
      c.if-not-is_awaited.false,
      eq-eqb _ _ c.if-got-current.false,
      eq-eqb _ _ c.if-got-current-2.false,
    )
    c.shares_verdict.ensures
