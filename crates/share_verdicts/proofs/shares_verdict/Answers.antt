-- `shares_verdict`: three tests, one by one.
-- Assumes nothing.
use mathlib.Core.Bool.{false}
use mathlib.Core.Path.{ap}
use lib.ListN.{get_or}
use native.Mathlib.Omega.{arith}
use borrow.Author.Tests.{not-true, not-false}
use Rattle.validity.specs.declared.keys.KeyComparison.{KeyComparison}
use Rattle.state.specs.View.{no_entry}
use Rattle.share_verdicts.specs.Verdicts.{shares_verdict}
use mathlib.Core.Path.{sym, ◌∙◌}
use borrow.Author.Rules.{rules}
use Rattle.std.proofs.lemmas.Grind.{common_steps}
use Rattle.share_verdicts.proofs.shares_verdict.Goals as goal

pub returns-then-not-s-i : goal.returns-then-not-s-i
unfolding shares_verdict
returns-then-not-s-i c =
    rw (not-true (get_or c.args.s.now.marks.ended c.args.i false) c.if-not-s-i.true-raw)

pub returns-then-not-entry : goal.returns-then-not-entry
unfolding shares_verdict
returns-then-not-entry c =
    rw (
      not-false (get_or c.args.s.now.marks.ended c.args.i false) c.if-not-s-i.false-raw,
      c.if-not-entry.true,
    )

pub share_keys-list-requires : goal.share_keys-list-requires
share_keys-list-requires c =
    c.requires.0

pub returns-then-not-compare : goal.returns-then-not-compare
unfolding shares_verdict
returns-then-not-compare c =
    rw (
      not-false (get_or c.args.s.now.marks.ended c.args.i false) c.if-not-s-i.false-raw,
      c.if-not-entry.false,
      ← c.share_keys-list.ensures,
      ← ap (λ (k : KeyComparison). k.same) c.compare.ensures,
      not-true c.compare.result.same c.if-not-compare.true,
    )

pub returns : goal.returns
unfolding shares_verdict
returns c =
    rw (
      not-false (get_or c.args.s.now.marks.ended c.args.i false) c.if-not-s-i.false-raw,
      c.if-not-entry.false,
      ← c.share_keys-list.ensures,
      ← ap (λ (k : KeyComparison). k.same) c.compare.ensures,
      not-false c.compare.result.same c.if-not-compare.false,
    )
