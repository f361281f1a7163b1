-- `gather_shares`: by the verdict.
-- Assumes nothing.
use borrow.Author.Rules.{rules}
use Rattle.state.proofs.Shape.{shape}
use Rattle.share_verdicts.specs.declared.Verdict.TheVariants.{Refused, Unended, Good}
use Rattle.share_gather.proofs.Freeing.{row_low, slot-few}
use Rattle.share_gather.proofs.Answering.{asked, waiter_told, taking, unawaited_did, wrong-did, refused_did, unended_did, good_did}
use mathlib.Core.Path.{sym, ◌∙◌}
use native.Mathlib.Omega.{arith}
use Rattle.std.proofs.lemmas.Grind.{common_steps}
use Rattle.share_gather.proofs.gather_shares.Goals as goal

pub decide-requires : goal.decide-requires
decide-requires c = asked c.requires

pub freed-requires : goal.freed-requires
freed-requires c = (
  row_low _ _ _ _ _ c.requires.within
      (waiter_told _ _ c.requires.header _ _ _ c.decide.ensures (Refused _ _ _)
      c.in-Refused.is),
  slot-few _ _ _ _ _ c.requires.within
      (waiter_told _ _ c.requires.header _ _ _ c.decide.ensures (Refused _ _ _)
      c.in-Refused.is),
)

pub freed-requires-in-Unended : goal.freed-requires-in-Unended
freed-requires-in-Unended c = (
  row_low _ _ _ _ _ c.requires.within
      (waiter_told _ _ c.requires.header _ _ _ c.decide.ensures (Unended _ _)
      c.in-Unended.is),
  slot-few _ _ _ _ _ c.requires.within
      (waiter_told _ _ c.requires.header _ _ _ c.decide.ensures (Unended _ _)
      c.in-Unended.is),
)

pub freed-t-requires : goal.freed-t-requires
freed-t-requires c = (
  row_low _ _ _ _ _ c.requires.within
      (waiter_told _ _ c.requires.header _ _ _ c.decide.ensures (Good _ _)
      c.in-Good.is),
  slot-few _ _ _ _ _ c.requires.within
      (waiter_told _ _ c.requires.header _ _ _ c.decide.ensures (Good _ _)
      c.in-Good.is),
)

pub take_shares-requires : goal.take_shares-requires
take_shares-requires c =
    rw c.freed-t.ensures
    (taking _ _ c.requires.header _ _ _ c.decide.ensures _ _ (shape _ _ c.well_formed.0)
    c.in-Good.is c.requires)

pub returns-in-Unawaited : goal.returns-in-Unawaited
returns-in-Unawaited c =
    unawaited_did _ _ c.requires.header _ _ _ c.decide.ensures _ c.in-Unawaited.is
    c.quiet.ensures

pub returns-in-Wrong : goal.returns-in-Wrong
returns-in-Wrong c =
    wrong-did _ _ c.requires.header _ _ _ c.decide.ensures _ _ _ _
    c.in-Wrong.is c.mismatched.ensures

pub returns-in-Refused : goal.returns-in-Refused
returns-in-Refused c =
    refused_did _ _ c.requires.header _ _ _ c.decide.ensures _ _ _ _ c.freed.ensures _
    c.in-Refused.is c.blaming.ensures

pub returns-in-Unended : goal.returns-in-Unended
returns-in-Unended c =
    unended_did _ _ c.requires.header _ _ _ c.decide.ensures _ _ _ _ c.freed-in-Unended.ensures
    c.in-Unended.is c.quiet-in-Unended.ensures

pub returns-in-Good : goal.returns-in-Good
returns-in-Good c =
    good_did _ _ c.requires.header _ _ _ c.decide.ensures _ _ _ _ c.freed-t.ensures
    _ _ c.in-Good.is c.take_shares.ensures
