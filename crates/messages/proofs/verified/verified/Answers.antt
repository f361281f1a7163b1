-- `verified`: 13, then 14 of the sender and of the verdict.
-- Assumes nothing.
use borrow.Author.Rules.{rules}
use borrow.Author.Tests.{not-true, not-false}
use Rattle.messages.proofs.Sealed.{the_not_asked, asked_13, asked_14, seal_14, all_asked}
use mathlib.Core.Path.{sym, ◌∙◌}
use native.Mathlib.Omega.{arith}
use Rattle.std.proofs.lemmas.Grind.{common_steps}
use Rattle.messages.proofs.verified.verified.Goals as goal

pub returns-then-not-s : goal.returns-then-not-s
returns-then-not-s c = the_not_asked _ _ _ (not-true _ c.if-not-s.true)

pub returns-then-not-s-2 : goal.returns-then-not-s-2
returns-then-not-s-2 c = asked_13 _ _ _ (not-false _ c.if-not-s.false) (not-true _ c.if-not-s-2.true)

pub returns-then-not-is_sender_known : goal.returns-then-not-is_sender_known
returns-then-not-is_sender_known c =
    asked_14 _ _ _ (not-false _ c.if-not-s.false) (not-false _ c.if-not-s-2.false) _
    c.is_sender_known.ensures (c.if-not-is_sender_known.true)

pub returns-then-not-verdict : goal.returns-then-not-verdict
returns-then-not-verdict c =
    seal_14 _ _ _ (not-false _ c.if-not-s.false) (not-false _ c.if-not-s-2.false) _
    c.is_sender_known.ensures (c.if-not-is_sender_known.false) (c.if-not-verdict.true)

pub returns : goal.returns
returns c =
    all_asked _ _ _ (not-false _ c.if-not-s.false) (not-false _ c.if-not-s-2.false) _
    c.is_sender_known.ensures (c.if-not-is_sender_known.false) (c.if-not-verdict.false)
