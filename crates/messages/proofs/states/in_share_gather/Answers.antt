-- `in_share_gather`: kind 4, or nothing.
-- Assumes nothing.
use borrow.Author.Rules.{rules}
use Rattle.messages.proofs.Taken.{shareable}
use Rattle.messages.proofs.Turns.{no_shares_did, shares_did}
use mathlib.Core.Path.{sym, ◌∙◌}
use native.Mathlib.Omega.{arith}
use Rattle.std.proofs.lemmas.Grind.{common_steps}
use Rattle.messages.proofs.states.in_share_gather.Goals as goal

pub returns-then-h-ne4 : goal.returns-then-h-ne4
returns-then-h-ne4 c =
    no_shares_did 0 _ _ _ _ _ c.requires.header c.if-h-ne4.true c.quiet.ensures

pub gather_shares-requires : goal.gather_shares-requires
gather_shares-requires c = shareable c.requires c.if-h-ne4.false

pub returns : goal.returns
returns c =
    shares_did 0 _ _ _ _ _ c.requires.header _ _ c.if-h-ne4.false c.gather_shares.ensures
