-- `decide`: the signer's slot, then the current message's record.
-- Assumes nothing.
use mathlib.Core.Path.{sym, ◌∙◌}
use native.Mathlib.Omega.{arith}
use borrow.Author.Tests.{leb-true}
use Rattle.state.proofs.Within.{within, config_few, records_few}
use Rattle.records.proofs.Asking.{slot_low}
use Rattle.share_verdicts.specs.Verdicts.{verdict_of}
use Rattle.share_verdicts.proofs.Deciding.{slot-told}
use borrow.Author.Rules.{rules}
use Rattle.std.proofs.lemmas.Grind.{common_steps}
use Rattle.share_verdicts.proofs.decide.Goals as goal

pub waiter_verdict-requires : goal.waiter_verdict-requires
waiter_verdict-requires c =
    let low = slot_low c.args.s.config c.args.h.signer_id c.in-Some.i
    (sym c.slot_of-found.ensures ∙ c.in-Some.is) in
    (c.requires, omega (arith, config_few _ (within _ c.requires.within)))

pub returns-in-None : goal.returns-in-None
unfolding verdict_of
returns-in-None c =
    rw
    (slot-told _ _ c.requires.header
    (sym c.slot_of-found.ensures ∙ c.in-None.is))

pub returns-in-Some : goal.returns-in-Some
unfolding verdict_of
returns-in-Some c =
    rw (
      slot-told _ _ c.requires.header
          (sym c.slot_of-found.ensures ∙ c.in-Some.is),
      ← c.current_place-r.ensures,
    ) c.waiter_verdict.ensures
