-- `is_sender_known`: kinds that signers send name a slot, or nobody's.
-- Assumes nothing.
use borrow.Author.Rules.{rules}
use borrow.Author.Tests.{not-true, not-false}
use mathlib.Core.Path.{sym, ◌∙◌}
use Rattle.messages.specs.Verified.{sender_known}
use native.Mathlib.Omega.{arith}
use Rattle.std.proofs.lemmas.Grind.{common_steps}
use Rattle.messages.proofs.verified.is_sender_known.Goals as goal

pub returns-then-not-is_signer_kind : goal.returns-then-not-is_signer_kind
unfolding sender_known
returns-then-not-is_signer_kind c = rw (← c.is_signer_kind.ensures, c.if-not-is_signer_kind.true)

pub returns-in-Some : goal.returns-in-Some
unfolding sender_known
returns-in-Some c =
    rw (
      ← c.is_signer_kind.ensures,
      c.if-not-is_signer_kind.false,
      (sym c.slot_of-found.ensures ∙ c.in-Some.is),
    )

pub returns-in-None : goal.returns-in-None
unfolding sender_known
returns-in-None c =
    rw (
      ← c.is_signer_kind.ensures,
      c.if-not-is_signer_kind.false,
      (sym c.slot_of-found.ensures ∙ c.in-None.is),
    )
