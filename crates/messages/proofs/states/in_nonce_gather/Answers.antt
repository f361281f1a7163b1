-- `in_nonce_gather`: kind 2, or nothing.
-- Assumes nothing.
use borrow.Author.Rules.{rules}
use Rattle.messages.proofs.Taken.{gathering}
use Rattle.messages.proofs.Turns.{no_response_did, response-did}
use mathlib.Core.Path.{sym, ◌∙◌}
use native.Mathlib.Omega.{arith}
use Rattle.std.proofs.lemmas.Grind.{common_steps}
use Rattle.messages.proofs.states.in_nonce_gather.Goals as goal

pub returns-then-h-ne2 : goal.returns-then-h-ne2
returns-then-h-ne2 c =
    no_response_did _ _ _ _ _ _ c.requires.header c.if-h-ne2.true c.quiet.ensures

pub gather_nonces-requires : goal.gather_nonces-requires
gather_nonces-requires c =
    rw (c.message.ensures.0, c.key_ids.ensures.0, c.nonces.ensures.0)
    (gathering c.requires c.if-h-ne2.false)

pub returns : goal.returns
returns c =
    response-did _ _ _ _ _ _ c.requires.header _ _ _ _ _ c.if-h-ne2.false c.message.ensures.0
    c.key_ids.ensures.0 c.nonces.ensures.0
    c.gather_nonces.ensures
