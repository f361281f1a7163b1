-- `idle`: by the packet's kind.
-- Assumes nothing.
use Rattle.std.proofs.Common.{rules}
use Rattle.idle.proofs.Turns.{request_did, unheard-did, begin-15-did, begin-did}
use mathlib.Core.Path.{sym, ◌∙◌}
use native.Mathlib.Omega.{arith}
use Rattle.std.proofs.lemmas.Grind.{common_steps}
use Rattle.idle.proofs.idle.Goals as goal

pub nonce_request-requires : goal.nonce_request-requires
nonce_request-requires c = (c.requires, c.if-h-eq1.true)

pub returns-then-h-eq1 : goal.returns-then-h-eq1
returns-then-h-eq1 c store =
    request_did _ _ _ _ c.requires.header store _ c.if-h-eq1.true
    (c.nonce_request.ensures store)

pub returns-then-h-ne5 : goal.returns-then-h-ne5
returns-then-h-ne5 c store =
    unheard-did _ _ _ _ c.requires.header store c.if-h-eq1.false c.if-h-ne5.true c.quiet.ensures

pub returns-then-h-s : goal.returns-then-h-s
returns-then-h-s c store =
    begin-15-did _ _ _ _ c.requires.header store c.if-h-ne5.false c.if-h-s.true c.refused.ensures

pub returns : goal.returns
returns c store =
    begin-did _ _ _ _ c.requires.header store c.if-h-ne5.false c.if-h-s.false c.quiet-2.ensures
