-- `nonce_request`: the current sign id, or a start.
-- Assumes nothing.
use Rattle.std.proofs.Common.{rules}
use Rattle.idle.proofs.Turns.{current-did, another-did}
use mathlib.Core.Path.{sym, ◌∙◌}
use native.Mathlib.Omega.{arith}
use Rattle.std.proofs.lemmas.Grind.{common_steps}
use Rattle.idle.proofs.nonce_request.Goals as goal

pub returns-then-h-s : goal.returns-then-h-s
returns-then-h-s c store =
    current-did _ _ _ _ c.requires.0.header store c.if-h-s.true c.quiet.ensures

pub begin-requires : goal.begin-requires
begin-requires c =
    (rw c.message.ensures.0 (c.requires.0.short c.requires.1), c.requires.0.wide)

pub returns : goal.returns
returns c store =
    another-did _ _ _ _ c.requires.0.header store _ _ _ _ c.if-h-s.false c.message.ensures.0
    (rw (c.root_of.ensures, c.signature_type.ensures, c.requires.0.header))
    c.with_iteration-t.ensures (c.begin.ensures store)
