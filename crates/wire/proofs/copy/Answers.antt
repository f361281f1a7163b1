-- All bytes are written.
-- Assumes nothing.
use mathlib.Core.Path.{◌∙◌, sym}
use native.Mathlib.Omega.{arith}
use lib.Seq.{take_all}
use Rattle.wire.proofs.Std.{put_room}
use Rattle.wire.proofs.copy.Goals as goal

pub returns-then-at-out : goal.returns-then-at-out
returns-then-at-out c =
    let a = c.args in
    put_room a.out.now a.at _ a.src.now _ (omega arith) (omega arith)
    (c.overwrite.ensures ∙ sym (take_all _ a.src.now (omega arith)))
