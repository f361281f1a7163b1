-- The bytes that there is room for.
-- Assumes nothing.
use native.Mathlib.Omega.{arith}
use Rattle.wire.proofs.Std.{put_room}
use Rattle.wire.proofs.copy_partly.Goals as goal

pub returns-then-at-out : goal.returns-then-at-out
returns-then-at-out c =
    let a = c.args in
    put_room a.out.now a.at _ a.src.now _ (omega arith) (omega arith) c.overwrite.ensures
