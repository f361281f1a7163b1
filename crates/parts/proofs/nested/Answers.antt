-- The parts after message and root are the responses, taken one by one.
-- Assumes nothing.
use Prim.Native.Nat.{◌+◌, ◌*◌}
use mathlib.Core.Path.{◌≡◌}
use native.Mathlib.Omega.{arith}
use Rattle.layout.specs.LaidOut.{part_at}
use Rattle.parts.proofs.Taken.{nested_says}
use Rattle.parts.proofs.nested.Goals as goal

pub returns : goal.returns
returns c = let a = c.args in
    let e : 32 + 8 * (a.i + 2) ≡ 48 + 8 * a.i = omega arith in
    let p : c.part_at.result.now ≡ part_at a.s.now (48 + 8 * a.i) = rw e at c.part_at.ensures in
    (p, λ m t h. rw p (nested_says a.s.now a.i m t h))
