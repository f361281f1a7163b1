-- The pairs that are left decide. A length is below 2 ^ 32, so the end of the last part fits.
-- Assumes nothing.
use Prim.Native.Nat.{◌+◌, ◌*◌, ◌-◌, ◌≤◌}
use mathlib.Core.Path.{◌≡◌}
use Rattle.layout.specs.LaidOut.{tiles}
use Rattle.frame.proofs.tiled.Given as goal

abbrev pub invariant-loop-i : goal.invariant-loop-i
invariant-loop-i l = (tiles l.s (32 + 8 * l.i) (l.pairs - l.i) l.at ≡ tiles l.s 32 l.pairs (32 + 8 * l.pairs)) × (l.i ≤ l.pairs)
    × (l.at + 0x1_0000_0000 * (l.pairs - l.i) ≤ 0x2_0000_0000_0000)
