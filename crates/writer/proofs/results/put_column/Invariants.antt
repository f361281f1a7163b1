-- `put_column`: what is still to be written completes the column.
-- Assumes nothing.
use Prim.Native.Nat.{◌≤◌, ◌+◌, ◌*◌}
use mathlib.Core.List.{map}
use Rattle.pieces.specs.Places.{arrival_of}
use Rattle.writer.specs.Columns.{column_of}
use Rattle.writer.proofs.Numbers.{Putting}
use Rattle.writer.proofs.results.put_column.Given as goal

abbrev pub invariant-loop-a : goal.invariant-loop-a
invariant-loop-a l = (l.next ≤ l.at + 8 * l.a-index)
    × Putting l.w (map (column_of l.column) (map arrival_of l.a-items)) l.initial.out l.at l.out l.next l.a-index
