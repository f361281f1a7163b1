-- `put_column`: what is still to be written completes the column.
-- Assumes nothing.
use Prim.Native.Nat.{◌≤◌}
use mathlib.Core.Path.{◌≡◌, refl, sym, ap, ◌∙◌}
use mathlib.Core.List.{map}
use native.Mathlib.Omega.{arith}
use lib.ListN.{length, length-map, get_or-map, length-take}
use Rattle.pieces.specs.Places.{arrival_of, arrivals_of}
use Rattle.writer.specs.declared.results.Column.{Column}
use Rattle.writer.specs.declared.results.Column.TheVariants.{Signers, Clocks}
use Rattle.writer.specs.Columns.{width, column_of}
use Rattle.writer.proofs.Numbers.{one_more, all_of_it, map_live}
use Rattle.writer.proofs.results.put_column.Goals as goal

narrow_go : (column : Column) → width column ≤ 8
narrow_go Signers = omega arith
narrow_go Clocks = omega arith

pub overflow_add-next : goal.overflow_add-next
overflow_add-next c =
    let narrow : c.width-w.result ≤ 8 = rw c.width-w.ensures (narrow_go c.args.column) in
    let few : length c.live-a-items.result.now ≤ c.args.list.now.count = rw (c.live-a-items.ensures, length-take) (omega arith) in
    omega arith

pub loop-a-preserved : goal.loop-a-preserved
loop-a-preserved c =
    let narrow : c.width-w.result ≤ 8 = rw c.width-w.ensures (narrow_go c.args.column) in
    let live = c.live-a-items.result.now in
    let column = c.args.column in
    let l = c.loop-a in (
      omega arith,
      rw (c.put_number.ensures, c.number.ensures)
          (one_more _ _ _ refl (rw (length-map, length-map) c.loop-a-test.true)
          (sym
          (get_or-map (column_of column) (map arrival_of live) l.a-index _ ∙ ap (column_of column) (get_or-map arrival_of live l.a-index _)))
          l.invariant.1),
    )

-- nothing is left to write after the loop
pub returns : goal.returns
unfolding arrivals_of
returns c =
    let list = c.args.list.now in
    let live = c.live-a-items in
    let all : map arrival_of live.result.now ≡ arrivals_of list = ap (map arrival_of) live.ensures ∙ map_live arrival_of list.arrivals list.count in
    rw (← c.width-w.ensures, ← all) (all_of_it (rw (length-map, length-map) c.loop-a-test.false) c.loop-a.invariant.1)
