-- `put_each`: the first i elements are written.
-- Assumes nothing.
use Prim.Native.Nat.{ℕ, ◌+◌, ◌*◌}
use mathlib.Core.Path.{sym, ap}
use Rattle.form.proofs.Writing.{none_wrote, each-wrote}
use Rattle.saving_arrays.proofs.arrays.put_each.Goals as goal

pub loop-i-init : goal.loop-i-init
loop-i-init g c = none_wrote

pub loop-i-preserved : goal.loop-i-preserved
loop-i-preserved g c =
    let place = ap (λ (n : ℕ). c.args.at + n * c.loop-i.i) (sym c.width.ensures) in
    each-wrote c.index-items-i.result c.index-items-i.is c.loop-i-test.true place c.loop-i.invariant c.put.ensures.written
    c.put.ensures.long
