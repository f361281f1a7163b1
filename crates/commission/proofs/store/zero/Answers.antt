-- `zero`: zeros up to i, then what was there.
-- Assumes nothing.
use mathlib.Core.Path.{refl, ◌∙◌}
use native.Mathlib.Omega.{arith}
use lib.ListN.{length-set}
use Rattle.commission.proofs.Zeros.{zero_next, zero_done}
use Rattle.commission.proofs.store.zero.Goals as goal

pub loop-i-init : goal.loop-i-init
loop-i-init c = (refl, refl)

pub loop-i-preserved : goal.loop-i-preserved
loop-i-preserved c =
    let v = c.loop-i in
    (rw length-set v.invariant.0, rw v.invariant.1 (zero_next c.args.store.now v.i (omega arith)))

pub returns : goal.returns
returns c =
    let v = c.loop-i in
    v.invariant.1 ∙ zero_done c.args.store.now v.i (omega arith)
