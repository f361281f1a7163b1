-- What is done is as it shall be, byte by byte.
-- Assumes nothing.
use mathlib.Core.Path.{refl, sym, ◌∙◌}
use native.Mathlib.Omega.{arith}
use lib.ListN.{get_or, length-set}
use lib.Seq.{take_all}
use Rattle.std.proofs.lemmas.List.{take_more, take_more_set}
use Rattle.wire.proofs.overwrite.Goals as goal

pub loop-i-init : goal.loop-i-init
loop-i-init c = (refl, refl)

pub loop-i-preserved : goal.loop-i-preserved
loop-i-preserved c =
    let v = c.loop-i in
    let a = c.args in
    let x = get_or a.from.now v.i 0 in
    let long = v.invariant.0 in
    let all = c.requires in (
      length-set v.to v.i x ∙ long,
      take_more_set v.to v.i x (omega arith) ∙ rw v.invariant.1 (sym (take_more a.from.now v.i 0 (omega arith))),
    )

pub returns : goal.returns
returns c =
    let v = c.loop-i in
    let a = c.args in
    let long = v.invariant.0 in
    let all = c.requires in
    sym (take_all v.i v.to (omega arith)) ∙ v.invariant.1 ∙ take_all v.i a.from.now (omega arith)
