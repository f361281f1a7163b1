-- `each_at`: every element stands in its place.
-- Assumes nothing.
use native.Mathlib.Omega.{arith}
use Rattle.form.proofs.Reading.{each_read}
use Rattle.loading_arrays.proofs.arrays.each_at.Goals as goal

pub returns : goal.returns
returns g c =
    let v = c.loop-i in
    each_read g.T.Element.form c.args.s.now c.args.at g.row.N v.items v.invariant.0 (λ k d l. v.invariant.1 k d (omega (arith, c.loop-i-test.false, l)))
