-- `put_each`: the first i elements are written.
-- Assumes nothing.
use Rattle.form.proofs.Writing.{EachWrote}
use Rattle.saving_arrays.proofs.arrays.put_each.Given as goal

abbrev pub invariant-loop-i : goal.invariant-loop-i
invariant-loop-i g l = EachWrote g.T.Element.form l.items l.initial.out l.at l.out l.i
