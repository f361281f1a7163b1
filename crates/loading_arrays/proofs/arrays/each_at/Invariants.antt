-- `each_at`: the elements before stand in their places.
-- Assumes nothing.
use Prim.Native.Nat.{ℕ, ◌+◌, ◌*◌, ◌<◌}
use mathlib.Core.Path.{◌≡◌}
use lib.ListN.{length, get_or}
use Rattle.loading_arrays.proofs.arrays.each_at.Given as goal

abbrev pub invariant-loop-i : goal.invariant-loop-i
invariant-loop-i g l = (length l.items ≡ g.row.N)
    × ((k : ℕ) (d : g.row.T.Denot) → k < l.i → get_or l.items k d ≡ g.T.Element.form.load l.s (l.at + g.T.Element.form.width * k))
