-- `zero`: zeros up to i, then what was there.
-- Assumes nothing.
use mathlib.Core.Path.{◌≡◌}
use lib.ListN.{length}
use Rattle.commission.proofs.Zeros.{zeroed}
use Rattle.commission.proofs.store.zero.Given as goal

abbrev pub invariant-loop-i : goal.invariant-loop-i
invariant-loop-i l = (length l.store ≡ length l.initial.store) × (l.store ≡ zeroed l.initial.store l.i)
