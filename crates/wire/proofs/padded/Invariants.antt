-- The bytes so far.
-- Assumes nothing.
use Rattle.std.proofs.Common.{◌≡◌, ◌<◌, ℕ, get_or, length}
use Rattle.wire.proofs.padded.Given as goal

abbrev pub invariant-loop-i : goal.invariant-loop-i
invariant-loop-i g l = (length l.place-items ≡ g.row.N) × ((k : ℕ) → k < l.i → get_or l.place-items k 0 ≡ get_or l.there k 0)
