-- `joined`: the flags of the first i places are joined.
-- Assumes nothing.
use mathlib.Core.Path.{◌≡◌}
use lib.ListN.{take}
use Rattle.share_timeout.specs.Exclusion.{joined_flags}
use Rattle.share_timeout.proofs.exclusion.joined.Given as goal

abbrev pub invariant-loop-i : goal.invariant-loop-i
invariant-loop-i l = l.flags ≡ joined_flags l.fn.a (take l.i l.fn.b)
