-- What is the same so far, and what is still to be compared.
-- Assumes nothing.
use mathlib.Core.Path.{◌≡◌}
use mathlib.Core.Bool.{◌&&◌}
use lib.ListN.{drop}
use Rattle.wire.specs.Bytes.{are_same_bytes}
use Rattle.wire.proofs.same.Given as goal

abbrev pub invariant-loop-i : goal.invariant-loop-i
invariant-loop-i l = (l.so_far && are_same_bytes (drop l.i l.a) (drop l.i l.b)) ≡ are_same_bytes l.a l.b
