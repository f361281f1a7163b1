-- `key_total`: the counts still to come complete the sum.
-- Assumes nothing.
use Prim.Native.Nat.{◌≤◌, ◌+◌, ◌*◌}
use mathlib.Core.Path.{◌≡◌}
use mathlib.Core.List.{map}
use lib.ListN.{drop}
use Rattle.state.specs.Counts.{sum, key_count}
use Rattle.state.proofs.counts.key_total.Given as goal

abbrev pub invariant-loop-e : goal.invariant-loop-e
invariant-loop-e l =
    (l.total ≤ 16 * l.e-index) × (l.total + sum (map key_count (drop l.e-index l.e-items)) ≡ sum (map key_count l.e-items))
