-- `share_keys`: the counts still to come complete the sum.
-- Assumes nothing.
use Prim.Native.Nat.{ℕ, ◌≤◌, ◌+◌, ◌*◌}
use mathlib.Core.Path.{◌≡◌}
use mathlib.Core.List.{map}
use lib.ListN.{drop}
use Rattle.state.specs.Counts.{sum}
use Rattle.state.proofs.counts.share_keys.Given as goal

abbrev pub self : ℕ → ℕ
self n = n

abbrev pub invariant-loop-n : goal.invariant-loop-n
invariant-loop-n l = (l.total ≤ 255 * l.n-index) × (l.total + sum (map self (drop l.n-index l.n-items)) ≡ sum (map self l.n-items))
