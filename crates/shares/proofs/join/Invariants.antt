-- `join`: the keys so far, then those still to come, are the two lists.
-- Assumes nothing.
use Prim.Native.Nat.{◌+◌, ◌≤◌}
use mathlib.Core.Path.{◌≡◌}
use mathlib.Core.List.{◌++◌}
use lib.ListN.{length, drop}
use Rattle.validity.proofs.Places.{keys}
use Rattle.shares.proofs.join.Given as goal

abbrev pub invariant-loop-i : goal.invariant-loop-i
invariant-loop-i l =
    (length l.ids ≡ 16) × (l.count ≡ l.initial.count + l.i)
    × (keys l.count l.ids ++ drop l.i (keys l.more.count l.more.ids) ≡ keys l.initial.count l.initial.ids ++ keys l.more.count l.more.ids)
