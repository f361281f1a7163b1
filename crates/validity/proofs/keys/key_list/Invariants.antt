-- `key_list`: the first i places hold the first i ids of the part, the others 0.
-- Assumes nothing.
use Prim.Native.Nat.{min, ◌/◌, ◌≤◌}
use mathlib.Core.Path.{◌≡◌}
use lib.ListN.{length, take}
use Rattle.layout.specs.Limits.{list_limit}
use Rattle.layout.specs.Decode.{ids_in}
use Rattle.validity.specs.Keys.{key_places}
use Rattle.validity.proofs.keys.key_list.Given as goal

abbrev pub invariant-loop-i : goal.invariant-loop-i
invariant-loop-i l = (length l.ids ≡ list_limit) × (l.count ≡ min (length l.s / 4) list_limit) × (l.i ≤ l.count) × (l.ids ≡ key_places (take l.i (ids_in l.s)))
