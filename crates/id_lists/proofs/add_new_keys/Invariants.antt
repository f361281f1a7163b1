-- `add_new_keys`: the first i keys are put and noted, and none of them was there.
-- Assumes nothing.
use Prim.Native.Nat.{◌+◌}
use mathlib.Core.Path.{◌≡◌}
use mathlib.Core.Bool.{true}
use mathlib.Core.List.{◌++◌}
use lib.ListN.{length, take}
use Rattle.validity.specs.Keys.{disjoint}
use Rattle.validity.specs.Notes.{Noted}
use Rattle.validity.proofs.Places.{keys}
use Rattle.id_lists.proofs.add_new_keys.Given as goal

abbrev pub invariant-loop-i : goal.invariant-loop-i
invariant-loop-i l = (length l.ids ≡ length l.initial.ids) × (length l.seen ≡ 256) × (take l.count l.ids ≡ take l.count l.initial.ids)
    × (take (l.count + l.i) l.ids ≡ take l.count l.initial.ids ++ keys l.i l.fn.list.ids)
    × (disjoint (take l.count l.initial.ids) (keys l.i l.fn.list.ids) ≡ true)
    × Noted l.seen (take l.count l.initial.ids ++ keys l.i l.fn.list.ids)
