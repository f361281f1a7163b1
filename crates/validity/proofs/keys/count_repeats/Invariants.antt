-- Those found so far and those still to come; the last bytes of the keys before i are noted.
-- Assumes nothing.
use Prim.Native.Nat.{◌+◌, ◌≤◌}
use mathlib.Core.Path.{◌≡◌}
use mathlib.Core.List.{map}
use lib.ListN.{length, take, drop}
use Rattle.validity.specs.Keys.{key_number, repeats, repeats_after}
use Rattle.validity.specs.Notes.{Noted}
use Rattle.validity.proofs.keys.count_repeats.Given as goal

abbrev pub invariant-loop-i : goal.invariant-loop-i
invariant-loop-i l = (length l.seen ≡ 256) × (l.found ≤ l.i)
    × (l.found + repeats_after (take l.i (map key_number l.list)) (drop l.i (map key_number l.list)) ≡ repeats (map key_number l.list))
    × Noted l.seen (take l.i (map key_number l.list))
