-- What is the same so far, and what is still to be compared.
-- Assumes nothing.
use mathlib.Core.Path.{◌≡◌}
use mathlib.Core.Bool.{◌&&◌}
use mathlib.Core.List.{map}
use lib.ListN.{drop}
use Rattle.wire.specs.Bytes.{are_same_bytes}
use Rattle.validity.specs.Keys.{key_number}
use Rattle.validity.proofs.keys.is_equal.Given as goal

abbrev pub invariant-loop-i : goal.invariant-loop-i
invariant-loop-i l =
    (l.so_far && are_same_bytes (map key_number (drop l.i l.list)) (map key_number (drop l.i l.set)))
    ≡ are_same_bytes (map key_number l.list) (map key_number l.set)
