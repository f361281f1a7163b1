-- `is_distinct`: those before i are distinct, and their last bytes are noted.
-- Assumes nothing.
use mathlib.Core.Path.{◌≡◌}
use mathlib.Core.Bool.{true}
use lib.ListN.{length, take}
use Rattle.step_definition.specs.Ids.{distinct}
use Rattle.validity.specs.Notes.{Noted}
use Rattle.id_lists.proofs.is_distinct.Given as goal

abbrev pub invariant-loop-i : goal.invariant-loop-i
invariant-loop-i l = (length l.seen ≡ 256) × (distinct (take l.i l.ids) ≡ true) × Noted l.seen (take l.i l.ids)
