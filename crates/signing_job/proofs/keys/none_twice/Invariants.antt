-- `none_twice`: no key is twice in the lists of the signers before, whose last bytes are noted.
-- Assumes nothing.
use Prim.Native.Nat.{◌*◌, ◌≤◌}
use mathlib.Core.Path.{◌≡◌}
use mathlib.Core.Bool.{true}
use lib.ListN.{length, take}
use Rattle.validity.specs.Notes.{Noted}
use Rattle.step_definition.specs.Ids.{distinct}
use Rattle.signing_job.proofs.SentKeys.{lists}
use Rattle.signing_job.proofs.keys.none_twice.Given as goal

abbrev pub invariant-loop-e : goal.invariant-loop-e
invariant-loop-e l = (length l.ids ≡ 160) × (length l.seen ≡ 256) × (l.joined ≤ 16 * l.e-index)
    × (take l.joined l.ids ≡ lists l.source l.r l.row (take l.e-index l.e-items))
    × (distinct (take l.joined l.ids) ≡ true)
    × Noted l.seen (take l.joined l.ids)
