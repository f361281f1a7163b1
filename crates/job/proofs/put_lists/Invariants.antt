-- `put_lists`: what is still to be written completes the joined list.
-- Assumes nothing.
use Prim.Native.Nat.{◌+◌}
use mathlib.Core.Path.{◌≡◌}
use mathlib.Core.List.{map}
use lib.ListN.{drop}
use Rattle.wire.specs.Bytes.{put, joined}
use Rattle.framing.specs.Writing.{total}
use Rattle.job.specs.Job.{list_length, list_bytes}
use Rattle.job.proofs.put_lists.Given as goal

abbrev pub invariant-loop-p : goal.invariant-loop-p
invariant-loop-p l = (l.next + total (map (list_length l.list) (drop l.p-index l.p-items)) ≡ l.at + total (map (list_length l.list) l.p-items))
    × (put l.out l.next (joined (map (list_bytes l.list l.source) (drop l.p-index l.p-items)))
    ≡ put l.initial.out l.at (joined (map (list_bytes l.list l.source) l.p-items)))
