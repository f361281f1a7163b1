-- `put_all_share_pairs`: what is still to be written completes the table.
-- Assumes nothing.
use Prim.Native.Nat.{◌+◌, ◌*◌}
use mathlib.Core.Path.{◌≡◌}
use mathlib.Core.List.{map}
use lib.ListN.{length, drop}
use Rattle.wire.specs.Bytes.{put, joined}
use Rattle.framing.specs.Writing.{pairs, total}
use Rattle.job.specs.Job.{share_lengths}
use Rattle.job.proofs.put_all_share_pairs.Given as goal

abbrev pub invariant-loop-p : goal.invariant-loop-p
invariant-loop-p l = (l.next.pair + 8 * length (joined (map share_lengths (drop l.p-index l.p-items)))
    ≡ l.initial.next.pair + 8 * length (joined (map share_lengths l.p-items)))
    × (l.next.at + total (joined (map share_lengths (drop l.p-index l.p-items)))
    ≡ l.initial.next.at + total (joined (map share_lengths l.p-items)))
    × (put l.out l.next.pair (pairs l.next.at (joined (map share_lengths (drop l.p-index l.p-items))))
    ≡ put l.initial.out l.initial.next.pair (pairs l.initial.next.at (joined (map share_lengths l.p-items))))
