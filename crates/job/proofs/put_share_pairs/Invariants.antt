-- `put_share_pairs`: what is still to be written completes the signer's pairs.
-- Assumes nothing.
use Prim.Native.Nat.{◌+◌, ◌*◌}
use mathlib.Core.Path.{◌≡◌}
use mathlib.Core.List.{map}
use lib.ListN.{length, drop}
use Rattle.wire.specs.Bytes.{put}
use Rattle.framing.specs.Writing.{pairs, total}
use Rattle.job.specs.Job.{share_length}
use Rattle.job.proofs.put_share_pairs.Given as goal

abbrev pub invariant-loop-n : goal.invariant-loop-n
invariant-loop-n l = (l.next.pair + 8 * length (drop l.n-index l.n-items) ≡ l.initial.next.pair + 8 * length l.n-items)
    × (l.next.at + total (map share_length (drop l.n-index l.n-items)) ≡ l.initial.next.at + total (map share_length l.n-items))
    × (put l.out l.next.pair (pairs l.next.at (map share_length (drop l.n-index l.n-items)))
    ≡ put l.initial.out l.initial.next.pair (pairs l.initial.next.at (map share_length l.n-items)))
