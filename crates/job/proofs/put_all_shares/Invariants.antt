-- `put_all_shares`: what is still to be written completes the shares.
-- Assumes nothing.
use Prim.Native.Nat.{◌+◌}
use mathlib.Core.Path.{◌≡◌}
use mathlib.Core.List.{map}
use lib.ListN.{drop}
use Rattle.wire.specs.Bytes.{put, joined}
use Rattle.layout.specs.Encode.{share_bytes}
use Rattle.framing.specs.Writing.{total}
use Rattle.job.specs.Job.{shares_of, share_lengths}
use Rattle.job.proofs.put_all_shares.Given as goal

abbrev pub invariant-loop-p : goal.invariant-loop-p
invariant-loop-p l = (l.next + total (joined (map share_lengths (drop l.p-index l.p-items))) ≡ l.at + total (joined (map share_lengths l.p-items)))
    × (put l.out l.next (joined (map share_bytes (shares_of l.source (drop l.p-index l.p-items))))
    ≡ put l.initial.out l.at (joined (map share_bytes (shares_of l.source l.p-items))))
