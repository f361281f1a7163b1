-- `put_shares`: what is still to be written completes the signer's shares.
-- Assumes nothing.
use Prim.Native.Nat.{◌+◌, ◌*◌}
use mathlib.Core.Path.{◌≡◌}
use mathlib.Core.List.{map}
use lib.ListN.{length, drop}
use Rattle.wire.specs.Bytes.{put, joined}
use Rattle.layout.specs.Encode.{share_bytes}
use Rattle.framing.specs.Writing.{total}
use Rattle.job.specs.Job.{shares_from, share_length}
use Rattle.job.proofs.put_shares.Given as goal

abbrev pub invariant-loop-n : goal.invariant-loop-n
invariant-loop-n l = (l.share_at + 36 * length (drop l.n-index l.n-items) ≡ l.initial.share_at + 36 * length l.n-items)
    × (l.keys_at + total (drop l.n-index l.n-items) * 4 ≡ l.initial.keys_at + total l.n-items * 4)
    × (l.next + total (map share_length (drop l.n-index l.n-items)) ≡ l.at + total (map share_length l.n-items))
    × (put l.out l.next (joined (map share_bytes (shares_from l.source l.share_at l.keys_at (drop l.n-index l.n-items))))
    ≡ put l.initial.out l.at (joined (map share_bytes (shares_from l.source l.initial.share_at l.initial.keys_at l.n-items))))
