-- `put_share_pairs`: what is still to be written completes the table.
-- Assumes nothing.
use Prim.Native.Nat.{◌≤◌, ◌+◌, ◌*◌}
use mathlib.Core.Path.{◌≡◌}
use mathlib.Core.List.{map}
use lib.ListN.{drop}
use Rattle.wire.specs.Bytes.{put}
use Rattle.framing.specs.Writing.{pairs, total}
use Rattle.responses.specs.Responses.{share_length}
use Rattle.responses.proofs.shares.put_share_pairs.Given as goal

abbrev pub invariant-loop-n : goal.invariant-loop-n
invariant-loop-n l = (l.next.pair ≡ 32 + 8 * l.n-index)
    × (l.next.at + 4 * total (drop l.n-index l.key_counts) ≤ 160 + 36 * l.n-index + 64) × (total (drop l.n-index l.key_counts) ≤ 16)
    × (put l.out l.next.pair (pairs l.next.at (map share_length (drop l.n-index l.key_counts)))
    ≡ put l.initial.out 32 (pairs l.initial.next.at (map share_length l.key_counts)))
