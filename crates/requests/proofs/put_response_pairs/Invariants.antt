-- `put_response_pairs`: what is still to be written completes the table.
-- Assumes nothing.
use Prim.Native.Nat.{◌+◌, ◌*◌}
use mathlib.Core.Path.{◌≡◌}
use mathlib.Core.List.{map}
use lib.ListN.{drop}
use Rattle.wire.specs.Bytes.{put}
use Rattle.framing.specs.Writing.{pairs, total}
use Rattle.pieces.specs.Places.{response_length}
use Rattle.requests.proofs.put_response_pairs.Given as goal

abbrev pub invariant-loop-place : goal.invariant-loop-place
invariant-loop-place l = (l.next.pair ≡ 48 + 8 * l.place-index)
    × (l.next.at + total (map response_length (drop l.place-index l.place-items))
    ≡ l.initial.next.at + total (map response_length l.place-items))
    × (put l.out l.next.pair (pairs l.next.at (map response_length (drop l.place-index l.place-items)))
    ≡ put l.initial.out 48 (pairs l.initial.next.at (map response_length l.place-items)))
