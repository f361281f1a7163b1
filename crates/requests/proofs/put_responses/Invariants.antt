-- `put_responses`: what is still to be written completes the nested packets.
-- Assumes nothing.
use Prim.Native.Nat.{◌+◌}
use mathlib.Core.Path.{◌≡◌}
use mathlib.Core.List.{map}
use lib.ListN.{drop}
use Rattle.wire.specs.Bytes.{put, joined}
use Rattle.layout.specs.Encode.{encode_response}
use Rattle.framing.specs.Writing.{total}
use Rattle.pieces.specs.Places.{response_length, response_at}
use Rattle.requests.proofs.put_responses.Given as goal

abbrev pub invariant-loop-place : goal.invariant-loop-place
invariant-loop-place l = (l.start + total (map response_length (drop l.place-index l.place-items)) ≡ l.at + total (map response_length l.place-items))
    × (put l.out l.start (joined (map encode_response (map (response_at l.source) (drop l.place-index l.place-items))))
    ≡ put l.initial.out l.at (joined (map encode_response (map (response_at l.source) l.place-items))))
