-- `put_shares`: what is still to be written completes the shares.
-- Assumes nothing.
use Prim.Native.Nat.{◌+◌, ◌*◌}
use mathlib.Core.Path.{◌≡◌}
use mathlib.Core.List.{map}
use lib.ListN.{length, drop}
use Rattle.wire.specs.Bytes.{put, joined}
use Rattle.layout.specs.Encode.{share_bytes}
use Rattle.framing.specs.Writing.{total}
use Rattle.responses.specs.Responses.{shares_given}
use Rattle.responses.proofs.shares.put_shares.Given as goal

abbrev pub invariant-loop-i : goal.invariant-loop-i
invariant-loop-i l = (l.keys_from + total (drop l.i l.key_counts) ≡ length l.key_ids) × (l.next ≡ l.at + 36 * l.i + 4 * l.keys_from)
    × (put l.out l.next
    (joined (map share_bytes (shares_given (drop l.i l.share_ids) (drop (l.i * 32) l.z_i) (drop l.i l.key_counts) (drop l.keys_from l.key_ids))))
    ≡ put l.initial.out l.at (joined (map share_bytes (shares_given l.share_ids l.z_i l.key_counts l.key_ids))))
