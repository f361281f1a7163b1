-- `put_ids`: what is still to be written completes the list.
-- Assumes nothing.
use Prim.Native.Nat.{◌+◌, ◌*◌}
use mathlib.Core.Path.{◌≡◌}
use lib.ListN.{drop}
use Rattle.wire.specs.Bytes.{put}
use Rattle.layout.specs.Encode.{id_bytes}
use Rattle.responses.proofs.lists.put_ids.Given as goal

abbrev pub invariant-loop-i : goal.invariant-loop-i
invariant-loop-i l = put l.out (l.at + 4 * l.i) (id_bytes (drop l.i l.ids)) ≡ put l.initial.out l.at (id_bytes l.ids)
