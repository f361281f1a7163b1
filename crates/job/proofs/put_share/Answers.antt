-- `put_share`: id and z_i, then the key ids.
-- Assumes nothing.
use Prim.Native.Nat.{◌+◌}
use mathlib.Core.Path.{◌≡◌}
use native.Mathlib.Omega.{arith}
use lib.ListN.{length, take, drop, length-drop}
use lib.Seq.{length-take-le}
use Rattle.wire.proofs.Buffer.{put_next}
use Rattle.job.proofs.put_share.Goals as goal

pub returns : goal.returns
returns c =
    let a = c.args in
    let source = a.source.now in
    let size : length (take 36 (drop a.share_at source)) ≡ 36 =
    length-take-le 36 (drop a.share_at source) (rw length-drop (omega arith)) in
    rw (c.copy-2.ensures, c.copy.ensures, c.part.ensures, c.part-2.ensures) (put_next _ _ _ (a.at + 36) _ (omega arith))
