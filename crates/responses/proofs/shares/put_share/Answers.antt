-- `put_share`: the id, z_i and the key ids, each where the last ends.
-- Assumes nothing.
use Prim.Native.Nat.{◌+◌}
use native.Mathlib.Omega.{arith}
use Rattle.wire.proofs.Buffer.{put_next}
use Rattle.layout.specs.Encode.{share_bytes}
use Rattle.framing.proofs.Laws.{put-field}
use Rattle.responses.proofs.shares.put_share.Goals as goal

pub returns : goal.returns
unfolding share_bytes
returns c =
    let at = c.args.at in
    rw (
      c.put_ids.ensures,
      c.copy.ensures,
      c.copy_from_slice.ensures.after,
      c.put_number.ensures,
      put_next _ (at + 4) c.args.z_i.now (at + 36) _ (omega (arith, c.requires.1)),
    )
    (put-field _ at 4 c.args.id _)
