-- `put_ids`: what is still to be written completes the list.
-- Assumes nothing.
use mathlib.Core.Path.{◌∙◌}
use native.Mathlib.Omega.{arith}
use Prim.Native.Nat.{◌+◌, ◌*◌}
use lib.ListN.{drop_of_length-le}
use Rattle.wire.specs.Bytes.{put}
use Rattle.layout.specs.Encode.{id_bytes}
use Rattle.responses.proofs.Walks.{put_id_next}
use Rattle.responses.proofs.lists.put_ids.Goals as goal

pub loop-i-preserved : goal.loop-i-preserved
loop-i-preserved c =
    let l = c.loop-i in
    rw c.put_number.ensures (put_id_next l.out (c.args.at + 4 * l.i) _ _ l.i (omega arith) c.loop-i-test.true ∙ l.invariant)

-- nothing is left to write after the loop
pub returns : goal.returns
unfolding id_bytes put
returns c = rw (drop_of_length-le c.args.ids.now {i = c.loop-i.i} c.loop-i-test.false) at c.loop-i.invariant
