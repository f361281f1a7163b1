-- `add`: the record opened, two writes, the slot set.
-- Assumes nothing.
use native.Mathlib.Omega.{arith}
use Rattle.records.proofs.Adding.{add_done}
use Rattle.records.proofs.records.add.Goals as goal

pub returns : goal.returns
returns c =
    let a = c.args in
    let done =
    add_done a.records _ _ _ _ a.clock a.r a.i _ c.open-after.ensures.value c.open-after.ensures.store_after
    c.copy.ensures c.copy-2.ensures (omega arith) (omega arith) in
    record { value = done.0; store_after = done.1 }
