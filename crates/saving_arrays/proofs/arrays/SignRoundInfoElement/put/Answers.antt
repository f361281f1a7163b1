-- A record: a number, then ten responses.
-- Assumes nothing.
use native.Mathlib.Omega.{arith}
use Rattle.wire.proofs.Numbers.{length-le}
use Rattle.form.specs.Form.{pieces}
use Rattle.form.proofs.Writing.{then, last, written}
use Rattle.state_bytes.specs.Description.{row_form}
use Rattle.saving_arrays.proofs.arrays.SignRoundInfoElement.put.Goals as goal

pub returns-clause-written : goal.returns-clause-written
unfolding pieces row_form
returns-clause-written c =
    written
    (then (length-le 8 _) (omega arith) c.put_number.ensures
    (last c.put_each.ensures.written))
