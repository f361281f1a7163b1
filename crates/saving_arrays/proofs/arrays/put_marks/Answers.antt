-- `put_marks`: ten flags, twice.
-- Assumes nothing.
use native.Mathlib.Omega.{arith}
use Rattle.form.specs.Form.{pieces}
use Rattle.form.proofs.Writing.{then, last, written}
use Rattle.state_bytes.specs.Description.{marks_form}
use Rattle.saving_arrays.proofs.arrays.put_marks.Goals as goal

pub returns-clause-written : goal.returns-clause-written
unfolding pieces marks_form
returns-clause-written c =
    written
    (then c.put_each.ensures.long (omega arith) c.put_each.ensures.written
    (last c.put_each-2.ensures.written))
