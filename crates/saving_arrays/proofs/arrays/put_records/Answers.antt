-- `put_records`: four records, then their count.
-- Assumes nothing.
use native.Mathlib.Omega.{arith}
use Rattle.form.specs.Form.{pieces}
use Rattle.form.proofs.Writing.{then, last, written}
use Rattle.state_bytes.specs.Description.{records_form, row_form, slot_form, ids_form}
use Rattle.saving_arrays.proofs.arrays.put_records.Goals as goal

pub returns-clause-written : goal.returns-clause-written
unfolding pieces records_form row_form slot_form ids_form
returns-clause-written c =
    written
    (then c.put_each.ensures.long (omega arith) c.put_each.ensures.written
    (last c.put_number.ensures))
