-- A signer's shares: a flag, a number, the counts.
-- Assumes nothing.
use mathlib.Core.Path.{refl}
use native.Mathlib.Omega.{arith}
use Rattle.wire.proofs.Numbers.{length-le}
use Rattle.form.specs.Form.{pieces}
use Rattle.form.proofs.Writing.{then, last, written}
use Rattle.state_bytes.specs.Description.{share_form}
use Rattle.saving_arrays.proofs.arrays.ShareSlotElement.put.Goals as goal

pub returns-clause-written : goal.returns-clause-written
unfolding pieces share_form
returns-clause-written c =
    written
    (then refl (omega arith) c.put_flag.ensures
    (then (length-le 8 _) (omega arith) c.put_number.ensures
    (last c.copy.ensures)))
