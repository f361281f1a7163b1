-- A signer: a number, a flag, the keys, their count.
-- Assumes nothing.
use mathlib.Core.Path.{refl}
use native.Mathlib.Omega.{arith}
use Rattle.wire.proofs.Numbers.{length-le}
use Rattle.form.specs.Form.{pieces}
use Rattle.form.proofs.Writing.{then, last, written}
use Rattle.state_bytes.specs.Description.{signer_form, key_form}
use Rattle.saving_arrays.proofs.arrays.SignerEntryElement.put.Goals as goal

pub returns-clause-written : goal.returns-clause-written
unfolding pieces signer_form key_form
returns-clause-written c =
    written
    (then (length-le 4 _) (omega arith) c.put_number.ensures
    (then refl (omega arith) c.put_flag.ensures
    (then c.put_each.ensures.long (omega arith) c.put_each.ensures.written
    (last c.put_number-2.ensures))))
