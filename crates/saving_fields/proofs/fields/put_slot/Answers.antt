-- `put_slot`: two flags, the ids, three numbers.
-- Assumes nothing.
use mathlib.Core.Path.{refl}
use native.Mathlib.Omega.{arith}
use borrow.Author.Rules.{rules}
use Rattle.wire.specs.Bytes.{joined}
use Rattle.wire.proofs.Numbers.{length-le}
use Rattle.form.specs.Form.{pieces}
use Rattle.state_bytes.specs.Description.{slot_form, ids_form}
use Rattle.state_bytes.proofs.Described.{ids-long}
use Rattle.form.proofs.Writing.{then, last, written}
use mathlib.Core.Path.{sym, ◌∙◌}
use Rattle.std.proofs.lemmas.Grind.{common_steps}
use Rattle.saving_fields.proofs.fields.put_slot.Goals as goal

pub returns : goal.returns
unfolding pieces slot_form ids_form
returns c =
    written
    (then refl (omega arith) c.put_flag.ensures
    (then refl (omega arith) c.put_flag-2.ensures
    (then (ids-long _) (omega arith) c.put_ids.ensures
    (then (length-le 8 _) (omega arith) c.put_number.ensures
    (then (length-le 8 _) (omega arith) c.put_number-2.ensures
    (last c.put_number-3.ensures))))))
