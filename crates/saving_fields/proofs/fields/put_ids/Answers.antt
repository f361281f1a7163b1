-- `put_ids`: three numbers of eight bytes.
-- Assumes nothing.
use native.Mathlib.Omega.{arith}
use borrow.Author.Rules.{rules}
use Rattle.wire.specs.Bytes.{joined}
use Rattle.wire.proofs.Numbers.{length-le}
use Rattle.form.specs.Form.{pieces}
use Rattle.state_bytes.specs.Description.{ids_form}
use Rattle.form.proofs.Writing.{then, last, written}
use mathlib.Core.Path.{sym, ◌∙◌}
use Rattle.std.proofs.lemmas.Grind.{common_steps}
use Rattle.saving_fields.proofs.fields.put_ids.Goals as goal

pub returns : goal.returns
unfolding pieces ids_form
returns c =
    written
    (then (length-le 8 _) (omega arith) c.put_number.ensures
    (then (length-le 8 _) (omega arith) c.put_number-2.ensures
    (last c.put_number-3.ensures)))
