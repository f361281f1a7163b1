-- `put_keys`: two flags.
-- Assumes nothing.
use mathlib.Core.Path.{refl}
use native.Mathlib.Omega.{arith}
use borrow.Author.Rules.{rules}
use Rattle.wire.specs.Bytes.{joined}
use Rattle.form.specs.Form.{pieces}
use Rattle.state_bytes.specs.Description.{keys_form}
use Rattle.form.proofs.Writing.{then, last, written}
use mathlib.Core.Path.{sym, ◌∙◌}
use Rattle.std.proofs.lemmas.Grind.{common_steps}
use Rattle.saving_fields.proofs.fields.put_keys.Goals as goal

pub returns : goal.returns
unfolding pieces keys_form
returns c =
    written
    (then refl (omega arith) c.put_flag.ensures (last c.put_flag-2.ensures))
