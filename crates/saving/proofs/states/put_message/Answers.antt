-- `put_message`: 256 bytes, then the length.
-- Assumes nothing.
use native.Mathlib.Omega.{arith}
use Rattle.layout.specs.Limits.{message_limit}
use Rattle.form.specs.Form.{pieces}
use Rattle.state_bytes.specs.Description.{message_form}
use Rattle.form.proofs.Writing.{then, last, written}
use Rattle.saving.proofs.states.put_message.Goals as goal

pub returns-clause-written : goal.returns-clause-written
unfolding pieces message_form
returns-clause-written c =
    written
    (then {n = message_limit} (omega arith) (omega arith) c.copy.ensures
    (last c.put_number.ensures))
