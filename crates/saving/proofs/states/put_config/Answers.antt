-- `put_config`: five numbers, the timeouts, the signers, their count and a flag.
-- Assumes nothing.
use native.Mathlib.Omega.{arith}
use Rattle.wire.proofs.Numbers.{length-le}
use Rattle.form.specs.Form.{pieces}
use Rattle.form.proofs.Writing.{then, last, written}
use Rattle.state_bytes.specs.Description.{reading_parts, reading_form, timeouts_form, key_form, signer_form, config_form}
use Rattle.state_bytes.proofs.Described.{timeouts-long}
use Rattle.saving.proofs.states.put_config.Goals as goal

pub returns-clause-written : goal.returns-clause-written
unfolding pieces reading_parts reading_form timeouts_form key_form signer_form config_form
returns-clause-written c =
    written
    (then (length-le 4 _) (omega arith) c.put_number.ensures
    (then (length-le 4 _) (omega arith) c.put_number-2.ensures
    (then (length-le 4 _) (omega arith) c.put_number-3.ensures
    (then (length-le 4 _) (omega arith) c.put_number-4.ensures
    (then (length-le 4 _) (omega arith) c.put_number-5.ensures
    (then (timeouts-long c.args.g.now.timeouts) (omega arith) c.put_timeouts.ensures
    (then c.put_each.ensures.long (omega arith) c.put_each.ensures.written
    (then (length-le 8 _) (omega arith) c.put_number-6.ensures
    (last c.put_flag.ensures)))))))))
