-- `put_timeouts`: five readings.
-- Assumes nothing.
use native.Mathlib.Omega.{arith}
use borrow.Author.Rules.{rules}
use Rattle.wire.specs.Bytes.{joined}
use Rattle.form.specs.Form.{pieces}
use Rattle.state_bytes.specs.Description.{timeouts_form, reading_form, reading_parts}
use Rattle.state_bytes.proofs.Described.{reading-long}
use Rattle.form.proofs.Writing.{then, last, written}
use mathlib.Core.Path.{sym, ◌∙◌}
use Rattle.std.proofs.lemmas.Grind.{common_steps}
use Rattle.saving_fields.proofs.fields.put_timeouts.Goals as goal

pub returns : goal.returns
unfolding pieces timeouts_form reading_form reading_parts
returns c =
    let timeouts = c.args.t.now in
    written
    (then (reading-long timeouts.dkg_public) (omega arith) c.put_reading.ensures
    (then (reading-long timeouts.dkg_private) (omega arith) c.put_reading-2.ensures
    (then (reading-long timeouts.dkg_end) (omega arith) c.put_reading-3.ensures
    (then (reading-long timeouts.nonce) (omega arith) c.put_reading-4.ensures
    (last c.put_reading-5.ensures)))))
