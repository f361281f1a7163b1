-- `put_clocks`: two readings.
-- Assumes nothing.
use native.Mathlib.Omega.{arith}
use borrow.Author.Rules.{rules}
use Rattle.wire.specs.Bytes.{joined}
use Rattle.form.specs.Form.{pieces}
use Rattle.state_bytes.specs.Description.{clocks_form, reading_form, reading_parts}
use Rattle.state_bytes.proofs.Described.{reading-long}
use Rattle.form.proofs.Writing.{then, last, written}
use mathlib.Core.Path.{sym, ◌∙◌}
use Rattle.std.proofs.lemmas.Grind.{common_steps}
use Rattle.saving_fields.proofs.fields.put_clocks.Goals as goal

pub returns : goal.returns
unfolding pieces clocks_form reading_form reading_parts
returns c =
    let clocks = c.args.c.now in
    written
    (then (reading-long clocks.nonce_start) (omega arith) c.put_reading.ensures
    (last c.put_reading-2.ensures))
