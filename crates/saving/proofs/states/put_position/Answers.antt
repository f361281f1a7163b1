-- `put_position`: the numbers of state and type, each below 256, then the root.
-- Assumes nothing.
use mathlib.Core.Path.{refl, ap, ◌∙◌}
use native.Mathlib.Omega.{arith}
use Rattle.form.specs.Form.{pieces}
use Rattle.state_bytes.specs.Description.{saved_type, state_parts, state_form, position_form}
use Rattle.state_table.proofs.Table.{state_below}
use Rattle.form.proofs.Writing.{then, last, written, one_byte}
use Rattle.saving.proofs.states.put_position.Goals as goal

pub returns-clause-written : goal.returns-clause-written
unfolding pieces position_form state_form state_parts
returns-clause-written c =
    let state = c.state_number-number in
    let k = c.type_byte-type_number in
    written
    (then refl (omega arith)
    (one_byte _ _ state.result _ (omega (arith, state.ensures, state_below c.args.p.now.state))
    state.ensures c.put_number.ensures)
    (then refl (omega arith)
    (one_byte _ _ k.result _ (omega arith) (k.ensures ∙ ap saved_type c.type_in.ensures)
    c.put_number-2.ensures) (last c.copy.ensures)))
