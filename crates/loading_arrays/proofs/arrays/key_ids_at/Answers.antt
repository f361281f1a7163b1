-- `key_ids_at`: a key list's own bytes say it.
-- Assumes nothing.
use native.Mathlib.Nat.{add-sub_cancel_left}
use mathlib.Core.Path.{◌∙◌, ap}
use Rattle.layout.specs.Limits.{list_limit}
use Rattle.form.specs.Form.{each}
use Rattle.state_bytes.specs.Description.{key_form}
use Rattle.state_bytes.proofs.Moved.{keys_part}
use Rattle.loading_arrays.proofs.arrays.key_ids_at.Goals as goal

pub returns-in-Some : goal.returns-in-Some
returns-in-Some c =
    let at = c.args.at in
    let part = rw (add-sub_cancel_left at 64) at c.in-Some.ensures.lookup.0.2 in
    c.each_at.ensures ∙ ap (λ l. (each list_limit key_form).load l 0) part ∙ keys_part _ at
