-- `slot_at`: a slot's own bytes say it.
-- Assumes nothing.
use native.Mathlib.Nat.{add-sub_cancel_left}
use mathlib.Core.Path.{◌∙◌, ap}
use Rattle.state_bytes.specs.Description.{slot_form}
use Rattle.state_bytes.proofs.Moved.{slot_part}
use Rattle.loading_fields.proofs.fields.slot_at.Goals as goal

pub returns-in-Some : goal.returns-in-Some
returns-in-Some c =
    let at = c.args.at in
    let part = rw (add-sub_cancel_left at 50) at c.in-Some.ensures.lookup.0.2 in
    c.slot_in.ensures ∙ ap (λ l. slot_form.load l 0) part ∙ slot_part _ at

pub returns-in-None : goal.returns-in-None
returns-in-None c = c.slot_in-in-None.ensures ∙ ap (λ l. slot_form.load l 0) c.part.ensures ∙ slot_part _ _
