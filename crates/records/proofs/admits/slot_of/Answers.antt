-- `slot_of`: the first signer that has the id.
-- Assumes nothing.
use mathlib.Core.Path.{sym, ap, ◌∙◌}
use mathlib.Core.List.{List, map}
use Rattle.state.specs.declared.fields.SignerEntry.{SignerEntry}
use Rattle.state.specs.Slots.{slot_from}
use Rattle.state.specs.View.{entry_id}
use Rattle.records.proofs.Asking.{found}
use Rattle.records.proofs.admits.slot_of.Goals as goal

pub returns : goal.returns
returns c =
    let id = c.args.id.0 in
    c.place_of.ensures
    ∙ sym (found id c.entries.result.now)
    ∙ ap (λ (xs : List SignerEntry). slot_from id 0 (map entry_id xs)) c.entries.ensures.0
