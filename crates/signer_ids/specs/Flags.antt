-- A slot that waits: its response is held, and no shares have come. The ids of flagged signers.
use Rattle.std.specs.Prelude.{Option, Bool, false, ◌&&◌, List, get_or}
use Rattle.layout.specs.declared.SignerId.{SignerId}
use Rattle.state.specs.declared.fields.ResponseSlot.{ResponseSlot}
use Rattle.state.specs.declared.fields.SignerSlot.{SignerSlot}
use Rattle.state.specs.Slots.{when}

abbrev pub is_waiting : ResponseSlot → Bool
is_waiting s = s.held && s.waits

-- the signer's id, where its slot is flagged
abbrev pub flagged_id : List Bool → SignerSlot → Option SignerId
flagged_id flags e = when (get_or flags e.slot false) (record { 0 = e.id })
