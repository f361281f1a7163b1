-- "In kinds 3 and 32 lists are each signer's list, joined in ascending signer id": where each signer's lists lie.
use Rattle.std.specs.Prelude.{Option, ℕ, cond, false, List, get_or, replicate}
use Rattle.layout.specs.Limits.{list_limit}
use Rattle.job.specs.declared.JobPlace.{JobPlace}
use Rattle.state.specs.declared.fields.SignerSlot.{SignerSlot}
use Rattle.state.specs.declared.fields.ResponseSlot.{ResponseSlot}
use Rattle.state.specs.declared.fields.SignRoundInfo.{SignRoundInfo}
use Rattle.state.specs.declared.fields.ShareSlot.{ShareSlot}
use Rattle.state.specs.declared.fields.Shares.{Shares}
use Rattle.state.specs.Slots.{when}
use Rattle.state.specs.View.{keys_at, nonces_at, shares_at_place, share_keys_at, no_slot, no_shares}

-- shares that are not held count for nothing
unfoldable pub held_shares : ShareSlot → ShareSlot
held_shares s = cond s.held s (record { held = false; count = 0; key_counts = replicate list_limit 0 })

-- key ids and nonces as the response of the signer in slot i had them, and its shares
unfoldable pub place_at : ℕ → ℕ → ResponseSlot → ShareSlot → JobPlace
place_at r i response shares =
    record {
      key_ids = record { at = keys_at r i; count = response.key_ids };
      nonces = record { at = nonces_at r i; count = response.nonces };
      shares = record { at = shares_at_place i; count = (held_shares shares).count };
      share_keys_at = share_keys_at i;
      share_key_counts = (held_shares shares).key_counts;
    }

abbrev pub job_place_of : ℕ → List ResponseSlot → List ShareSlot → SignerSlot → JobPlace
job_place_of r slots shares e = place_at r e.slot (get_or slots e.slot no_slot) (get_or shares e.slot no_shares)

-- a place for each signer whose response is held
abbrev pub job_place_in : ℕ → SignRoundInfo → Shares → SignerSlot → Option JobPlace
job_place_in r row ss e = when (get_or row.slots e.slot no_slot).held (job_place_of r row.slots ss.slots e)
