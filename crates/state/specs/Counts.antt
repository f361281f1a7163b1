-- Question 4: "its counts within these limits". Live counts only.
use Rattle.std.specs.Prelude.{ℕ, ◌+◌, Bool, true, cond, ◌&&◌, List, [], ◌∷◌, map, leb, take}
use Rattle.wire.specs.Bytes.{every}
use Rattle.layout.specs.Limits.{message_limit, list_limit, signer_limit, record_limit}
use Rattle.state.specs.declared.fields.SignerEntry.{SignerEntry}
use Rattle.state.specs.declared.fields.Config.{Config}
use Rattle.state.specs.declared.fields.ResponseSlot.{ResponseSlot}
use Rattle.state.specs.declared.fields.SignRoundInfo.{SignRoundInfo}
use Rattle.state.specs.declared.fields.Records.{Records}
use Rattle.state.specs.declared.fields.ShareSlot.{ShareSlot}
use Rattle.state.specs.declared.fields.Coordinator.{Coordinator}

-- the sum of numbers
unfoldable pub sum : List ℕ → ℕ
sum [] = 0
sum (n ∷ ns) = n + sum ns

-- the live signers
unfoldable pub entries : Config → List SignerEntry
entries g = take g.count g.signers

unfoldable pub entry_within : SignerEntry → Bool
entry_within e = cond e.has_keys (leb e.keys.count list_limit) true

unfoldable pub key_count : SignerEntry → ℕ
key_count e = cond e.has_keys e.keys.count 0

unfoldable pub config_within : Config → Bool
config_within g = leb g.count signer_limit && every entry_within (entries g) && leb (sum (map key_count (entries g))) g.num_keys

unfoldable pub slot_within : ResponseSlot → Bool
slot_within s = cond s.held (leb s.key_ids list_limit && leb s.nonces list_limit) true

unfoldable pub row_within_limits : ℕ → SignRoundInfo → Bool
row_within_limits n r = leb r.message message_limit && every slot_within (take n r.slots)

unfoldable pub records_within : ℕ → Records → Bool
records_within n r = leb r.count record_limit && every (row_within_limits n) (take r.count r.rows)

unfoldable pub shares_within : ShareSlot → Bool
shares_within s = cond s.held (leb s.count list_limit && leb (sum (take s.count s.key_counts)) list_limit) true

unfoldable pub is_within_limits : Coordinator → Bool
is_within_limits s =
    config_within s.config
    && leb s.message.len message_limit
    && records_within s.config.count s.records
    && every shares_within (take s.config.count s.shares.slots)
