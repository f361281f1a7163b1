-- What question 4 says of the parts of the struct.
-- Assumes nothing.
use Prim.Native.Nat.{ℕ, ◌<◌, ◌≤◌}
use mathlib.Core.Path.{◌≡◌, refl}
use mathlib.Core.Bool.{true, ◌&&◌}
use mathlib.Core.List.{map}
use borrow.Author.Tests.{leb-true}
use lib.Dec.{leb}
use lib.ListN.{length, get_or, take}
use Rattle.wire.specs.Bytes.{every}
use Rattle.wire.proofs.Lists.{and_left, and_right, and_both}
use Rattle.layout.specs.Limits.{message_limit, list_limit, signer_limit, record_limit}
use Rattle.state.specs.declared.fields.ResponseSlot.{ResponseSlot}
use Rattle.state.specs.declared.fields.SignRoundInfo.{SignRoundInfo}
use Rattle.state.specs.declared.fields.Coordinator.{Coordinator}
use Rattle.state.specs.Counts.{sum, entries, entry_within, key_count, slot_within, row_within_limits, records_within, config_within, shares_within, is_within_limits}
use Rattle.state.specs.View.{no_slot}
use Rattle.state.proofs.Arrays.{every_get}

-- its four parts
pub record Within (s : Coordinator) : Type 0 where
  pub config : config_within s.config ≡ true
  pub message : leb s.message.len message_limit ≡ true
  pub records : records_within s.config.count s.records ≡ true
  pub shares : every shares_within (take s.config.count s.shares.slots) ≡ true

pub within : (s : Coordinator) → is_within_limits s ≡ true → Within s
unfolding is_within_limits
within s w =
    let a = config_within s.config in
    let b = leb s.message.len message_limit in
    let c = records_within s.config.count s.records in
    let d = every shares_within (take s.config.count s.shares.slots) in
    let abc : (a && b) && c ≡ true = and_left _ d w in
    let ab : a && b ≡ true = and_left _ c abc in
    record { config = and_left a b ab; message = and_right a b ab; records = and_right (a && b) c abc; shares = and_right ((a && b) && c) d w }

pub is_within : (s : Coordinator) → Within s → is_within_limits s ≡ true
unfolding is_within_limits
is_within s w = and_both _ _ (and_both _ _ (and_both _ _ w.config w.message) w.records) w.shares

module _ (s : Coordinator) (w : Within s) where
  pub config_few : s.config.count ≤ signer_limit
  unfolding config_within
  config_few = leb-true _ _ (and_left _ _ (and_left _ _ w.config))

  pub entries_within : every entry_within (entries s.config) ≡ true
  unfolding config_within
  entries_within =
      and_right (leb s.config.count signer_limit) _ (and_left _ (leb (sum (map key_count (entries s.config))) s.config.num_keys) w.config)

  pub keys_few : sum (map key_count (entries s.config)) ≤ s.config.num_keys
  unfolding config_within
  keys_few = leb-true _ _ (and_right (leb s.config.count signer_limit && every entry_within (entries s.config)) _ w.config)

  pub records_few : s.records.count ≤ record_limit
  unfolding records_within
  records_few = leb-true _ _ (and_left _ _ w.records)

  pub rows_within : every (row_within_limits s.config.count) (take s.records.count s.records.rows) ≡ true
  unfolding records_within
  rows_within = and_right (leb s.records.count record_limit) _ w.records

-- a response that is held has short lists
pub slot-few : (s : ResponseSlot) → slot_within s ≡ true → s.held ≡ true → (s.key_ids ≤ list_limit) × (s.nonces ≤ list_limit)
unfolding slot_within
slot-few s w h =
    let k = leb s.key_ids list_limit in
    let n = leb s.nonces list_limit in
    let both : k && n ≡ true = rw h at w in
    (leb-true _ _ (and_left k n both), leb-true _ _ (and_right k n both))

-- what is known of a row: ten slots, short lists
pub record Good (n : ℕ) (row : SignRoundInfo) : Type 0 where
  pub ten : length row.slots ≡ signer_limit
  pub within : row_within_limits n row ≡ true

pub row-slot : (n j : ℕ) (row : SignRoundInfo) → row_within_limits n row ≡ true → j < n → slot_within (get_or row.slots j no_slot) ≡ true
unfolding row_within_limits slot_within
row-slot n j row w l = every_get slot_within n row.slots j no_slot l refl (and_right (leb row.message message_limit) (every slot_within (take n row.slots)) w)

pub row-message : (n : ℕ) (row : SignRoundInfo) → row_within_limits n row ≡ true → row.message ≤ message_limit
unfolding row_within_limits
row-message n row w = leb-true _ _ (and_left (leb row.message message_limit) (every slot_within (take n row.slots)) w)
