-- Question 4's "counts within these limits", limit by limit: of what is live, and of nothing else.
use Rattle.std.specs.Prelude.{ℕ, zero, suc, ◌+◌, ◌≤◌, ◌<◌, ◌≡◌, true, cond, get_or}
use Rattle.layout.specs.Limits.{message_limit, list_limit, signer_limit, record_limit}
use Rattle.state.specs.declared.fields.SignerEntry.{SignerEntry}
use Rattle.state.specs.declared.fields.ResponseSlot.{ResponseSlot}
use Rattle.state.specs.declared.fields.ShareSlot.{ShareSlot}
use Rattle.state.specs.declared.fields.Coordinator.{Coordinator}
use Rattle.state.specs.View.{no_entry, no_row, no_slot, no_shares}

-- the sum of the first n of these numbers
unfoldable pub total : ℕ → (ℕ → ℕ) → ℕ
total zero f = 0
total (suc n) f = total n f + f n

-- the signer in slot i, its response on record r, its shares
abbrev pub signer_at : Coordinator → ℕ → SignerEntry
signer_at s i = get_or s.config.signers i no_entry

abbrev pub response_slot : Coordinator → ℕ → ℕ → ResponseSlot
response_slot s r i = get_or (get_or s.records.rows r no_row).slots i no_slot

abbrev pub share_slot_of : Coordinator → ℕ → ShareSlot
share_slot_of s i = get_or s.shares.slots i no_shares

pub record LiveCounts (s : Coordinator) : Type 0 where
  -- "at most 10 signers", "Every key set at most 16 keys", "Set sizes together at most num_keys"; "A signer may have no key set entry"
  pub signers : s.config.count ≤ signer_limit
  pub key_sets : (i : ℕ) → i < s.config.count → (signer_at s i).has_keys ≡ true → (signer_at s i).keys.count ≤ list_limit
  pub sizes :
      total s.config.count (λ i. cond (signer_at s i).has_keys (signer_at s i).keys.count 0) ≤ s.config.num_keys
  -- "message ≤ 256 bytes": the current one, and those of at most 4 records
  pub message : s.message.len ≤ message_limit
  pub records : s.records.count ≤ record_limit
  pub messages : (r : ℕ) → r < s.records.count → (get_or s.records.rows r no_row).message ≤ message_limit
  -- "per response ≤ 16 key ids, ≤ 16 nonces", of a response that is held by a signer's slot
  pub responses :
      (r i : ℕ) → r < s.records.count → i < s.config.count → (response_slot s r i).held ≡ true
      → ((response_slot s r i).key_ids ≤ list_limit) × ((response_slot s r i).nonces ≤ list_limit)
  -- "≤ 16 shares with ≤ 16 key ids in all", of shares that are held by a signer's slot
  pub shares :
      (i : ℕ) → i < s.config.count → (share_slot_of s i).held ≡ true
      → ((share_slot_of s i).count ≤ list_limit) × (total (share_slot_of s i).count (λ j. get_or (share_slot_of s i).key_counts j 0) ≤ list_limit)
