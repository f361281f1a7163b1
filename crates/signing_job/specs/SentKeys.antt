-- The key ids of each responder as it sent them, out of the store, and what is asked before they are read.
use Rattle.std.specs.Prelude.{ℕ, ◌<◌, ◌≤◌, ◌≡◌, true, cond, List, [], get_or}
use Rattle.wire.specs.Bytes.{All}
use Rattle.layout.specs.Limits.{list_limit, signer_limit, record_limit, store_length}
use Rattle.layout.specs.Decode.{ids_in}
use Rattle.pieces.specs.Places.{bytes_at}
use Rattle.state.specs.declared.fields.ResponseSlot.{ResponseSlot}
use Rattle.state.specs.declared.fields.SignerSlot.{SignerSlot}
use Rattle.state.specs.declared.fields.SignRoundInfo.{SignRoundInfo}
use Rattle.state.specs.View.{keys_at, no_slot}
use Rattle.signers.specs.declared.order.Order.{Order}
use Rattle.signers.specs.Order.{ordered}

-- the list of the signer in slot i of the record r; a signer without a response has none
unfoldable pub sent_keys : List ℕ → ℕ → ℕ → ResponseSlot → List ℕ
sent_keys store r i slot = cond slot.held (ids_in (bytes_at 4 (record { at = keys_at r i; count = slot.key_ids }) store)) []

-- a response that is held names few keys
abbrev pub FewKeys : ResponseSlot → Type 0
FewKeys slot = slot.held ≡ true → slot.key_ids ≤ list_limit

-- signers in order, a record that is there, a store that holds it, and lists within 9's limit
pub record Listed (o : Order) (store r : ℕ) (info : SignRoundInfo) : Type 0 where
  pub few : o.count ≤ signer_limit
  pub row : r < record_limit
  pub stored : store_length ≤ store
  pub live : All (λ (e : SignerSlot). e.slot < signer_limit) (ordered o)
  pub lists : All (λ (e : SignerSlot). FewKeys (get_or info.slots e.slot no_slot)) (ordered o)
