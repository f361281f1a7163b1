-- Key sets of signers, joined and counted along the signers in order.
use Rattle.std.specs.Prelude.{ℕ, ◌+◌, ◌≤◌, ◌≡◌, Bool, true, false, cond, List, [], ◌∷◌, length, take, get_or}
use Rattle.wire.specs.Bytes.{every}
use Rattle.layout.specs.Limits.{signer_limit}
use Rattle.validity.specs.Keys.{listed, member}
use Rattle.step_definition.specs.Ids.{insert_all}
use Rattle.step_definition.specs.Demand3.{Ascending}
use Rattle.state.specs.declared.fields.SignerEntry.{SignerEntry}
use Rattle.state.specs.declared.fields.ResponseSlot.{ResponseSlot}
use Rattle.state.specs.declared.fields.SignerSlot.{SignerSlot}
use Rattle.state.specs.declared.fields.Config.{Config}
use Rattle.state.specs.Counts.{entries, entry_within}
use Rattle.state.specs.View.{slots_of, no_entry, no_slot}
use Rattle.signers.specs.declared.order.Order.{Order}
use Rattle.signers.specs.Order.{ordered}
use Rattle.id_lists.specs.declared.IdList.{IdList}

-- a signer's keys: none where it has no set
unfoldable pub set_of : SignerEntry → List ℕ
set_of e = cond e.has_keys (listed e.keys) []

-- the keys that are held are those of a list that ascends, and as many
pub record Counted (s : IdList) (zs : List ℕ) : Type 0 where
  pub rises : Ascending zs
  pub counted : s.count ≡ length zs
  pub same : (x : ℕ) → member x (take s.count s.ids) ≡ member x zs

-- the signers in order, of a configuration whose counts are within the limits
pub record InOrder (o : Order) (g : Config) : Type 0 where
  pub same : ordered o ≡ slots_of g
  pub few : o.count ≤ signer_limit
  pub live : g.count ≤ signer_limit
  pub sets : every entry_within (entries g) ≡ true

-- the different keys of the signers whose response is held
unfoldable pub held_keys : List SignerEntry → List ResponseSlot → List SignerSlot → List ℕ
held_keys ss slots [] = []
held_keys ss slots (e ∷ es) =
    cond (get_or slots e.slot no_slot).held (insert_all (set_of (get_or ss e.slot no_entry)) (held_keys ss slots es)) (held_keys ss slots es)

-- the set sizes of the flagged signers, summed
unfoldable pub flagged_sizes : List SignerEntry → List Bool → List SignerSlot → ℕ
flagged_sizes ss flags [] = 0
flagged_sizes ss flags (e ∷ es) =
    cond (get_or flags e.slot false) (length (set_of (get_or ss e.slot no_entry)) + flagged_sizes ss flags es) (flagged_sizes ss flags es)
