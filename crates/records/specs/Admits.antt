-- A signer's slot, and what is asked of a response there.
use Rattle.std.specs.Prelude.{ℕ, Bool, false, not, ◌&&◌, List, get_or, Option}
use Rattle.layout.specs.Messages.{Nonce}
use Rattle.validity.specs.Keys.{listed, same_set}
use Rattle.validity.specs.Nonces.{nonces_valid}
use Rattle.state.specs.declared.fields.Config.{Config}
use Rattle.state.specs.declared.fields.Coordinator.{Coordinator}
use Rattle.state.specs.Slots.{slot_from}
use Rattle.state.specs.View.{ids_of, no_entry}

-- the signer's slot, the first that has its id
abbrev pub slot_of : ℕ → Config → Option ℕ
slot_of id g = slot_from id 0 (ids_of g)

unfoldable pub admitted_at : Coordinator → ℕ → List ℕ → List Nonce → Bool
admitted_at s i keys nonces =
    get_or s.marks.ended i false
    && (get_or s.config.signers i no_entry).has_keys
    && same_set keys (listed (get_or s.config.signers i no_entry).keys)
    && nonces_valid nonces
    && not (get_or s.marks.malicious i false)
