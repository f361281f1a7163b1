-- The steps of the code, put together.
-- Assumes nothing.
use Prim.Native.Nat.{ℕ, ◌+◌, ◌<◌, ◌≤◌}
use mathlib.Core.Path.{◌≡◌, refl}
use mathlib.Core.Bool.{Bool, cond}
use mathlib.Core.List.{List, ◌∷◌}
use native.Mathlib.Numerals.{add-one}
use lib.ListN.{length, get_or, drop, drop_of_length-le}
use lib.Seq.{drop-cons}
use Rattle.wire.specs.Bytes.{put, are_same_bytes}
use Rattle.layout.specs.declared.Ids.{Ids}
use Rattle.state.specs.declared.fields.SignRoundInfo.{SignRoundInfo}
use Rattle.state.specs.declared.fields.Records.{Records}
use Rattle.state.specs.Setters.{set_slot, set_row}
use Rattle.state.specs.View.{keys_at, nonces_at, no_row}
use Rattle.records.specs.Records.{row_message, record_from, held_slot, opened, opened_store, added_records, added_store}

pub add_done :
    {after : Records} {s₁ s₂ s₃ : List ℕ} {at₁ at₂ : ℕ} (rs : Records) (m keys nonces store : List ℕ) (clock r i : ℕ) (ids : Ids)
    → after ≡ opened r (length m) rs → s₁ ≡ opened_store r m rs store → s₂ ≡ put s₁ at₁ keys → s₃ ≡ put s₂ at₂ nonces
    → at₁ ≡ keys_at r i → at₂ ≡ nonces_at r i
    → (set_row r (set_slot i (held_slot clock ids keys nonces) (get_or after.rows r no_row)) after ≡ added_records clock r i ids m keys nonces rs) × (s₃ ≡ added_store r i m keys nonces rs store)
unfolding added_records added_store
add_done rs m keys nonces store clock r i ids o e₁ e₂ e₃ p q = rw (o, e₃, e₂, e₁, p, q) (refl, refl)

-- the search, one record on
module _ (m store : List ℕ) (rows : List SignRoundInfo) (r : ℕ) where
  pub place_next : {t : ℕ} (d : SignRoundInfo) (b : Bool) → r < length rows → b ≡ are_same_bytes m (row_message r (get_or rows r d) store)
      → record_from m store r (drop r rows) ≡ t → cond b r (record_from m store (r + 1) (drop (r + 1) rows)) ≡ t
  unfolding record_from
  place_next d b low e t =
      let split : drop r rows ≡ get_or rows r d ∷ drop (r + 1) rows = rw (add-one r) (drop-cons rows r d low) in
      rw e (rw split at t)

  pub place_end : {t : ℕ} → length rows ≤ r → record_from m store r (drop r rows) ≡ t → r ≡ t
  unfolding record_from
  place_end h t = rw (drop_of_length-le rows {i = r} h) at t
