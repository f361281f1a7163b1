-- A signer's signature shares put in the places of its slot: shares and store after.
use Rattle.std.specs.Prelude.{ℕ, ◌+◌, ◌*◌, ◌-◌, ◌/◌, ◌≤◌, ◌≡◌, true, List, [], ◌∷◌, ◌++◌, map, length, take, drop, set, replicate}
use Rattle.wire.specs.Bytes.{put, every}
use Rattle.layout.specs.Limits.{list_limit}
use Rattle.layout.specs.LaidOut.{whole_share}
use Rattle.layout.specs.Decode.{share_in, key_count}
use Rattle.state.specs.declared.fields.ShareSlot.{ShareSlot}
use Rattle.state.specs.declared.fields.Shares.{Shares}
use Rattle.state.specs.View.{shares_at_place, share_keys_at}

-- what is asked of a response's parts: "a part per share (id 4, z_i 32, key ids)", each whole (8); "≤ 16 shares with ≤ 16 key ids in
-- all" (9)
pub record Shareable (parts : List (List ℕ)) : Type 0 where
  pub whole : every whole_share parts ≡ true
  pub few : length parts ≤ list_limit
  pub keys : key_count (map share_in parts) ≤ list_limit

-- how many key ids a share's part has: four bytes each, after id and z_i
abbrev pub part_keys : List ℕ → ℕ
part_keys part = (length part - 36) / 4

-- one share written: id and z_i at `at`, its key ids at `keys`
abbrev pub put_share : ℕ → ℕ → List ℕ → List ℕ → List ℕ
put_share at keys part store = put (put store at (take 36 part)) keys (drop 36 part)

-- the shares written one after the other, and their key ids one after the other
unfoldable pub put_shares : ℕ → ℕ → List (List ℕ) → List ℕ → List ℕ
put_shares at keys [] store = store
put_shares at keys (p ∷ ps) store = put_shares (at + 36) (keys + part_keys p * 4) ps (put_share at keys p store)

-- the store after: nothing else is written
abbrev pub kept_store : ℕ → List (List ℕ) → List ℕ → List ℕ
kept_store i parts store = put_shares (shares_at_place i) (share_keys_at i) parts store

-- the sixteen places of key counts: 0 stands in the places past these
unfoldable pub count_places : List ℕ → List ℕ
count_places ns = ns ++ replicate (list_limit - length ns) 0

abbrev pub kept_slot : List (List ℕ) → ShareSlot
kept_slot parts = record { held = true; count = length parts; key_counts = count_places (map part_keys parts) }

-- the shares after: those in slot i are these
abbrev pub kept_shares : ℕ → List (List ℕ) → Shares → Shares
kept_shares i parts held = record { slots = set held.slots i (kept_slot parts) }
