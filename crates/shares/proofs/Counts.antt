-- The key counts of a slot: one place more, and what is read of them.
-- Assumes nothing.
use Prim.Native.Nat.{ℕ, suc, ◌+◌, ◌-◌, ◌<◌, ◌≤◌}
use mathlib.Core.Path.{◌≡◌}
use mathlib.Core.Bool.{true}
use mathlib.Core.List.{List, [], ◌∷◌, ◌++◌, map, map-append, append_assoc}
use native.Mathlib.Numerals.{add-one}
use native.Mathlib.Omega.{arith}
use lib.ListN.{length, get_or, set, take, length-map, length-append, length-replicate}
use lib.Seq.{take-suc, take_all, take_at, set_at, length-take-le}
use Rattle.layout.specs.Limits.{list_limit}
use Rattle.state.specs.declared.fields.ShareSlot.{ShareSlot}
use Rattle.shares.specs.Shares.{part_keys, count_places, kept_slot}

pub length_places : (ns : List ℕ) → length ns ≤ list_limit → length (count_places ns) ≡ list_limit
unfolding count_places
length_places ns h = rw (length-append, length-replicate) (omega arith)

-- the counts of the first k parts and that of the next
pub counts_next :
    (ps : List (List ℕ)) (k : ℕ) → k < length ps → length ps ≤ list_limit
    → set (count_places (map part_keys (take k ps))) k (part_keys (get_or ps k [])) ≡ count_places (map part_keys (take (k + 1) ps))
unfolding count_places
counts_next ps k h few =
    let n : length (map part_keys (take k ps)) ≡ k = rw length-map (length-take-le k ps (omega arith)) in
    let m : length (map part_keys (take (k + 1) ps)) ≡ k + 1 = rw length-map (length-take-le (k + 1) ps (omega arith)) in
    let e : map part_keys (take (k + 1) ps) ≡ map part_keys (take k ps) ++ (part_keys (get_or ps k []) ∷ []) = rw (add-one k, take-suc ps k [] h, map-append) in
    let left : list_limit - k ≡ suc (list_limit - (k + 1)) = omega arith in
    rw (n, m, e, left, append_assoc) (set_at (map part_keys (take k ps)) 0 _ _ k n)

-- those that count
pub counts_read : (ps : List (List ℕ)) → take (length ps) (count_places (map part_keys ps)) ≡ map part_keys ps
unfolding count_places
counts_read ps = take_at (map part_keys ps) _ (length ps) (length-map ps part_keys)

-- the slot, once every part is counted
pub slot-done :
    (ps : List (List ℕ)) (n k : ℕ) (counts : List ℕ) → length ps ≡ n → n ≤ k → counts ≡ count_places (map part_keys (take k ps))
    → ◌≡◌ {A = ShareSlot} (record { held = true; count = n; key_counts = counts }) (kept_slot ps)
slot-done ps n k counts e h f = rw (f, take_all k ps (omega arith), e)
