-- Key lists by their places: in a KeyIds, and in the bytes of a part.
-- Assumes nothing.
use Prim.Native.Nat.{ℕ, zero, suc, min, ◌+◌, ◌*◌, ◌-◌, ◌/◌, ◌≤◌, ◌<◌}
use mathlib.Core.Path.{◌≡◌, refl, sym, ap, ◌∙◌}
use mathlib.Core.List.{List, [], ◌∷◌, ◌++◌, map, map-append, append_assoc}
use native.Mathlib.Nat.{min-eq_left, suc-min-suc, mul-zero, mul-suc, add_comm}
use native.Mathlib.Numerals.{add-one}
use native.Mathlib.Omega.{arith}
use lib.ListN.{length, get_or, set, take, drop, length-map, length-take, drop_of_length-le, get_or-map}
use lib.Seq.{take-nil, take_all, take-suc, set_at, drop-cons, drop-drop, get_or-take, length-take-le, take-append_seam}
use Rattle.std.proofs.lemmas.List.{take-map}
use mir.Val.{Val}
use denote.Laws.{Is}
use Rattle.wire.specs.Bytes.{number, number_at}
use Rattle.layout.specs.declared.KeyId.{KeyId}
use Rattle.layout.specs.Decode.{entries, ids_in}
use Rattle.layout.proofs.Entries.{length-ids_in}
use Rattle.validity.specs.declared.keys.KeyIds.{KeyIds}
use Rattle.layout.specs.Limits.{list_limit}
use Rattle.validity.specs.Keys.{key_number, key_of, key_places, key_list, listed}
use Rattle.validity.specs.contracts.keys.KeyIds as KeyIds-row

-- a KeyIds has sixteen places
pub keys_16 : (k : KeyIds) (vs : List Val) → Is KeyIds-row.the_row k vs → length k.ids ≡ 16
keys_16 k vs g = g.1.1.0.1.0.1

-- no more is taken than there is
take_min : (l : List ℕ) (n : ℕ) → take (min n (length l)) l ≡ take n l
take_min [] n = take-nil (min n 0) ∙ sym (take-nil n)
take_min (x ∷ l) zero = rw (min-eq_left {n = 0} {m = suc (length l)} (omega arith))
take_min (x ∷ l) (suc n) = rw suc-min-suc (ap (λ (t : List ℕ). x ∷ t) (take_min l n))

-- the keys in the first n places
abbrev pub keys : ℕ → List KeyId → List ℕ
keys n ids = take n (map key_number ids)

-- what is left at i: the key in that place, and what is left after it
pub keys_next : (ids : List KeyId) (n i : ℕ) → n ≤ length ids → i < n → drop i (keys n ids) ≡ (key_number (get_or ids i (record { 0 = 0 })) ∷ drop (i + 1) (keys n ids))
keys_next ids n i h l =
    let e : i < length (keys n ids) = rw (length-take, length-map) (omega arith) in
    rw (add-one, drop-cons (keys n ids) i 0 e, get_or-take n (map key_number ids) i 0 l, get_or-map key_number ids i (record { 0 = 0 }))

-- the key in a place
pub key_in : (ids : List KeyId) (n i : ℕ) → i < n → get_or (keys n ids) i 0 ≡ key_number (get_or ids i (key_of 0))
key_in ids n i l = get_or-take n (map key_number ids) i 0 l ∙ get_or-map key_number ids i (key_of 0)

pub length-keys : (ids : List KeyId) (n : ℕ) → n ≤ length ids → length (keys n ids) ≡ n
length-keys ids n h = length-take-le n (map key_number ids) (rw length-map h)

-- nothing is left after the last place
pub keys_end : (ids : List KeyId) (n i : ℕ) → n ≤ i → drop i (keys n ids) ≡ []
keys_end ids n i h = drop_of_length-le (keys n ids) {i = i} (rw (length-take, length-map) (omega arith))

-- a count above sixteen lists what sixteen does
keys-listed : (k : KeyIds) (n : ℕ) → length k.ids ≡ 16 → n ≡ min k.count 16 → keys n k.ids ≡ listed k
unfolding listed
keys-listed k n h e =
    let m : min k.count (length (map key_number k.ids)) ≡ n = rw (length-map, h, e) in
    rw m at (take_min (map key_number k.ids) k.count)

-- the same as a slice of the places
pub listed_places : (k : KeyIds) (n : ℕ) → length k.ids ≡ 16 → n ≡ min k.count 16 → map key_number (take n k.ids) ≡ listed k
listed_places k n h e = sym (take-map key_number n k.ids) ∙ keys-listed k n h e

-- the ith entry of w bytes
entry_at : (w k i : ℕ) (s : List ℕ) → i < k → get_or (entries w k s) i [] ≡ take w (drop (w * i) s)
unfolding entries
entry_at w (suc k) zero s h = rw (mul-zero w)
entry_at w (suc k) (suc i) s h = rw (entry_at w k i (drop w s) (omega arith), drop-drop, mul-suc, add_comm w (w * i))
entry_at w zero i s h = elim h [ ]

-- the ith id
id_at : (s : List ℕ) (i : ℕ) → i < length s / 4 → get_or (ids_in s) i 0 ≡ number_at 4 (4 * i) s
unfolding ids_in number
id_at s i h = get_or-map number (entries 4 (length s / 4) s) i [] ∙ ap number (entry_at 4 (length s / 4) i s h)

-- a place more: the next id in the first place that holds 0
pub place_read :
    (s : List ℕ) (i : ℕ) → i < list_limit → i < length s / 4
    → set (key_places (take i (ids_in s))) i (key_of (number_at 4 (4 * i) s)) ≡ key_places (take (i + 1) (ids_in s))
unfolding key_places
place_read s i h l =
    let n : length (take i (ids_in s)) ≡ i = length-take-le i (ids_in s) (rw length-ids_in (omega arith)) in
    let m : length (take (i + 1) (ids_in s)) ≡ i + 1 = length-take-le (i + 1) (ids_in s) (rw length-ids_in (omega arith)) in
    let e : take (i + 1) (ids_in s) ≡ take i (ids_in s) ++ (number_at 4 (4 * i) s ∷ []) =
    rw (add-one, take-suc (ids_in s) i 0 (rw length-ids_in l), id_at s i l) in
    let left : list_limit - i ≡ suc (list_limit - (i + 1)) = omega arith in
    rw (n, m, e, left, map-append, append_assoc) (set_at (map key_of (take i (ids_in s))) (key_of 0) _ _ i (rw length-map n))

-- as many as there are, up to sixteen
pub keys-whole : (s : List ℕ) (n : ℕ) → n ≡ min (length s / 4) list_limit → take n (ids_in s) ≡ take list_limit (ids_in s)
keys-whole s n e =
    let m : min list_limit (length (ids_in s)) ≡ n = rw length-ids_in (omega arith) in
    rw m at (take_min (ids_in s) list_limit)

-- the list in the places is the list that was read
numbers_back : (ks : List ℕ) → map key_number (map key_of ks) ≡ ks
numbers_back [] = refl
numbers_back (k ∷ ks) = ap (λ (t : List ℕ). k ∷ t) (numbers_back ks)

listed-key_list : (s : List ℕ) → listed (key_list s) ≡ take list_limit (ids_in s)
unfolding listed key_list key_places
listed-key_list s =
    let n : length (take list_limit (ids_in s)) ≡ min (length s / 4) list_limit = rw (length-take, length-ids_in) (omega arith) in
    let m : length (map key_number (map key_of (take list_limit (ids_in s)))) ≡ min (length s / 4) list_limit = rw (length-map, length-map, n) in
    rw (map-append, ← m, take-append_seam) (numbers_back (take list_limit (ids_in s)))

-- a part of at most sixteen ids is read whole
pub listed-whole : (s : List ℕ) → length s / 4 ≤ list_limit → listed (key_list s) ≡ ids_in s
listed-whole s h = listed-key_list s ∙ take_all list_limit (ids_in s) (rw length-ids_in (omega arith))
