-- "Key lists are compared as sets: repeats and order pass." And 02, d): the comparison "also give[s] the number of entries that repeat an
-- earlier entry".
use Rattle.std.specs.Prelude.{ℕ, min, ◌+◌, ◌-◌, ◌/◌, Bool, cond, not, ◌&&◌, List, [], ◌∷◌, ◌++◌, map, eqb, length, get_or, take, replicate}
use Rattle.std.specs.List.{list_any}
use Rattle.wire.specs.Bytes.{every}
use Rattle.layout.specs.declared.KeyId.{KeyId}
use Rattle.layout.specs.Limits.{list_limit}
use Rattle.layout.specs.Decode.{ids_in}
use Rattle.validity.specs.declared.keys.KeyIds.{KeyIds}
use Rattle.validity.specs.declared.keys.KeyComparison.{KeyComparison}

-- a key's number
abbrev pub key_number : KeyId → ℕ
key_number k = k.0

-- a key by its number
abbrev pub key_of : ℕ → KeyId
key_of n = record { 0 = n }

-- the sixteen places of a KeyIds that hold these numbers: 0 stands in the places past them
unfoldable pub key_places : List ℕ → List KeyId
key_places ks = map key_of ks ++ replicate (list_limit - length ks) (key_of 0)

-- the key ids of a part, four bytes each: the first sixteen of them
unfoldable pub key_list : List ℕ → KeyIds
key_list s = record { ids = key_places (take list_limit (ids_in s)); count = min (length s / 4) list_limit }

-- the list in a KeyIds: as many of its sixteen places as it counts
unfoldable pub listed : KeyIds → List ℕ
listed k = take k.count (map key_number k.ids)

-- the key in a place of a KeyIds, and those in the places before it
abbrev pub key_at : KeyIds → ℕ → ℕ
key_at k i = key_number (get_or k.ids i (key_of 0))

abbrev pub keys_before : KeyIds → ℕ → List ℕ
keys_before k i = take i (map key_number k.ids)

abbrev pub member : ℕ → List ℕ → Bool
member x ys = list_any (eqb x) ys

-- every key of xs is in ys
unfoldable pub subset : List ℕ → List ℕ → Bool
subset xs ys = every (λ (x : ℕ). member x ys) xs

unfoldable pub same_set : List ℕ → List ℕ → Bool
same_set xs ys = subset xs ys && subset ys xs

-- no key is in both
unfoldable pub disjoint : List ℕ → List ℕ → Bool
disjoint xs ys = every (λ (y : ℕ). not (member y xs)) ys

-- of these entries, how many repeat an earlier one, where those of `before` stand before them
unfoldable pub repeats_after : List ℕ → List ℕ → ℕ
repeats_after before [] = 0
repeats_after before (x ∷ xs) = cond (member x before) 1 0 + repeats_after (before ++ (x ∷ [])) xs

-- "3, 2, 3 gives 1, the empty list 0"
abbrev pub repeats : List ℕ → ℕ
repeats xs = repeats_after [] xs

-- a key list against a key set. "A set that differs still gives its count."
abbrev pub comparison : List ℕ → List ℕ → KeyComparison
comparison xs ys = record { same = same_set xs ys; repeats = repeats xs }
