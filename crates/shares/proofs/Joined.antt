-- Key lists joined: one key more, one share's more.
-- Assumes nothing.
use Prim.Native.Nat.{ℕ, zero, suc, ◌/◌, ◌+◌, ◌≤◌, ◌<◌}
use mathlib.Core.Path.{◌≡◌, refl, ap, ◌∙◌}
use mathlib.Core.List.{List, [], ◌∷◌, ◌++◌, map, append_assoc}
use native.Mathlib.Numerals.{add-one}
use native.Mathlib.Omega.{arith}
use lib.ListN.{length, get_or, set, drop, length-drop}
use Rattle.layout.specs.Limits.{list_limit}
use Rattle.layout.specs.Decode.{ids_in, share_in}
use Rattle.layout.specs.declared.KeyId.{KeyId}
use Rattle.validity.specs.declared.keys.KeyIds.{KeyIds}
use Rattle.validity.specs.Keys.{key_number, key_list, listed}
use Rattle.validity.proofs.Places.{keys, keys_next, listed-whole}
use Rattle.step_definition.specs.Effects.{share_key_ids}
use Rattle.shares.specs.Shares.{part_keys}

-- a share's key ids after those of the earlier ones
pub share-joined :
    {t : List ℕ} (ks a p : List ℕ) (ps qs : List (List ℕ)) → qs ≡ p ∷ ps → ks ≡ a ++ ids_in (drop 36 p) → a ++ share_key_ids (map share_in qs) ≡ t
    → ks ++ share_key_ids (map share_in ps) ≡ t
unfolding share_key_ids share_in
share-joined ks a p ps qs e k t = rw k (append_assoc a (ids_in (drop 36 p)) (share_key_ids (map share_in ps)) ∙ rw e at t)

-- the key ids of a share's part, sixteen at most, as a list by value
pub part_keys_law : (p : List ℕ) (l : KeyIds) → l ≡ key_list (drop 36 p) → part_keys p ≤ list_limit → (listed l ≡ ids_in (drop 36 p)) × (l.count ≡ part_keys p)
unfolding key_list
part_keys_law p l e h =
    let n : length (drop 36 p) / 4 ≡ part_keys p = ap (λ (n : ℕ). n / 4) (length-drop 36 p) in (
      ap listed e ∙ listed-whole (drop 36 p) (omega arith),
      ap (λ (k : KeyIds). k.count) e ∙ omega arith,
    )

-- a key set at place n is the last of the first n + 1
keys-set : (ids : List KeyId) (n : ℕ) (k : KeyId) → n < length ids → keys (suc n) (set ids n k) ≡ keys n ids ++ (key_number k ∷ [])
keys-set [] n k h = let z : ⊥ = omega arith in absurd z
keys-set (x ∷ xs) zero k h = refl
keys-set (x ∷ xs) (suc n) k h = ap (λ (l : List ℕ). key_number x ∷ l) (keys-set xs n k (omega arith))

-- the next key of the others in the first place that is free
pub join_next :
    {t : List ℕ} (ids others : List KeyId) (n m i : ℕ) → n < length ids → i < m → m ≤ length others → keys n ids ++ drop i (keys m others) ≡ t
    → keys (n + 1) (set ids n (get_or others i (record { 0 = 0 }))) ++ drop (i + 1) (keys m others) ≡ t
join_next ids others n m i h l e t =
    rw (add-one n, keys-set ids n (get_or others i (record { 0 = 0 })) h) (append_assoc (keys n ids) _ (drop (i + 1) (keys m others)) ∙ rw (keys_next others m i e l) at t)
