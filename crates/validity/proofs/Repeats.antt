-- One key more: among the others, or its last byte noted.
-- Assumes nothing.
use Prim.Native.Nat.{ℕ, ◌+◌, ◌%◌, ◌<◌, ◌≤◌}
use mathlib.Core.Path.{◌≡◌, refl, sym, ◌∙◌}
use mathlib.Core.Bool.{Bool, true, false, cond, ◌||◌, false≢true, or-true, or_assoc}
use mathlib.Core.List.{List, [], ◌∷◌, ◌++◌, map, append_assoc}
use native.Mathlib.Numerals.{add-one}
use native.Mathlib.Omega.{arith}
use lib.Dec.{eqb}
use borrow.Author.Tests.{eqb-true, eqb-false, eq-eqb}
use lib.ListN.{length, get_or, set, take, drop, length-map, get_or-map}
use lib.Seq.{get_or-set_same, get_or-set_other, take-suc, drop-cons}
use Rattle.wire.proofs.Lists.{and_both}
use Rattle.std.proofs.lemmas.List.{take-map}
use Rattle.layout.specs.declared.KeyId.{KeyId}
use Rattle.validity.specs.declared.keys.KeyIds.{KeyIds}
use Rattle.validity.specs.Keys.{key_number, key_of, key_at, keys_before, member, subset, repeats, repeats_after}
use Rattle.validity.specs.Notes.{Noted}

pub member_append : (x : ℕ) (xs ys : List ℕ) → member x (xs ++ ys) ≡ (member x xs || member x ys)
member_append x [] ys = refl
member_append x (z ∷ xs) ys = rw (member_append x xs ys) (sym (or_assoc (eqb x z) (member x xs) (member x ys)))

pub member_last : (x y : ℕ) (xs : List ℕ) → member x (xs ++ (y ∷ [])) ≡ (eqb x y || member x xs)
member_last x y xs = member_append x xs (y ∷ []) ∙ turned (member x xs) (eqb x y)
  where
    turned : (a b : Bool) → (a || (b || false)) ≡ (b || a)
    turned true true = refl
    turned true false = refl
    turned false true = refl
    turned false false = refl

-- each key of a list is in it, whatever stands before
within_self : (before xs : List ℕ) → subset xs (before ++ xs) ≡ true
unfolding subset
within_self before [] = refl
within_self before (x ∷ xs) =
    let here : member x (before ++ (x ∷ xs)) ≡ true =
    rw (member_append x before (x ∷ xs), eq-eqb x x refl) (or-true (member x before)) in
    and_both (member x (before ++ (x ∷ xs))) (subset xs (before ++ (x ∷ xs))) here
    (rw (append_assoc before (x ∷ []) xs) at (within_self (before ++ (x ∷ [])) xs))

pub subset_self : (xs : List ℕ) → subset xs xs ≡ true
subset_self xs = within_self [] xs

-- an id whose last byte is not noted is none of them
pub not_noted : (seen : List Bool) (xs : List ℕ) (x : ℕ) → Noted seen xs → get_or seen (x % 256) false ≡ false → member x xs ≡ false
not_noted seen xs x noted n = by (member x xs) refl
  where
    by : (b : Bool) → member x xs ≡ b → b ≡ false
    by true m = absurd (false≢true (sym n ∙ noted x m))
    by false m = refl

note_kept : (seen : List Bool) (i j : ℕ) → i < length seen → get_or seen j false ≡ true → get_or (set seen i true) j false ≡ true
note_kept seen i j low s = by (eqb j i) refl
  where
    by : (b : Bool) → eqb j i ≡ b → get_or (set seen i true) j false ≡ true
    by true e = rw (eqb-true j i e) (get_or-set_same seen i true false low)
    by false e = get_or-set_other seen i j true false (eqb-false j i e) ∙ s

pub noted_last : (seen : List Bool) (xs : List ℕ) (x last : ℕ) → last ≡ x % 256 → last < length seen → Noted seen xs
    → Noted (set seen last true) (xs ++ (x ∷ []))
noted_last seen xs x last is low noted y m = by (member y xs) (eqb y x) refl refl (rw (member_append y xs (x ∷ [])) at m)
  where
    by : (a b : Bool) → member y xs ≡ a → eqb y x ≡ b → (a || (b || false)) ≡ true → get_or (set seen last true) (y % 256) false ≡ true
    by true b m e t = note_kept seen last (y % 256) low (noted y m)
    by false true m e t = rw (eqb-true y x e, ← is) (get_or-set_same seen last true false low)
    by false false m e t = absurd (false≢true t)

-- the next place of a KeyIds
pub before_next : (k : KeyIds) (n i : ℕ) → i < n → n ≤ length k.ids → keys_before k (i + 1) ≡ keys_before k i ++ (key_at k i ∷ [])
before_next k n i low few =
    rw (add-one, take-suc (map key_number k.ids) i 0 (rw length-map (omega arith)), get_or-map key_number k.ids i (key_of 0))

-- the next key of the list
module _ (list : List KeyId) (i : ℕ) (low : i < length list) where
  -- the numbers of all, and of those before it
  abbrev xs : List ℕ
  xs = map key_number list

  abbrev key : ℕ
  key = key_number (get_or list i (key_of 0))

  taken_next : take (i + 1) xs ≡ take i xs ++ (key ∷ [])
  taken_next = rw (add-one, take-suc xs i 0 (rw length-map low), get_or-map key_number list i (key_of 0))

  repeats-next : repeats_after (take i xs) (drop i xs) ≡ cond (member key (take i xs)) 1 0 + repeats_after (take (i + 1) xs) (drop (i + 1) xs)
  unfolding repeats_after
  repeats-next = rw (drop-cons xs i 0 (rw length-map low), get_or-map key_number list i (key_of 0), taken_next, add-one)

  -- what is known of it where its last byte is not noted
  pub new : (seen : List Bool) → Noted seen (take i xs) → get_or seen (key % 256) false ≡ false → member key (map key_number (take i list)) ≡ false
  new seen noted n = rw (← take-map key_number i list) (not_noted seen (take i xs) key noted n)

  -- a repeat counts, and another key does not
  pub counted : (found : ℕ) → found + repeats_after (take i xs) (drop i xs) ≡ repeats xs
      → found + cond (member key (map key_number (take i list))) 1 0 + repeats_after (take (i + 1) xs) (drop (i + 1) xs) ≡ repeats xs
  counted found e = rw (← take-map key_number i list) (omega (arith, e, repeats-next))

  pub noted_next : (seen : List Bool) (last : ℕ) → length seen ≡ 256 → last ≡ key % 256 → Noted seen (take i xs)
      → Noted (set seen last true) (take (i + 1) xs)
  noted_next seen last long is noted = rw taken_next (noted_last seen (take i xs) key last is (omega (arith, is)) noted)
