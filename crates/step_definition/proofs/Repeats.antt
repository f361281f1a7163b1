-- The count of a comparison is 0 exactly where no entry repeats, and the mark is found by the counts and the keys that lists share.
-- Assumes nothing.
use Prim.Native.Nat.{ℕ, suc, ◌+◌}
use mathlib.Core.Path.{◌≡◌, refl, sym, ap, ◌∙◌}
use mathlib.Core.Bool.{Bool, true, false, cond, not, ◌&&◌, ◌||◌, and-true, and_assoc, or-false}
use mathlib.Core.List.{List, [], ◌∷◌, ◌++◌}
use native.Mathlib.Nat.{zero-add}
use native.Mathlib.Omega.{arith}
use borrow.Author.Tests.{eqb-true, eq-eqb, eqb-false, ne_eqb}
use lib.Dec.{eqb}
use lib.ListN.{length}
use Rattle.wire.specs.Bytes.{every}
use Rattle.wire.proofs.Lists.{and_false, every_append}
use Rattle.layout.specs.Messages.{NonceResponse}
use Rattle.validity.specs.Keys.{member, disjoint, repeats_after, repeats}
use Rattle.validity.proofs.Repeats.{member_append, member_last}
use Rattle.step_definition.specs.Ids.{insert, insert_all, distinct}
use Rattle.step_definition.specs.Coordinator.{SignerShares}
use Rattle.step_definition.specs.Effects.{joined_keys, all_shared, whole}
use Rattle.step_definition.specs.Shared.{no_repeats, none_shared}
use Rattle.step_definition.proofs.Ascending.{insert_all_ascends, member-insert_all, unchanged, grown}

-- four tests in another order
regroup : (a b c d : Bool) → (a && ((b && c) && d)) ≡ ((a && b) && (d && c))
regroup false b c d = refl
regroup true false c d = refl
regroup true true true d = sym (and-true d)
regroup true true false d = sym (and_false d)

eqb_swap : (x y : ℕ) → eqb x y ≡ eqb y x
eqb_swap x y = by (eqb y x) refl
  where
    by : (b : Bool) → eqb y x ≡ b → eqb x y ≡ b
    by true e = eq-eqb x y (sym (eqb-true y x e))
    by false e = ne_eqb x y (λ s. eqb-false y x e (sym s))

-- a list shares nothing with an empty one, nor with two where with neither
disjoint_nil : (ys : List ℕ) → disjoint [] ys ≡ true
unfolding disjoint
disjoint_nil [] = refl
disjoint_nil (y ∷ ys) = disjoint_nil ys

disjoint_cons : (x : ℕ) (xs ys : List ℕ) → disjoint (x ∷ xs) ys ≡ (not (member x ys) && disjoint xs ys)
unfolding disjoint
disjoint_cons x xs [] = refl
disjoint_cons x xs (y ∷ ys) =
    rw (disjoint_cons x xs ys, eqb_swap y x) (by (eqb x y) (member y xs) (member x ys) (disjoint xs ys))
  where
    by : (e m n d : Bool) → (not (e || m) && (not n && d)) ≡ (not (e || n) && (not m && d))
    by true m n d = refl
    by false true n d = sym (and_false (not n))
    by false false n d = refl

disjoint_last : (xs : List ℕ) (x : ℕ) (ys : List ℕ) → disjoint (xs ++ (x ∷ [])) ys ≡ (disjoint xs ys && not (member x ys))
disjoint_last [] x ys = rw (disjoint_cons x [] ys, disjoint_nil ys) (and-true (not (member x ys)))
disjoint_last (z ∷ xs) x ys =
    rw (disjoint_cons z (xs ++ (x ∷ [])) ys, disjoint_last xs x ys, disjoint_cons z xs ys)
    (sym (and_assoc (not (member z ys)) (disjoint xs ys) (not (member x ys))))

-- two lists, joined: none twice in either, and none in both
pub distinct_append : (xs ys : List ℕ) → distinct (xs ++ ys) ≡ (distinct xs && (distinct ys && disjoint xs ys))
unfolding distinct
distinct_append [] ys = rw (disjoint_nil ys) (sym (and-true (distinct ys)))
distinct_append (x ∷ xs) ys =
    rw (distinct_append xs ys, member_append x xs ys, disjoint_cons x xs ys)
    (by (member x xs) (member x ys) (distinct xs) (distinct ys) (disjoint xs ys))
  where
    by : (m n d e s : Bool) → (not (m || n) && (d && (e && s))) ≡ ((not m && d) && (e && (not n && s)))
    by true n d e s = refl
    by false true d e s = rw (and_false e) (sym (and_false d))
    by false false d e s = refl

none_after : (before xs : List ℕ) → eqb (repeats_after before xs) 0 ≡ (disjoint before xs && distinct xs)
unfolding repeats_after disjoint distinct
none_after before [] = refl
none_after before (x ∷ xs) = by (member x before) (none_after (before ++ (x ∷ [])) xs)
  where
    n : ℕ
    n = repeats_after (before ++ (x ∷ [])) xs

    by : (b : Bool) → eqb n 0 ≡ (disjoint (before ++ (x ∷ [])) xs && distinct xs)
        → eqb (cond b 1 0 + n) 0 ≡ ((not b && disjoint before xs) && (not (member x xs) && distinct xs))
    by true h = ne_eqb (1 + n) 0 (λ (e : 1 + n ≡ 0). omega (arith, e))
    by false h = rw (zero-add n, h, disjoint_last before x xs) (and_assoc (disjoint before xs) (not (member x xs)) (distinct xs))

-- the count is 0 exactly where no entry repeats an earlier one
pub no_repeats_law : (xs : List ℕ) → eqb (repeats xs) 0 ≡ distinct xs
no_repeats_law xs = none_after [] xs ∙ ap (λ (b : Bool). b && distinct xs) (disjoint_nil xs)

disjoint-joined : (ks : List ℕ) (qs : List NonceResponse)
    → disjoint ks (joined_keys qs) ≡ every (λ (q : NonceResponse). disjoint ks q.key_ids) qs
unfolding joined_keys disjoint
disjoint-joined ks [] = refl
disjoint-joined ks (q ∷ qs) =
    every_append (λ (y : ℕ). not (member y ks)) q.key_ids (joined_keys qs)
    ∙ ap (λ (b : Bool). disjoint ks q.key_ids && b) (disjoint-joined ks qs)

-- no key twice in the joined list: each count is 0, and nothing is shared
pub joined_once : (set : NonceResponse → List ℕ) (qs : List NonceResponse)
    → distinct (joined_keys qs) ≡ (no_repeats set qs && none_shared qs)
unfolding joined_keys distinct none_shared
joined_once set [] = refl
joined_once set (q ∷ qs) =
    rw (distinct_append q.key_ids (joined_keys qs), joined_once set qs, disjoint-joined q.key_ids qs, no_repeats_law q.key_ids)
    (regroup (distinct q.key_ids) (no_repeats set qs) (none_shared qs)
    (every (λ (t : NonceResponse). disjoint q.key_ids t.key_ids) qs))

-- so the mark "stays as c) says"
pub whole-counted : (set : NonceResponse → List ℕ) (qs : List NonceResponse) (held : List SignerShares)
    → whole qs held ≡ (all_shared qs held && (no_repeats set qs && none_shared qs))
unfolding whole
whole-counted set qs held = rw (joined_once set qs)

-- one more that stands before: the first entry that has it is a repeat now, if it was none
one_before : (x : ℕ) (before xs : List ℕ)
    → repeats_after (x ∷ before) xs ≡ cond (member x xs && not (member x before)) 1 0 + repeats_after before xs
unfolding repeats_after
one_before x before [] = refl
one_before x before (y ∷ ys) =
    let n = repeats_after (before ++ (y ∷ [])) ys in
    let later : repeats_after (x ∷ (before ++ (y ∷ []))) ys ≡ cond (member x ys && not (eqb x y || member x before)) 1 0 + n =
    rw (member_last x y before) at (one_before x (before ++ (y ∷ [])) ys) in
    rw (later, eqb_swap y x) (by (eqb x y) refl (member x ys) n)
  where
    two : (b : Bool) → cond (not b) 1 0 + cond b 1 0 ≡ 1
    two true = refl
    two false = refl

    by : (e : Bool) → eqb x y ≡ e → (p : Bool) (n : ℕ)
        → cond (e || member y before) 1 0 + (cond (p && not (e || member x before)) 1 0 + n)
        ≡ cond ((e || p) && not (member x before)) 1 0 + (cond (member y before) 1 0 + n)
    by true e p n =
        let m = member x before in
        let same : member y before ≡ m = ap (λ (z : ℕ). member z before) (sym (eqb-true x y e)) in
        rw (same, and_false p) (omega (arith, two m))
    by false e p n = omega arith

-- an entry is the first of its key or a repeat
pub repeats_and_different : (xs : List ℕ) → repeats xs + length (insert_all xs []) ≡ length xs
unfolding insert_all repeats_after
repeats_and_different [] = refl
repeats_and_different (x ∷ xs) = by (member x xs) refl (repeats_and_different xs)
  where
    zs : List ℕ
    zs = insert_all xs []

    there : member x zs ≡ member x xs
    there = member-insert_all x xs [] ∙ or-false (member x xs)

    by : (b : Bool) → member x xs ≡ b → repeats xs + length zs ≡ length xs → repeats (x ∷ xs) + length (insert x zs) ≡ suc (length xs)
    by true m h =
        let one : repeats_after (x ∷ []) xs ≡ 1 + repeats xs = rw m at (one_before x [] xs) in
        rw (unchanged x zs (insert_all_ascends xs [] tt) (there ∙ m)) (omega (arith, one, h))
    by false m h =
        let none : repeats_after (x ∷ []) xs ≡ 0 + repeats xs = rw m at (one_before x [] xs) in
        rw (grown x zs (there ∙ m)) (omega (arith, none, h))
