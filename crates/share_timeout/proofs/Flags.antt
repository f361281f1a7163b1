-- Flags joined place by place, and the signers that they flag: those of one list put among those of the other.
-- Assumes nothing.
use Prim.Native.Nat.{ℕ, zero, suc, ◌<◌}
use mathlib.Core.Path.{◌≡◌, refl, ap, sym}
use mathlib.Core.Bool.{Bool, true, false, ◌||◌}
use mathlib.Core.List.{List, [], ◌∷◌}
use native.Mathlib.Omega.{arith}
use borrow.Author.Tests.{lt-ltb, le-ltb, eq-eqb, ne_eqb}
use lib.ListN.{length, get_or, set, take}
use Rattle.wire.specs.Bytes.{All}
use Rattle.step_definition.specs.Lists.{insert_by}
use Rattle.step_definition.specs.Ids.{insert, insert_all}
use Rattle.state.specs.declared.fields.SignerSlot.{SignerSlot}
use Rattle.state.specs.Slots.{Above, Rising, collect, with_some, when}
use Rattle.state.specs.View.{flagged_in}
use Rattle.share_timeout.specs.Exclusion.{joined_flags}

or_true : (x : Bool) → (x || true) ≡ true
or_true true = refl
or_true false = refl

or_false : (x : Bool) → (x || false) ≡ x
or_false true = refl
or_false false = refl

join_nil : (a : List Bool) → joined_flags a [] ≡ a
unfolding joined_flags
join_nil [] = refl
join_nil (x ∷ xs) = refl

-- one flag more is joined: set, or left as it is
pub join_set : (a b : List Bool) (i : ℕ) → i < length a → i < length b → get_or b i false ≡ true → set (joined_flags a (take i b)) i true ≡ joined_flags a (take (suc i) b)
unfolding joined_flags
join_set [] b i h k e = let z : ⊥ = omega arith in absurd z
join_set (x ∷ xs) [] i h k e = let z : ⊥ = omega arith in absurd z
join_set (x ∷ xs) (y ∷ ys) zero h k e = rw (e, or_true x, join_nil xs)
join_set (x ∷ xs) (y ∷ ys) (suc i) h k e = ap (λ (l : List Bool). (x || y) ∷ l) (join_set xs ys i (omega arith) (omega arith) e)

pub join_left : (a b : List Bool) (i : ℕ) → i < length a → i < length b → get_or b i false ≡ false → joined_flags a (take i b) ≡ joined_flags a (take (suc i) b)
unfolding joined_flags
join_left [] b i h k e = let z : ⊥ = omega arith in absurd z
join_left (x ∷ xs) [] i h k e = let z : ⊥ = omega arith in absurd z
join_left (x ∷ xs) (y ∷ ys) zero h k e = rw (e, or_false x, join_nil xs)
join_left (x ∷ xs) (y ∷ ys) (suc i) h k e = ap (λ (l : List Bool). (x || y) ∷ l) (join_left xs ys i (omega arith) (omega arith) e)

pub join_none : (a : List Bool) → a ≡ joined_flags a (take 0 [])
join_none a = sym (join_nil a)

joined_at : (a b : List Bool) (i : ℕ) → get_or (joined_flags a b) i false ≡ (get_or a i false || get_or b i false)
unfolding joined_flags
joined_at [] b i = refl
joined_at (x ∷ xs) [] zero = by x
  where
    by : (x : Bool) → x ≡ (x || false)
    by true = refl
    by false = refl
joined_at (x ∷ xs) [] (suc i) = by (get_or xs i false)
  where
    by : (x : Bool) → x ≡ (x || false)
    by true = refl
    by false = refl
joined_at (x ∷ xs) (y ∷ ys) zero = refl
joined_at (x ∷ xs) (y ∷ ys) (suc i) = joined_at xs ys i

-- an id below all the others goes in front, and those above it go behind it
front : (x : ℕ) (ys : List ℕ) → All (λ (y : ℕ). x < y) ys → insert x ys ≡ x ∷ ys
unfolding insert_by
front x [] a = refl
front x (y ∷ ys) a = rw (lt-ltb x y a.0)

behind : (x : ℕ) (xs ys : List ℕ) → All (λ (y : ℕ). x < y) xs → insert_all xs (x ∷ ys) ≡ x ∷ insert_all xs ys
unfolding insert_all insert_by
behind x [] ys a = refl
behind x (z ∷ xs) ys a =
    let l = a.0 in
    rw (behind x xs ys a.1, le-ltb z x (omega arith), ne_eqb z x (λ e. omega arith))

flagged-above : (flags : List Bool) (x : ℕ) (es : List SignerSlot) → Above x es → All (λ (y : ℕ). x < y) (collect (flagged_in flags) es)
unfolding collect with_some
flagged-above flags x [] a = tt
flagged-above flags x (e ∷ es) a = by (get_or flags e.slot false) (flagged-above flags x es a.1)
  where
    by : (b : Bool) → All (λ (y : ℕ). x < y) (collect (flagged_in flags) es) → All (λ (y : ℕ). x < y) (with_some (when b e.id) (collect (flagged_in flags) es))
    by true h = (a.0, h)
    by false h = h

-- the signers of joined flags
pub joined-flagged :
    (a b : List Bool) (es : List SignerSlot) → Rising es
    → collect (flagged_in (joined_flags a b)) es ≡ insert_all (collect (flagged_in a) es) (collect (flagged_in b) es)
unfolding collect with_some insert_all insert_by
joined-flagged a b [] r = refl
joined-flagged a b (e ∷ es) r =
    rw (joined_at a b e.slot)
    (by (get_or a e.slot false) (get_or b e.slot false) (joined-flagged a b es r.1) (flagged-above a e.id es r.0) (flagged-above (joined_flags a b) e.id es r.0))
  where
    both : List ℕ
    both = collect (flagged_in (joined_flags a b)) es

    xs : List ℕ
    xs = collect (flagged_in a) es

    ys : List ℕ
    ys = collect (flagged_in b) es

    by : (x y : Bool) → both ≡ insert_all xs ys → All (λ (z : ℕ). e.id < z) xs → All (λ (z : ℕ). e.id < z) both
        → with_some (when (x || y) e.id) both ≡ insert_all (with_some (when x e.id) xs) (with_some (when y e.id) ys)
    by true true h p q = rw (behind e.id xs ys p, le-ltb e.id e.id (omega arith), eq-eqb e.id e.id refl, h)
    by true false h p q = rw (← h) (sym (front e.id both q))
    by false true h p q = rw (behind e.id xs ys p, h)
    by false false h p q = h
