-- One id more: none twice, or one that was there.
-- Assumes nothing.
use Prim.Native.Nat.{ℕ, suc, ◌<◌}
use mathlib.Core.Path.{◌≡◌}
use mathlib.Core.Bool.{true, false}
use mathlib.Core.List.{List, [], ◌∷◌, ◌++◌}
use lib.ListN.{length, get_or, take, drop}
use lib.Seq.{split_at}
use Rattle.wire.proofs.Lists.{and_false}
use Rattle.validity.specs.Keys.{member, disjoint}
use Rattle.step_definition.specs.Ids.{distinct}
use Rattle.step_definition.proofs.Repeats.{distinct_append}

-- an id that is new is one more that is not there twice
pub distinct_last : (xs : List ℕ) (x : ℕ) → member x xs ≡ false → distinct xs ≡ true → distinct (xs ++ (x ∷ [])) ≡ true
unfolding distinct disjoint
distinct_last xs x m d = rw (distinct_append xs (x ∷ []), d, m)

-- an id that is among those before it is there twice
pub twice : (xs : List ℕ) (i : ℕ) → i < length xs → member (get_or xs i 0) (take i xs) ≡ true → distinct xs ≡ false
unfolding disjoint
twice xs i l m =
    let before = take i xs in
    let rest = get_or xs i 0 ∷ drop (suc i) xs in
    let shared : disjoint before rest ≡ false = rw m in
    let joined : distinct (before ++ rest) ≡ false =
    rw (distinct_append before rest, shared, and_false (distinct rest)) (and_false (distinct before)) in
    rw (← split_at xs i 0 l) at joined
