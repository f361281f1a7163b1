-- Laws of lists in which one element is found or changed.
-- Assumes nothing.
use Prim.Native.Nat.{ℕ, suc, ◌≤◌}
use mathlib.Core.Bool.{Bool}
use mathlib.Core.List.{List, [], ◌∷◌, ◌++◌}
use native.Mathlib.Omega.{arith}
use lib.Dec.{eqb, ltb}
use lib.ListN.{length}
use Rattle.wire.specs.Bytes.{All}
use Rattle.wire.proofs.Lists.{all_imp}
use Rattle.step_definition.specs.Lists.{given, find, change, insert_by}
use Rattle.step_definition.proofs.Cases.{cond_both}

-- what is made of the first that passes
pub found :
    {A B : Type 0} (P : A → Type 0) (Q : B → Type 0) (p : A → Bool) (xs : List A) {f : A → B} {b : B}
    → ((x : A) → P x → Q (f x)) → Q b → All P xs → Q (given (find p xs) f b)
found P Q p [] g z a = z
found P Q p (x ∷ xs) {f = f} {b = b} g z a = cond_both (λ o. Q (given o f b)) (p x) (g x a.0) (found P Q p xs g z a.1)

-- the first that passes changed, of which another thing holds then
pub changed :
    {A : Type 0} (P Q : A → Type 0) (p : A → Bool) (f : A → A) (new xs : List A)
    → ((x : A) → P x → Q x) → ((x : A) → P x → Q (f x)) → All Q new → All P xs → All Q (change p f new xs)
unfolding change
changed P Q p f new [] w g n a = n
changed P Q p f new (x ∷ xs) w g n a =
    cond_both (All Q) (p x) (g x a.0, all_imp xs w a.1) (w x a.0, changed P Q p f new xs w g n a.1)

-- what holds of all, and of one that is changed and of the new, holds of all after
pub all_change :
    {A : Type 0} (P : A → Type 0) (p : A → Bool) (f : A → A) (new xs : List A) → ((x : A) → P x → P (f x)) → All P new → All P xs
    → All P (change p f new xs)
all_change P p f new xs keeps n a = changed P P p f new xs (λ x h. h) keeps n a

pub all_append : {A : Type 0} (P : A → Type 0) (xs ys : List A) → All P xs → All P ys → All P (xs ++ ys)
all_append P [] ys a b = b
all_append P (x ∷ xs) ys a b = (a.0, all_append P xs ys a.1 b)

-- one put in its place makes a list at most one longer
pub length-insert_by : {A : Type 0} (key : A → ℕ) (x : A) (ys : List A) → length (insert_by key x ys) ≤ suc (length ys)
unfolding insert_by
length-insert_by key x [] = omega arith
length-insert_by {A} key x (y ∷ ys) =
    let P : List A → Type 0 = λ l. length l ≤ suc (suc (length ys)) in
    let before : P (x ∷ (y ∷ ys)) = omega arith in
    let there : P (y ∷ ys) = omega arith in
    let after : P (y ∷ insert_by key x ys) = omega (arith, length-insert_by key x ys) in
    cond_both P (ltb (key x) (key y)) before (cond_both P (eqb (key x) (key y)) there after)

pub all_insert : {A : Type 0} (P : A → Type 0) (key : A → ℕ) (x : A) (ys : List A) → P x → All P ys → All P (insert_by key x ys)
unfolding insert_by
all_insert P key x [] p a = (p, tt)
all_insert P key x (y ∷ ys) p a =
    cond_both (All P) (ltb (key x) (key y)) (p, a) (cond_both (All P) (eqb (key x) (key y)) a (a.0, all_insert P key x ys p a.1))
