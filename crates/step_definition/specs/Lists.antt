-- Lists that stand for the Rust's maps: the first that passes a test (std's find), the first that passes changed, one put in its place by
-- its number.
use Rattle.std.specs.Prelude.{Option, Some, None, ℕ, Bool, cond, List, [], ◌∷◌, eqb, ltb}
pub use Rattle.std.specs.Option.{is_some}
pub use Rattle.std.specs.List.{find}

-- what is made of the one that is there; else b
abbrev pub given : {A B : Type 0} → Option A → (A → B) → B → B
given None f b = b
given (Some a) f b = f a

-- the first that passes changed by f; where none passes, `new` comes at the end
unfoldable pub change : {A : Type 0} → (A → Bool) → (A → A) → List A → List A → List A
change p f new [] = new
change p f new (x ∷ xs) = cond (p x) (f x ∷ xs) (x ∷ change p f new xs)

-- x put in its place by its number; one that is there already under that number stays
unfoldable pub insert_by : {A : Type 0} → (A → ℕ) → A → List A → List A
insert_by key x [] = x ∷ []
insert_by key x (y ∷ ys) = cond (ltb (key x) (key y)) (x ∷ (y ∷ ys)) (cond (eqb (key x) (key y)) (y ∷ ys) (y ∷ insert_by key x ys))

-- what the first says of which anything is said
unfoldable pub first : {A B : Type 0} → (A → Option B) → List A → Option B
first f [] = None
first f (x ∷ xs) = given (f x) Some (first f xs)
