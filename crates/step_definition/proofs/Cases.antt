-- Cases over a test, and over what may be there: what holds of both outcomes holds of the one that is taken.
-- Assumes nothing.
use mathlib.Core.Path.{◌≡◌, refl}
use mathlib.Core.Bool.{Bool, true, false, cond}
use Rattle.std.specs.Prelude.{Option, Some, None}
use Rattle.step_definition.specs.Lists.{given}

pub cond_case : {A : Type 0} (P : A → Type 0) (t : Bool) {a b : A} → (t ≡ true → P a) → (t ≡ false → P b) → P (cond t a b)
cond_case P true f g = f refl
cond_case P false f g = g refl

pub cond_both : {A : Type 0} (P : A → Type 0) (t : Bool) {a b : A} → P a → P b → P (cond t a b)
cond_both P t p q = cond_case P t (λ e. p) (λ e. q)

-- a function of what a test takes
pub cond_image : {A B : Type 0} (f : A → B) (t : Bool) {a b : A} {x y : B} → x ≡ f a → y ≡ f b → cond t x y ≡ f (cond t a b)
cond_image f true p q = p
cond_image f false p q = q

pub given_case :
    {A B : Type 0} (P : B → Type 0) (o : Option A) {f : A → B} {b : B} → ((a : A) → o ≡ Some a → P (f a)) → (o ≡ None → P b)
    → P (given o f b)
given_case P None f g = g refl
given_case P (Some a) f g = f a refl

pub given_both : {A B : Type 0} (P : B → Type 0) (o : Option A) {f : A → B} {b : B} → ((a : A) → P (f a)) → P b → P (given o f b)
given_both P o f g = given_case P o (λ a e. f a) (λ e. g)
