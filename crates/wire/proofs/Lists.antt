-- Laws of lists, tests and joined parts.
-- Assumes nothing.
use Prim.Native.Nat.{ℕ, zero, suc, ◌+◌, ◌*◌, ◌≤◌, ◌<◌}
use mathlib.Core.Path.{◌≡◌, refl, sym, ap, ap₂, ◌∙◌}
use mathlib.Core.Bool.{Bool, true, false, ◌&&◌, and_assoc, false≢true}
use mathlib.Core.List.{List, [], ◌∷◌, ◌++◌, map, append_assoc}
use native.Mathlib.Nat.{zero-mul, suc-mul, add_comm}
use native.Mathlib.Omega.{arith}
use lib.ListN.{length, get_or, length-append}
use Rattle.wire.specs.Bytes.{joined, every, All}

-- a chain of tests passes where each does
pub and_left : (a b : Bool) → a && b ≡ true → a ≡ true
and_left true b e = refl
and_left false b e = e

pub and_right : (a b : Bool) → a && b ≡ true → b ≡ true
and_right true b e = e
and_right false b e = absurd (false≢true e)

pub and_both : (a b : Bool) → a ≡ true → b ≡ true → a && b ≡ true
and_both true b ea eb = eb
and_both false b ea eb = ea

pub and_false : (a : Bool) → a && false ≡ false
and_false true = refl
and_false false = refl

-- a test moves from what is left to what is done
pub and_moved : (x s r : Bool) → ((x && s) && r) ≡ (s && (x && r))
and_moved true s r = refl
and_moved false s r = sym (and_false s)

pub and_yes : (s r : Bool) → true ≡ r → (s && r) ≡ s
and_yes true r e = sym e
and_yes false r e = refl

module _ {A : Type 0} where
  -- what passes at every element passes at each
  pub the_every_at : (f : A → Bool) (xs : List A) (i : ℕ) (d : A) → every f xs ≡ true → i < length xs → f (get_or xs i d) ≡ true
  the_every_at f [] i d e h = let z : ⊥ = omega arith in absurd z
  the_every_at f (x ∷ xs) zero d e h = and_left (f x) (every f xs) e
  the_every_at f (x ∷ xs) (suc i) d e h = the_every_at f xs i d (and_right (f x) (every f xs) e) (omega arith)

  pub every_all : (f : A → Bool) (xs : List A) → every f xs ≡ true → All (λ (x : A). f x ≡ true) xs
  every_all f [] e = tt
  every_all f (x ∷ xs) e = (and_left (f x) (every f xs) e, every_all f xs (and_right (f x) (every f xs) e))

  pub all_every : (f : A → Bool) (xs : List A) → All (λ (x : A). f x ≡ true) xs → every f xs ≡ true
  all_every f [] h = refl
  all_every f (x ∷ xs) h = and_both (f x) (every f xs) h.0 (all_every f xs h.1)

  pub every_append : (f : A → Bool) (xs ys : List A) → every f (xs ++ ys) ≡ (every f xs && every f ys)
  every_append f [] ys = refl
  every_append f (x ∷ xs) ys = rw (every_append f xs ys) (sym (and_assoc (f x) (every f xs) (every f ys)))

  -- what holds of every element gives what follows from it
  pub all_imp : {P Q : A → Type 0} (xs : List A) → ((x : A) → P x → Q x) → All P xs → All Q xs
  all_imp [] f h = tt
  all_imp (x ∷ xs) f h = (f x h.0, all_imp xs f h.1)

  -- two facts of every element at once
  pub all_both : (P Q : A → Type 0) (xs : List A) → All P xs → All Q xs → All (λ (x : A). P x × Q x) xs
  all_both P Q [] p q = tt
  all_both P Q (x ∷ xs) p q = ((p.0, q.0), all_both P Q xs p.1 q.1)

module _ {A B : Type 0} where
  -- a fact of the images is one of the elements
  pub all_unmap : (P : B → Type 0) (f : A → B) (xs : List A) → All P (map f xs) → All (λ (x : A). P (f x)) xs
  all_unmap P f [] h = tt
  all_unmap P f (x ∷ xs) h = (h.0, all_unmap P f xs h.1)

  pub all_map : (P : B → Type 0) (f : A → B) (xs : List A) → All (λ (x : A). P (f x)) xs → All P (map f xs)
  all_map P f [] h = tt
  all_map P f (x ∷ xs) h = (h.0, all_map P f xs h.1)

  -- a map that every element undoes
  pub map_back : (f : A → B) (g : B → A) (xs : List A) → All (λ (x : A). g (f x) ≡ x) xs → map g (map f xs) ≡ xs
  map_back f g [] h = refl
  map_back f g (x ∷ xs) h = ap₂ {C = List A} (λ y ys. y ∷ ys) h.0 (map_back f g xs h.1)

pub joined_append : (ps qs : List (List ℕ)) → joined (ps ++ qs) ≡ joined ps ++ joined qs
joined_append [] qs = refl
joined_append (p ∷ ps) qs = ap (λ (l : List ℕ). p ++ l) (joined_append ps qs) ∙ sym (append_assoc p (joined ps) (joined qs))

-- parts of one length
pub length-joined : (w : ℕ) (ps : List (List ℕ)) → All (λ (p : List ℕ). length p ≡ w) ps → length (joined ps) ≡ length ps * w
length-joined w [] h = sym (zero-mul w)
length-joined w (p ∷ ps) h = rw (length-append, h.0, length-joined w ps h.1, suc-mul) (add_comm w (length ps * w))

-- parts of at most one length
pub length-joined-le : (w : ℕ) (ps : List (List ℕ)) → All (λ (p : List ℕ). length p ≤ w) ps → length (joined ps) ≤ length ps * w
length-joined-le w [] h = omega arith
length-joined-le w (p ∷ ps) h = omega (arith, length-append p (joined ps), h.0, length-joined-le w ps h.1, suc-mul (length ps) w)

-- no part is longer than all together
pub all_joined : (ps : List (List ℕ)) → All (λ (p : List ℕ). length p ≤ length (joined ps)) ps
all_joined [] = tt
all_joined (p ∷ ps) =
    let e : length (p ++ joined ps) ≡ length p + length (joined ps) = length-append p (joined ps) in
    (omega arith, all_imp ps (λ q h. omega arith) (all_joined ps))
