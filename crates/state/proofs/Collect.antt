-- Laws of what is collected over the signers' slots: the same list, one more in it, a search by number.
-- Assumes nothing.
use Prim.Native.Nat.{ℕ, suc, ◌<◌, ◌≤◌}
use mathlib.Core.Path.{◌≡◌, refl, sym, ap, ◌∙◌}
use mathlib.Core.Bool.{Bool, true, false, cond, ◌||◌}
use mathlib.Core.List.{List, [], ◌∷◌}
use Rattle.std.specs.Prelude.{Option, Some, None}
use native.Mathlib.Omega.{arith}
use borrow.Author.Tests.{lt-ltb, le-ltb, eq-eqb, ne_eqb}
use lib.Dec.{eqb}
use lib.ListN.{length}
use Rattle.wire.specs.Bytes.{every, All}
use Rattle.wire.proofs.Lists.{and_both, all_imp}
use Rattle.validity.specs.Keys.{member}
use Rattle.step_definition.specs.Lists.{is_some, find, insert_by}
use Rattle.state.specs.declared.fields.SignerSlot.{SignerSlot}
use Rattle.state.specs.Slots.{Above, Rising, with_some, collect, when}
use Rattle.state.proofs.SignerSlots.{In, here, later, in_all}

-- what is there under a condition
pub when_same : {A : Type 0} (b : Bool) (x y : A) → (b ≡ true → x ≡ y) → when b x ≡ when b y
when_same true x y h = ap Some (h refl)
when_same false x y h = refl

pub when_some : {A : Type 0} (b : Bool) (x y : A) → when b x ≡ Some y → x ≡ y
when_some true x y e = cc
when_some false x y e = let z : ◌≡◌ {A = ℕ} 0 1 = cc in let f : ⊥ = omega arith in absurd f

pub when_is : {A : Type 0} (b : Bool) (x : A) → is_some (when b x) ≡ b
when_is true x = refl
when_is false x = refl

module _ {A : Type 0} where
  pub collect_same : (f g : SignerSlot → Option A) (es : List SignerSlot) → All (λ (e : SignerSlot). f e ≡ g e) es → collect f es ≡ collect g es
  unfolding collect
  collect_same f g [] a = refl
  collect_same f g (e ∷ es) a = rw (a.0, collect_same f g es a.1)

  pub collect_none : (f : SignerSlot → Option A) (es : List SignerSlot) → ((e : SignerSlot) → f e ≡ None) → collect f es ≡ []
  unfolding collect with_some
  collect_none f [] h = refl
  collect_none f (e ∷ es) h = rw (h e) (collect_none f es h)

  pub collect_length : (f : SignerSlot → Option A) (es : List SignerSlot) → length (collect f es) ≤ length es
  unfolding collect with_some
  collect_length f [] = omega arith
  collect_length f (e ∷ es) = by (f e) (collect_length f es)
    where
      by : (o : Option A) → length (collect f es) ≤ length es → length (with_some o (collect f es)) ≤ suc (length es)
      by None h = omega arith
      by (Some x) h = omega arith

  -- what passes where it is there, of each slot
  pub collect_every : (p : A → Bool) (f : SignerSlot → Option A) (es : List SignerSlot)
      → All (λ (e : SignerSlot). (x : A) → f e ≡ Some x → p x ≡ true) es → every p (collect f es) ≡ true
  unfolding collect with_some
  collect_every p f [] a = refl
  collect_every p f (e ∷ es) a = by (f e) a.0 (collect_every p f es a.1)
    where
      by : (o : Option A) → ((x : A) → o ≡ Some x → p x ≡ true) → every p (collect f es) ≡ true → every p (with_some o (collect f es)) ≡ true
      by None h r = r
      by (Some x) h r = and_both (p x) (every p (collect f es)) (h x refl) r

-- each slot holds what has its id for a number
module _ {A : Type 0} (key : A → ℕ) (f : SignerSlot → Option A) (keyed : (e : SignerSlot) (y : A) → f e ≡ Some y → key y ≡ e.id) where
  insert-above : (x : A) (es : List SignerSlot) → Above (key x) es → insert_by key x (collect f es) ≡ x ∷ collect f es
  unfolding collect with_some insert_by
  insert-above x [] a = refl
  insert-above x (e ∷ es) a = by (f e) refl (insert-above x es a.1)
    where
      by : (o : Option A) → f e ≡ o → insert_by key x (collect f es) ≡ x ∷ collect f es → insert_by key x (with_some o (collect f es)) ≡ x ∷ with_some o (collect f es)
      by None q r = r
      by (Some y) q r = rw (lt-ltb (key x) (key y) (omega (arith, keyed e y q, a.0)))

  -- one slot more holds something: it is inserted in its place
  pub collect-insert :
      (x : A) (f' : SignerSlot → Option A) (t : SignerSlot) (es : List SignerSlot) → key x ≡ t.id → f t ≡ None → f' t ≡ Some x → Rising es → In t es
      → All (λ (e : SignerSlot). (e.id ≡ t.id → ⊥) → f' e ≡ f e) es → collect f' es ≡ insert_by key x (collect f es)
  unfolding collect with_some insert_by
  collect-insert x f' t (e ∷ es) k n s a here o =
      let rest : collect f' es ≡ collect f es = collect_same f' f es (others es a.0 o.1) in
      rw (n, s, rest) (sym (insert-above x es (rw k a.0)))
    where
      others : (es : List SignerSlot) → Above t.id es → All (λ (e : SignerSlot). (e.id ≡ t.id → ⊥) → f' e ≡ f e) es → All (λ (e : SignerSlot). f' e ≡ f e) es
      others [] b o = tt
      others (d ∷ ds) b o = (o.0 (λ q. omega (arith, b.0)), others ds b.1 o.1)
  collect-insert x f' t (e ∷ es) k n s a (later i) o =
      let below : e.id < t.id = in_all (λ (z : SignerSlot). e.id < z.id) i a.0 in
      let rest : collect f' es ≡ insert_by key x (collect f es) = collect-insert x f' t es k n s a.1 i o.1 in
      rw (o.0 (λ q. omega arith), rest) (by below (f e) refl)
    where
      by : e.id < t.id → (p : Option A) → f e ≡ p → with_some p (insert_by key x (collect f es)) ≡ insert_by key x (with_some p (collect f es))
      by l None q = refl
      by l (Some y) q =
          let m : key y < key x = omega (arith, keyed e y q) in
          rw (le-ltb (key x) (key y) (omega arith), ne_eqb (key x) (key y) (λ p. omega arith))
  collect-insert x f' t [] k n s a x7 o = elim x7 [ ]

  -- a search by number finds what the signer's slot holds
  pub find_out : (id : ℕ) (es : List SignerSlot) → All (λ (e : SignerSlot). e.id ≡ id → ⊥) es → find (λ (y : A). eqb id (key y)) (collect f es) ≡ None
  unfolding collect with_some
  find_out id [] a = refl
  find_out id (e ∷ es) a = by (f e) refl (find_out id es a.1)
    where
      by : (o : Option A) → f e ≡ o → find (λ (y : A). eqb id (key y)) (collect f es) ≡ None → find (λ (y : A). eqb id (key y)) (with_some o (collect f es)) ≡ None
      by None q r = r
      by (Some y) q r = rw (ne_eqb id (key y) (λ p. a.0 (sym (keyed e y q) ∙ sym p))) r

  pub find_in : (t : SignerSlot) (es : List SignerSlot) → Rising es → In t es → find (λ (y : A). eqb t.id (key y)) (collect f es) ≡ f t
  unfolding collect with_some
  find_in t (e ∷ es) a here = by (f t) refl (find_out t.id es (all_imp es (λ (d : SignerSlot) (l : t.id < d.id) (p : d.id ≡ t.id). omega arith) a.0))
    where
      by : (o : Option A) → f t ≡ o → find (λ (y : A). eqb t.id (key y)) (collect f es) ≡ None → find (λ (y : A). eqb t.id (key y)) (with_some o (collect f es)) ≡ o
      by None q r = r
      by (Some y) q r = rw (eq-eqb t.id (key y) (sym (keyed t y q)))
  find_in t (e ∷ es) a (later i) = by (in_all (λ (d : SignerSlot). e.id < d.id) i a.0) (f e) refl (find_in t es a.1 i)
    where
      by : e.id < t.id → (o : Option A) → f e ≡ o → find (λ (y : A). eqb t.id (key y)) (collect f es) ≡ f t
          → find (λ (y : A). eqb t.id (key y)) (with_some o (collect f es)) ≡ f t
      by l None q r = r
      by l (Some y) q r = rw (ne_eqb t.id (key y) (λ p. omega (arith, keyed e y q))) r
  find_in t [] a x'' = elim x'' [ ]

-- a member is found
pub member_found : (id : ℕ) (xs : List ℕ) → member id xs ≡ is_some (find (λ (x : ℕ). eqb id x) xs)
member_found id [] = refl
member_found id (x ∷ xs) = by (eqb id x) (member_found id xs)
  where
    by : (b : Bool) → member id xs ≡ is_some (find (λ (x : ℕ). eqb id x) xs) → b || member id xs ≡ is_some (cond b (Some x) (find (λ (x : ℕ). eqb id x) xs))
    by true h = refl
    by false h = h
