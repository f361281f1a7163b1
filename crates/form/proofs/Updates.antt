-- A part of a value that is set anew: its bytes are put over the old ones at the part's place, and no other byte of what is saved differs. A call that
-- knows which part it changes can write it where it stands.
-- Assumes nothing.
use Prim.Native.Nat.{ℕ, zero, suc, ◌+◌, ◌*◌, ◌≤◌, ◌<◌}
use Prim.Native.String.{String}
use mathlib.Core.Path.{◌≡◌, refl, sym, ap, ◌∙◌}
use mathlib.Core.List.{List, [], ◌∷◌, ◌++◌, append_assoc, append-nil}
use native.Mathlib.Nat.{mul-zero, mul-suc, mul-le-mul_left}
use native.Mathlib.Omega.{arith}
use lib.ListN.{length, get_or, set, take, drop, length-append, drop_of_length-le}
use lib.Seq.{take-append_seam, drop-append_seam, take-append-le, drop-append-le}
use Rattle.wire.specs.Bytes.{put, All}
use Rattle.wire.proofs.Buffer.{put_inside, put_part}
use Rattle.form.specs.Form as F
use Rattle.form.specs.Form.{Form, Fields, Like, saved_each}
use Rattle.form.proofs.Lawful.{Lawful, Kept, Alike}

-- put over the first of two lists, or over the second
put_first : (a b : List ℕ) (k : ℕ) (bs : List ℕ) → k + length bs ≤ length a → put (a ++ b) k bs ≡ put a k bs ++ b
put_first a b k bs h =
    let n : k + length bs ≤ length (a ++ b) = rw length-append (omega arith) in
    put_inside (a ++ b) k bs n ∙ rw (take-append-le k a b (omega arith), drop-append-le (k + length bs) a b h, put_inside a k bs h) (joined_on (take k a) bs _ b)
  where
    joined_on : (w x y z : List ℕ) → (w ++ x) ++ (y ++ z) ≡ ((w ++ x) ++ y) ++ z
    joined_on w x y z = sym (append_assoc (w ++ x) y z)

put_second : (a b : List ℕ) (n k : ℕ) (bs : List ℕ) → length a ≡ n → put (a ++ b) (n + k) bs ≡ a ++ put b k bs
put_second a b n k bs e =
    let w : length a ≤ length (a ++ b) = rw length-append (omega arith) in
    rw (← e) (sym (put_part (a ++ b) (length a) k bs w) ∙ rw (take-append_seam a b, drop-append_seam a b))

-- the part y of x, k bytes after its beginning
pub record Part {S A : Type 0} (G : Form S) (H : Form A) (k : ℕ) (update : A → S → S) : Type 0 where
  pub inside : k + H.width ≤ G.width
  pub updated : (y : A) (x : S) → H.Fits y → G.Fits x → G.save (update y x) ≡ put (G.save x) k (H.save y)

pub record PartOf {T A : Type 0} (Gs : Fields T) (H : Form A) (k : ℕ) (update : A → T → T) : Type 0 where
  pub inside : k + H.width ≤ Gs.widths
  pub updated : (y : A) (t : T) → H.Fits y → Gs.Fit t → Gs.saves (update y t) ≡ put (Gs.saves t) k (H.save y)

-- a value is the whole of itself
pub whole_part : {A : Type 0} {H : Form A} → Lawful H → Part H H 0 (λ y x. y)
whole_part {A} {H} h =
    record {
      inside = omega arith;
      updated = λ y x f g.
          let n : 0 + length (H.save y) ≤ length (H.save x) = omega (arith, h.long y f, h.long x g) in
          let rest : drop (0 + length (H.save y)) (H.save x) ≡ [] = drop_of_length-le (H.save x) {i = 0 + length (H.save y)} (omega (arith, h.long y f, h.long x g)) in
          sym (put_inside (H.save x) 0 (H.save y) n ∙ rw (rest, append-nil (H.save y)));
    }

module _ {A B T : Type 0} (name : String) {G : Form B} (Gs : Fields T) {H : Form A} {k : ℕ} (h : Lawful H) (g : Lawful G) where
  -- a part of the first field, and of one of the others
  pub first_part : {update : A → B → B} → Part G H k update → PartOf (F.field name G Gs) H k (λ y t. (update y t.0, t.1))
  unfolding F.field
  first_part {update} p =
      let i = p.inside in
      record {
        inside = omega arith;
        updated = λ y t f e.
            let n : k + length (H.save y) ≤ length (G.save t.0) = omega (arith, h.long y f, g.long t.0 e.0) in
            rw (p.updated y t.0 f e.0) (sym (put_first (G.save t.0) (Gs.saves t.1) k (H.save y) n));
      }

  pub later_part : {update : A → T → T} → PartOf Gs H k update → PartOf (F.field name G Gs) H (G.width + k) (λ y t. (t.0, update y t.1))
  unfolding F.field
  later_part {update} p =
      let i = p.inside in
      record {
        inside = omega arith;
        updated = λ y t f e.
            rw (p.updated y t.1 f e.1) (sym (put_second (G.save t.0) (Gs.saves t.1) G.width k (H.save y) (g.long t.0 e.0)));
      }

module _ {A : Type 0} {H : Form A} {k : ℕ} where
  pub tuple_part : {T : Type 0} {Gs : Fields T} {update : A → T → T} → PartOf Gs H k update → Part (F.tuple Gs) H k update
  unfolding F.tuple
  tuple_part p = record { inside = p.inside; updated = p.updated }

  pub like_part : {S T : Type 0} (l : Like S T) {G : Form T} {update : A → T → T} → Alike l → Part G H k update → Part (F.like l G) H k (λ y x. l.whole (update y (l.apart x)))
  unfolding F.like
  like_part l {G} {update} a p =
      record { inside = p.inside; updated = λ y x f e. ap G.save (a.same_fields (update y (l.apart x))) ∙ p.updated y (l.apart x) f e }

-- a part of the element i of n
module _ {A B : Type 0} {G : Form B} {H : Form A} {k : ℕ} (h : Lawful H) (g : Lawful G) {update : A → B → B} (p : Part G H k update) (d : B) where
  each-updated :
      (y : A) (xs : List B) (i : ℕ) → H.Fits y → All G.Fits xs → i < length xs
      → saved_each G.save (set xs i (update y (get_or xs i d))) ≡ put (saved_each G.save xs) (G.width * i + k) (H.save y)
  unfolding saved_each
  each-updated y [] i f ps l = let no : ⊥ = omega arith in absurd no
  each-updated y (x ∷ xs) zero f ps l =
      let e : G.width * 0 + k ≡ k = rw mul-zero (omega arith) in
      let i = p.inside in
      let n : k + length (H.save y) ≤ length (G.save x) = omega (arith, h.long y f, g.long x ps.0) in
      rw (e, p.updated y x f ps.0) (sym (put_first (G.save x) (saved_each G.save xs) k (H.save y) n))
  each-updated y (x ∷ xs) (suc i) f ps l =
      let e : G.width * suc i + k ≡ G.width + (G.width * i + k) = rw mul-suc (omega arith) in
      let t = each-updated y xs i f ps.1 (omega arith) in
      rw (e, t) (sym (put_second (G.save x) (saved_each G.save xs) G.width (G.width * i + k) (H.save y) (g.long x ps.0)))

  pub element_part : (n i : ℕ) → i < n → Part (F.each n G) H (G.width * i + k) (λ y xs. set xs i (update y (get_or xs i d)))
  unfolding F.each
  element_part n i l =
      record { inside = within n l; updated = λ y xs f e. each-updated y xs i f e.1 (omega (arith, e.0)) }
    where
      within : (n : ℕ) → i < n → G.width * i + k + H.width ≤ G.width * n
      within n l =
          let e : G.width * suc i ≡ G.width * i + G.width = rw mul-suc (omega arith) in
          let m : G.width * suc i ≤ G.width * n = mul-le-mul_left G.width l in
          let i = p.inside in
          omega arith
