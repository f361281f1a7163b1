-- What holds of every form: a value takes its width, what is saved is loaded as it was, what is loaded lies in the form's bytes and fits, and the test
-- passes exactly where saving what the bytes say gives them back. Each piece keeps it, so a form that is made of the pieces has it.
-- Assumes nothing.
use Prim.Native.Nat.{ℕ, zero, suc, ◌+◌, ◌*◌, ◌<◌, ◌≤◌, ◌^◌}
use Prim.Native.String.{String}
use mathlib.Core.Path.{◌≡◌, refl, sym, ap, ◌∙◌}
use mathlib.Core.Bool.{Bool, true, false, ◌&&◌}
use mathlib.Core.List.{List, [], ◌∷◌, ◌++◌}
use native.Mathlib.Nat.{mul-zero, mul-suc}
use native.Mathlib.Numerals.{add-one}
use native.Mathlib.Omega.{arith}
use borrow.Author.Tests.{leb-true, le-leb}
use lib.Dec.{eqb, leb}
use lib.ListN.{length, get_or, take, drop, length-append, length-take, length-drop}
use lib.Seq.{drop-cons, get_or-take, take-take, length-take-le}
use Rattle.wire.specs.Bytes.{Bytes, le, number, number_at, are_same_bytes, All}
use Rattle.wire.proofs.Lists.{and_left, and_right, and_both}
use Rattle.wire.proofs.Numbers.{length-le, number_at_lt}
use Rattle.wire.proofs.Fields.{field_back}
use Rattle.wire.proofs.SameBytes.{same_is, same_self}
use Rattle.form.specs.Form as F
use Rattle.form.specs.Form.{Form, Fields, Code, Like, bit, flag_at, bytes_at, saved_each, each_at, every_at, place}
use Rattle.form.proofs.Standing.{Stands, stands_left, stands_right, stands_number, stands_byte, stands_bytes, stands-both}

pub record Lawful {A : Type 0} (G : Form A) : Type 0 where
  pub long : (x : A) → G.Fits x → length (G.save x) ≡ G.width
  pub back : {s : List ℕ} {at : ℕ} (x : A) → G.Fits x → Stands s at (G.save x) → G.load s at ≡ x
  pub front : (n : ℕ) (s : List ℕ) (at : ℕ) → at + G.width ≤ n → G.load (take n s) at ≡ G.load s at
  pub fits : (s : List ℕ) (at : ℕ) → Bytes s → at + G.width ≤ length s → G.Fits (G.load s at)
  pub yes_left : (s : List ℕ) (at : ℕ) → Bytes s → at + G.width ≤ length s → G.left s at ≡ true → Stands s at (G.save (G.load s at))
  pub left_yes : (s : List ℕ) (at : ℕ) → Bytes s → at + G.width ≤ length s → Stands s at (G.save (G.load s at)) → G.left s at ≡ true

part_front : (w at n : ℕ) (s : List ℕ) → at + w ≤ n → take w (drop at (take n s)) ≡ take w (drop at s)
part_front w zero n s l = take-take w n s (omega arith)
part_front w (suc at) zero s l = let no : ⊥ = omega arith in absurd no
part_front w (suc at) (suc n) [] l = refl
part_front w (suc at) (suc n) (x ∷ s) l = part_front w at n s (omega arith)

-- a part of the bytes stands where it was taken
part_stands : (s : List ℕ) (at n : ℕ) → at + n ≤ length s → Stands s at (take n (drop at s))
part_stands s at n h =
    let e : length (take n (drop at s)) ≡ n = length-take-le n (drop at s) (rw length-drop (omega (arith, h))) in
    record { here = rw e }

pub number_lawful : (w : ℕ) → Lawful (F.number w)
unfolding F.number
number_lawful w =
    record {
      long = λ x f. length-le w x;
      back = λ x f h. stands_number w x f h;
      front = λ n s at l. ap number (part_front w at n s l);
      fits = λ s at b l. number_at_lt w at s b;
      yes_left = λ s at b l e. rw (field_back w at s b l) (part_stands s at w l);
      left_yes = λ s at b l h. refl;
    }

flag_back : {s : List ℕ} {at : ℕ} (b : Bool) → Stands s at (bit b ∷ []) → flag_at s at ≡ b
flag_back true h = rw (stands_byte 1 h)
flag_back false h = rw (stands_byte 0 h)

byte-stands : (s : List ℕ) (at : ℕ) → at + 1 ≤ length s → Stands s at (get_or s at 0 ∷ [])
byte-stands s at l = record { here = rw (drop-cons s at 0 (omega arith)) }

bit_is : (y : ℕ) → leb y 1 ≡ true → bit (eqb y 1) ≡ y
bit_is zero e = refl
bit_is (suc zero) e = refl
bit_is (suc (suc y)) e = let h : suc (suc y) ≤ 1 = leb-true _ 1 e in absurd (let w : ⊥ = omega (arith, h) in w)

is_bit : (b : Bool) → leb (bit b) 1 ≡ true
is_bit true = refl
is_bit false = refl

pub flag_lawful : Lawful F.flag
unfolding F.flag
flag_lawful =
    record {
      long = λ x f. refl;
      back = λ x f h. flag_back x h;
      front = λ n s at l. rw (get_or-take n s at 0 (omega arith));
      fits = λ s at b l. tt;
      yes_left = λ s at b l e. rw (bit_is (get_or s at 0) e) (byte-stands s at l);
      left_yes = λ s at b l h. ap (λ (y : ℕ). leb y 1) (stands_byte _ h) ∙ is_bit (flag_at s at);
    }

pub byte_lawful : Lawful F.byte
unfolding F.byte
byte_lawful =
    record {
      long = λ x f. refl;
      back = λ x f h. stands_byte x h;
      front = λ n s at l. get_or-take n s at 0 (omega arith);
      fits = λ s at b l. b at;
      yes_left = λ s at b l e. byte-stands s at l;
      left_yes = λ s at b l h. refl;
    }

pub bytes-long : (s : List ℕ) (at n : ℕ) → length (bytes_at s at n) ≡ n
unfolding bytes_at
bytes-long s at zero = refl
bytes-long s at (suc n) = ap suc (bytes-long s (at + 1) n)

-- bytes that are all there are a part
pub bytes_part : (s : List ℕ) (at n : ℕ) → at + n ≤ length s → bytes_at s at n ≡ take n (drop at s)
unfolding bytes_at
bytes_part s at zero l = refl
bytes_part s at (suc n) l = rw (drop-cons s at 0 (omega arith), bytes_part s (at + 1) n (omega arith), add-one)

bytes_back : {s : List ℕ} {at : ℕ} (bs : List ℕ) → Stands s at bs → bytes_at s at (length bs) ≡ bs
unfolding bytes_at
bytes_back [] h = refl
bytes_back {s = s} {at = at} (b ∷ bs) h =
    rw (stands_byte b (stands_left (b ∷ []) bs h), bytes_back {at = at + 1} bs (stands_right (b ∷ []) bs 1 refl h))

bytes_front : (n : ℕ) (s : List ℕ) (at w : ℕ) → at + w ≤ n → bytes_at (take n s) at w ≡ bytes_at s at w
unfolding bytes_at
bytes_front n s at zero l = refl
bytes_front n s at (suc w) l = rw (get_or-take n s at 0 (omega arith), bytes_front n s (at + 1) w (omega arith))

pub bytes_lawful : (n : ℕ) → Lawful (F.bytes n)
unfolding F.bytes
bytes_lawful n =
    record {
      long = λ x f. f;
      back = λ x f h. rw f at (bytes_back x h);
      front = λ m s at l. bytes_front m s at n l;
      fits = λ s at b l. bytes-long s at n;
      yes_left = λ s at b l e. rw (F.bytes, bytes_part s at n l) (part_stands s at n l);
      left_yes = λ s at b l h. refl;
    }

pub constant_lawful : (bs : List ℕ) → Lawful (F.constant bs)
unfolding F.constant
constant_lawful bs =
    record {
      long = λ x f. refl;
      back = λ x f h. refl;
      front = λ n s at l. refl;
      fits = λ s at b l. tt;
      yes_left = λ s at b l e. record { here = sym (same_is _ _ e) };
      left_yes = λ s at b l h. rw h.here (same_self bs);
    }

-- elements of one width, one after the other
module _ {A : Type 0} {G : Form A} (g : Lawful G) where
  each_long : (xs : List A) → All G.Fits xs → length (saved_each G.save xs) ≡ G.width * length xs
  unfolding saved_each
  each_long [] ps = sym (mul-zero G.width)
  each_long (x ∷ xs) ps = rw (length-append, g.long x ps.0, each_long xs ps.1, mul-suc) (omega arith)

  each_back : {s : List ℕ} (at : ℕ) (xs : List A) → All G.Fits xs → Stands s at (saved_each G.save xs) → each_at G.load G.width s at (length xs) ≡ xs
  unfolding saved_each each_at
  each_back at [] ps h = refl
  each_back at (x ∷ xs) ps h =
      rw (g.back x ps.0 (stands_left (G.save x) _ h), each_back (at + G.width) xs ps.1 (stands_right (G.save x) _ G.width (g.long x ps.0) h))

  each_front : (n : ℕ) (s : List ℕ) (at k : ℕ) → at + G.width * k ≤ n → each_at G.load G.width (take n s) at k ≡ each_at G.load G.width s at k
  unfolding each_at
  each_front n s at zero l = refl
  each_front n s at (suc k) l =
      let l' = rw mul-suc at l in
      rw (g.front n s at (omega arith), each_front n s (at + G.width) k (omega arith))

  each_many : (s : List ℕ) (at k : ℕ) → length (each_at G.load G.width s at k) ≡ k
  unfolding each_at
  each_many s at zero = refl
  each_many s at (suc k) = ap suc (each_many s (at + G.width) k)

  each_fit : (s : List ℕ) (at k : ℕ) → Bytes s → at + G.width * k ≤ length s → All G.Fits (each_at G.load G.width s at k)
  unfolding each_at
  each_fit s at zero b l = tt
  each_fit s at (suc k) b l =
      let l' = rw mul-suc at l in
      (g.fits s at b (omega arith), each_fit s (at + G.width) k b (omega arith))

  each-yes :
      (s : List ℕ) (at k : ℕ) → Bytes s → at + G.width * k ≤ length s → every_at G.left G.width s at k ≡ true
      → Stands s at (saved_each G.save (each_at G.load G.width s at k))
  unfolding each_at every_at saved_each
  each-yes s at zero b l e = record { here = refl }
  each-yes s at (suc k) b l e =
      let l' = rw mul-suc at l in
      let here : at + G.width ≤ length s = omega arith in
      stands-both _ _ G.width (g.long _ (g.fits s at b here)) (g.yes_left s at b here (and_left (G.left s at) _ e))
      (each-yes s (at + G.width) k b (omega arith) (and_right (G.left s at) _ e))

  each_left :
      (s : List ℕ) (at k : ℕ) → Bytes s → at + G.width * k ≤ length s
      → Stands s at (saved_each G.save (each_at G.load G.width s at k)) → every_at G.left G.width s at k ≡ true
  unfolding each_at every_at saved_each
  each_left s at zero b l h = refl
  each_left s at (suc k) b l h =
      let l' = rw mul-suc at l in
      let w = g.long _ (g.fits s at b (omega arith)) in
      and_both _ _ (g.left_yes s at b (omega arith) (stands_left _ _ h)) (each_left s (at + G.width) k b (omega arith) (stands_right (G.save (G.load s at)) _ G.width w h))

pub each_lawful : {A : Type 0} {G : Form A} (n : ℕ) → Lawful G → Lawful (F.each n G)
unfolding F.each
each_lawful {A} {G} n g =
    record {
      long = λ xs f. each_long g xs f.1 ∙ ap (λ (k : ℕ). G.width * k) f.0;
      back = λ {s} {at} xs f h. rw f.0 at (each_back g at xs f.1 h);
      front = λ m s at l. each_front g m s at n l;
      fits = λ s at b l. (each_many g s at n, each_fit g s at n b l);
      yes_left = λ s at b l e. each-yes g s at n b l e;
      left_yes = λ s at b l h. each_left g s at n b l h;
    }

-- what codes have to keep
pub record Faithful {E T : Type 0} (c : Code E T) (G : Form T) : Type 0 where
  pub same_value : (x : E) → c.value (c.coded x) ≡ x
  pub fits : (t : T) → G.Fits t → G.Fits (c.coded (c.value t))
  pub told_same : (t : T) → c.told t ≡ true → c.coded (c.value t) ≡ t
  pub same_told : (t : T) → c.coded (c.value t) ≡ t → c.told t ≡ true

pub enum_lawful : {E T : Type 0} {c : Code E T} {G : Form T} → Faithful c G → Lawful G → Lawful (F.enum c G)
unfolding F.enum
enum_lawful {E} {T} {c} {G} k g =
    record {
      long = λ x f. g.long (c.coded x) f;
      back = λ x f h. ap c.value (g.back (c.coded x) f h) ∙ k.same_value x;
      front = λ n s at l. ap c.value (g.front n s at l);
      fits = λ s at b l. k.fits _ (g.fits s at b l);
      yes_left = λ s at b l e. rw (F.enum, k.told_same _ (and_right (G.left s at) _ e)) (g.yes_left s at b l (and_left (G.left s at) _ e));
      left_yes = λ s at b l h.
          let f = k.fits _ (g.fits s at b l) in
          let same = sym (g.back (c.coded (c.value (G.load s at))) f h) in
          and_both _ _ (g.left_yes s at b l (rw (F.enum, same) at h)) (k.same_told _ same);
    }

-- fields, one after the other
pub record Kept {T : Type 0} (Gs : Fields T) : Type 0 where
  pub long : (t : T) → Gs.Fit t → length (Gs.saves t) ≡ Gs.widths
  pub back : {s : List ℕ} {at k : ℕ} (t : T) → Gs.Fit t → Stands s (place at k) (Gs.saves t) → Gs.loads s at k ≡ t
  pub front : (n : ℕ) (s : List ℕ) (at k : ℕ) → at + k + Gs.widths ≤ n → Gs.loads (take n s) at k ≡ Gs.loads s at k
  pub fits : (s : List ℕ) (at k : ℕ) → Bytes s → at + k + Gs.widths ≤ length s → Gs.Fit (Gs.loads s at k)
  pub yes_left : (s : List ℕ) (at k : ℕ) → Bytes s → at + k + Gs.widths ≤ length s → Gs.lefts s at k ≡ true → Stands s (place at k) (Gs.saves (Gs.loads s at k))
  pub left_yes : (s : List ℕ) (at k : ℕ) → Bytes s → at + k + Gs.widths ≤ length s → Stands s (place at k) (Gs.saves (Gs.loads s at k)) → Gs.lefts s at k ≡ true

pub place_is : (at k : ℕ) → place at k ≡ at + k
place_is at zero = omega arith
place_is at (suc k) = refl

next_place : (at k w : ℕ) → place at k + w ≡ place at (k + w)
next_place at k w = rw (place_is at k, place_is at (k + w)) (omega arith)

pub end_kept : Kept F.end
unfolding F.end
end_kept =
    record {
      long = λ t f. refl;
      back = λ t f h. refl;
      front = λ n s at k l. refl;
      fits = λ s at k b l. tt;
      yes_left = λ s at k b l e. record { here = refl };
      left_yes = λ s at k b l h. refl;
    }

pub field_kept : {A T : Type 0} (name : String) {G : Form A} {Gs : Fields T} → Lawful G → Kept Gs → Kept (F.field name G Gs)
unfolding F.field
field_kept {A} {T} name {G} {Gs} g gs =
    record {
      long = λ t f. rw (length-append, g.long t.0 f.0, gs.long t.1 f.1);
      back = λ {s} {at} {k} t f h.
          let h₁ = rw (next_place at k G.width) at (stands_right (G.save t.0) _ G.width (g.long t.0 f.0) h) in
          rw (g.back t.0 f.0 (stands_left _ _ h), gs.back t.1 f.1 h₁);
      front = λ n s at k l. rw (g.front n s (place at k) (omega (arith, place_is at k)), gs.front n s at (k + G.width) (omega arith));
      fits = λ s at k b l. (g.fits s (place at k) b (omega (arith, place_is at k)), gs.fits s at (k + G.width) b (omega arith));
      yes_left = λ s at k b l e.
          let here : place at k + G.width ≤ length s = omega (arith, place_is at k) in
          let w = g.long _ (g.fits s (place at k) b here) in
          let t = gs.yes_left s at (k + G.width) b (omega arith) (and_right (G.left s (place at k)) _ e) in
          stands-both _ _ G.width w (g.yes_left s (place at k) b here (and_left (G.left s (place at k)) _ e)) (rw (← next_place at k G.width) at t);
      left_yes = λ s at k b l h.
          let here : place at k + G.width ≤ length s = omega (arith, place_is at k) in
          let w = g.long _ (g.fits s (place at k) b here) in
          let t = rw (next_place at k G.width) at (stands_right (G.save (G.load s (place at k))) (Gs.saves (Gs.loads s at (k + G.width))) G.width w h) in
          and_both _ _ (g.left_yes s (place at k) b here (stands_left _ _ h)) (gs.left_yes s at (k + G.width) b (omega arith) t);
    }

pub tuple_lawful : {T : Type 0} {Gs : Fields T} → Kept Gs → Lawful (F.tuple Gs)
unfolding F.tuple
tuple_lawful {T} {Gs} gs =
    record {
      long = gs.long;
      back = λ x f h. gs.back x f h;
      front = λ n s at w. gs.front n s at 0 (omega arith);
      fits = λ s at b w. gs.fits s at 0 b (omega arith);
      yes_left = λ s at b w e. gs.yes_left s at 0 b (omega arith) e;
      left_yes = λ s at b w h. gs.left_yes s at 0 b (omega arith) h;
    }

-- a struct is its fields, and its fields are it
pub record Alike {S T : Type 0} (l : Like S T) : Type 0 where
  pub same_struct : (x : S) → l.whole (l.apart x) ≡ x
  pub same_fields : (t : T) → l.apart (l.whole t) ≡ t

pub like_lawful : {S T : Type 0} {l : Like S T} {G : Form T} → Alike l → Lawful G → Lawful (F.like l G)
unfolding F.like
like_lawful {S} {T} {l} {G} a g =
    record {
      long = λ x f. g.long (l.apart x) f;
      back = λ x f h. ap l.whole (g.back (l.apart x) f h) ∙ a.same_struct x;
      front = λ n s at w. ap l.whole (g.front n s at w);
      fits = λ s at b w. rw (F.like, a.same_fields (G.load s at)) (g.fits s at b w);
      yes_left = λ s at b w e. rw (F.like, a.same_fields (G.load s at)) (g.yes_left s at b w e);
      left_yes = λ s at b w h. g.left_yes s at b w (rw (F.like, a.same_fields (G.load s at)) at h);
    }
