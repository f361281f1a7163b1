-- A struct written field by field, and an array written element by element.
-- Assumes nothing.
use Prim.Native.Nat.{ℕ, zero, suc, ◌+◌, ◌*◌, ◌%◌, ◌≤◌, ◌<◌}
use mathlib.Core.Path.{◌≡◌, refl, sym, ap, ◌∙◌}
use mathlib.Core.List.{List, [], ◌∷◌, ◌++◌, append-nil, append_assoc}
use native.Mathlib.Nat.{mul-zero, mul-suc}
use native.Mathlib.Numerals.{add-one}
use native.Mathlib.Omega.{arith}
use lib.ListN.{length, get_or, take, length-append}
use lib.Seq.{take_all}
use Rattle.wire.specs.Bytes.{le, put, joined}
use Rattle.wire.proofs.Buffer.{put_next, length-put}
use Rattle.form.specs.Form.{Form, saved_each}

-- pieces written one after the other from `at` on, each after n bytes of the one before it
pub data Pieces : List ℕ → ℕ → List (List ℕ) → List ℕ → Type 0 where
  last : {l : List ℕ} {at : ℕ} {p out : List ℕ} → out ≡ put l at p → Pieces l at (p ∷ []) out
  then :
      {l : List ℕ} {at n next : ℕ} {p : List ℕ} {ps : List (List ℕ)} {after out : List ℕ}
      → length p ≡ n → at + n ≡ next → after ≡ put l at p → Pieces after next ps out → Pieces l at (p ∷ ps) out

-- A struct's bytes are those of its fields, one after the other: with its form unfolded they are `joined` of the pieces.
pub written : {l : List ℕ} {at : ℕ} {ps : List (List ℕ)} {out : List ℕ} → Pieces l at ps out → out ≡ put l at (joined ps)
written (last {p = p} e) = rw append-nil e
written (then {l} {at} {n} {next} {p} {ps} s a e r) = rw (written r, e) (put_next l at p next (joined ps) (rw s a))

-- a number that is a byte, written as one
pub one_byte : (l : List ℕ) (at x y : ℕ) {out : List ℕ} → x < 256 → x ≡ y → out ≡ put l at (le 1 x) → out ≡ put l at (y ∷ [])
unfolding le
one_byte l at x y b e q = let m : x % 256 ≡ y = omega arith in rw m at q

-- a buffer that was written in part is as long as before
pub as_long : (l : List ℕ) (at : ℕ) (p out : List ℕ) → out ≡ put l at p → length out ≡ length l
as_long l at p out e = ap length e ∙ length-put l at p

module _ {A : Type 0} (G : Form A) where
  one_more : (d : A) (xs : List A) (i : ℕ) → i < length xs → saved_each G.save (take (suc i) xs) ≡ saved_each G.save (take i xs) ++ G.save (get_or xs i d)
  unfolding saved_each
  one_more d [] i b = let z : ⊥ = omega arith in absurd z
  one_more d (x ∷ xs) zero b = rw append-nil
  one_more d (x ∷ xs) (suc i) b = rw (one_more d xs i (omega arith), append_assoc)

  -- the first i elements are written, each in the form's width
  pub record EachWrote (xs : List A) (l : List ℕ) (at : ℕ) (out : List ℕ) (i : ℕ) : Type 0 where
    pub written : out ≡ put l at (saved_each G.save (take i xs))
    pub long : length (saved_each G.save (take i xs)) ≡ G.width * i

module _ {A : Type 0} {G : Form A} where
  pub none_wrote : {xs : List A} {l : List ℕ} {at : ℕ} → EachWrote G xs l at l 0
  unfolding saved_each put
  none_wrote = record { written = refl; long = sym (mul-zero G.width) }

  -- the elements before i are written, and now x, the one at i
  pub each-wrote :
      (x : A) {i k : ℕ} {xs : List A} {l out after : List ℕ} {at : ℕ}
      → x ≡ get_or xs i x → i < length xs → at + G.width * i ≡ k → EachWrote G xs l at out i → after ≡ put out k (G.save x) → length (G.save x) ≡ G.width
      → EachWrote G xs l at after (i + 1)
  each-wrote x {i} {k} {xs} {l} {at = at} s b a e q w =
      let wide = e.long in
      let front = saved_each G.save (take i xs) in
      let more : saved_each G.save (take (suc i) xs) ≡ front ++ G.save x = one_more G x xs i b ∙ ap (λ t. front ++ G.save t) (sym s) in
      record {
        written = rw (q, e.written, add-one, more) (put_next l at front k (G.save x) (rw wide a));
        long = rw (add-one, more, length-append, wide, w, mul-suc) (omega arith);
      }

  pub all_wrote : {i : ℕ} {xs : List A} {l out : List ℕ} {at : ℕ} → length xs ≤ i → i ≤ length xs → EachWrote G xs l at out i
      → (out ≡ put l at (saved_each G.save xs)) × (length (saved_each G.save xs) ≡ G.width * length xs)
  all_wrote {i = i} {xs} b c e =
      let all = take_all i xs b in
      let same : i ≡ length xs = omega arith in
      (rw all at e.written, rw (all, same) at e.long)
