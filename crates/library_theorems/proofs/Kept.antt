-- Laws that stood beside loops and arrays which the library's chains and conversions stand for now. No proof cites them any more; they are kept
-- because pages name some of them, and because nothing else states what they say.
-- Assumes nothing.
use Prim.Native.Nat.{ℕ, zero, suc, min, ◌+◌, ◌*◌, ◌/◌, ◌≤◌, ◌<◌}
use mathlib.Core.Path.{◌≡◌, refl, sym, ap, ◌∙◌}
use mathlib.Core.Bool.{Bool, true, false, ◌&&◌, ◌||◌}
use mathlib.Core.List.{List, [], ◌∷◌, ◌++◌, map}
use mathlib.Core.Logic.{◌⊎◌, ⊎_elim}
use native.Mathlib.Nat.{mul-zero, mul-suc, add-zero}
use native.Mathlib.Numerals.{add-one}
use native.Mathlib.Omega.{arith}
use lib.Dec.{eqb, leb}
use lib.ListN.{length, get_or, take, drop, set, length-set, length-take, length-map}
use lib.Seq.{take-suc-set, length-take-le}
use borrow.Author.Tests.{eq-eqb, ne_eqb, lt-leb}
use mir.Val.{Val}
use denote.Laws.{Is}
use denote.Shadow.{shadow}
use denote.Array.{each}
use Rattle.wire.specs.Bytes as W
use Rattle.wire.specs.Bytes.{Bytes, le, number, joined, are_same_bytes}
use Rattle.wire.proofs.Numbers.{bytes_append}
use Rattle.wire.proofs.Lists.{and_false}
use Rattle.layout.specs.declared.KeyId.{KeyId}
use Rattle.validity.specs.declared.keys.KeyIds.{KeyIds}
use Rattle.validity.specs.Keys.{key_number, listed}
use Rattle.layout.specs.Limits.{list_limit}
use Rattle.pieces.proofs.Given.{live_at}
use Rattle.job.specs.declared.JobPlace.{JobPlace}
use Rattle.job.specs.declared.JobPlaces.{JobPlaces}
use Rattle.job.specs.contracts.JobPlace as One
use Rattle.job.specs.contracts.JobPlaces as All
use Rattle.job.specs.Job.{key_counts, signers_in, job_holds, jobs_hold, share_lengths}
use Rattle.job.proofs.Held.{no_place, JobHeld, job_held, signers_few, signers_hold}
use Rattle.configuration.specs.declared.new_config.NewSigner.{NewSigner}
use Rattle.configuration.specs.NewConfig.{numbers_in, keys_given, is_set_within}
use Rattle.configuration.proofs.Sets.{keys_few}
use Rattle.form.specs.Form.{Form, each_at, every_at}

-- a loop that looks for something: a test moves from what is left to what is done
pub moved : (x s r : Bool) → ((x || s) || r) ≡ (s || (x || r))
moved true true r = refl
moved true false r = refl
moved false s r = refl

-- the answer of `a && b` by branches: b's where a held, else a's own; and where the two ways meet
pub and_then : {a b r : Bool} → a ≡ true → r ≡ b → r ≡ (a && b)
and_then e f = rw e f

pub and_else : {a r : Bool} (b : Bool) → a ≡ false → r ≡ a → r ≡ (a && b)
and_else b e f = rw e (f ∙ e)

pub and_came : {A B : Type 0} (x n : ℕ) {b r : Bool} → (A → (x ≡ n) × (r ≡ b)) → (B → (x ≡ n → ⊥) × (r ≡ eqb x n)) → A ⊎ B → r ≡ (eqb x n && b)
and_came x n f g = ⊎_elim (λ w. and_then (eq-eqb x n (f w).0) (f w).1) (λ w. and_else _ (ne_eqb x n (g w).0) (g w).1)

-- the bytes of a number, and of lists one after the other, are bytes
pub bytes_le : (n x : ℕ) → Bytes (le n x)
unfolding le
bytes_le zero x i = omega arith
bytes_le (suc n) x zero = omega arith
bytes_le (suc n) x (suc i) = bytes_le n (x / 256) i

pub bytes-joined : (ps : List (List ℕ)) → W.All Bytes ps → Bytes (joined ps)
bytes-joined [] h = λ i. omega arith
bytes-joined (p ∷ ps) h = bytes_append p (joined ps) h.0 (bytes-joined ps h.1)

-- the bytes from j on: the byte at j, then the bytes after it
pub number-drop : (s : List ℕ) (j : ℕ) → number (drop j s) ≡ get_or s j 0 + 256 * number (drop (suc j) s)
unfolding number
number-drop [] zero = refl
number-drop [] (suc j) = refl
number-drop (b ∷ bs) zero = refl
number-drop (b ∷ bs) (suc j) = number-drop bs j

-- lists that differ at a place differ
pub same_differ : (a b : List ℕ) (i : ℕ) → (get_or a i 0 ≡ get_or b i 0 → ⊥) → false ≡ are_same_bytes a b
same_differ [] [] i h = absurd (h refl)
same_differ [] (y ∷ ys) i h = refl
same_differ (x ∷ xs) [] i h = refl
same_differ (x ∷ xs) (y ∷ ys) zero h = rw (ne_eqb x y h)
same_differ (x ∷ xs) (y ∷ ys) (suc i) h = rw (← same_differ xs ys i h) (sym (and_false (eqb x y)))

-- a list has as many keys as it counts, at most sixteen
pub length-listed : (k : KeyIds) → length k.ids ≡ 16 → length (listed k) ≡ min k.count 16
unfolding listed
length-listed k h = rw (length-take, length-map, h)

-- the numbers of the first n keys, whatever stands behind them
pub numbers_first : (n : ℕ) (xs rest : List KeyId) → n ≤ length xs → take n (map key_number (map (λ (k : KeyId). k) (take n xs) ++ rest)) ≡ take n (map key_number xs)
numbers_first zero xs rest h = refl
numbers_first (suc n) [] rest h = let z : ⊥ = omega arith in absurd z
numbers_first (suc n) (x ∷ xs) rest h = ap (λ (ks : List ℕ). key_number x ∷ ks) (numbers_first n xs rest (omega arith))

-- a saved reading's flag and number where no reading is there
pub not_there : (b n : ℕ) → (b ≡ 1 → ⊥) → (eqb b 0 && eqb n 0) ≡ ((leb b 1 && true) && (eqb b 1 || eqb n 0))
not_there zero n e = refl
not_there (suc zero) n e = absurd (e refl)
not_there (suc (suc b)) n e =
    let no : eqb (suc (suc b)) 0 ≡ false = ne_eqb (suc (suc b)) 0 (λ z. let w : ⊥ = omega (arith, z) in w) in
    let more : leb (suc (suc b)) 1 ≡ false = lt-leb (suc (suc b)) 1 (omega arith) in
    rw (no, more)

-- the array of a signer's counts has sixteen places; so has that of each signer of a list
pub counts_16 : (p : JobPlace) (vs : List Val) → Is One.the_row p vs → length p.share_key_counts ≡ 16
counts_16 p vs g = g.1.1.1.1.1.1.0.1.0.1

pub each_16 :
    (qs : List JobPlace) (us : List Val) → shadow (each (One.the_row).Denot (One.the_row).own_val qs us)
    → (i : ℕ) (d : JobPlace) → i < length qs → length (get_or qs i d).share_key_counts ≡ 16
each_16 [] us g i d l = let z : ⊥ = omega arith in absurd z
each_16 (q ∷ qs) [] g i d l = absurd g
each_16 (q ∷ qs) (u ∷ us) g zero d l = counts_16 q (u ∷ []) g.0
each_16 (q ∷ qs) (u ∷ us) g (suc i) d l = each_16 qs us g.1 i d (omega arith)

-- of signers whose lists hold, the one at i: its lists hold, and it has as many shares as it counts
module _ (size : ℕ) (ps : JobPlaces) (h : jobs_hold size ps ≡ true) (vs : List Val) (good : Is All.the_row ps vs) (i : ℕ) (l : i < ps.count) where
  ten : length ps.places ≡ 10
  ten = good.1.1.0.1.0.1

  pub signer_holds : job_holds size (get_or ps.places i no_place) ≡ true
  unfolding signers_in
  signer_holds = live_at (job_holds size) ps.places ps.count i _ l (omega (arith, signers_few size ps h, ten)) (signers_hold size ps h)

  pub signer_shares : length (share_lengths (get_or ps.places i no_place)) ≡ (get_or ps.places i no_place).shares.count
  unfolding share_lengths key_counts
  signer_shares =
      let p = get_or ps.places i no_place in
      let few = (job_held size p signer_holds).shares.few in
      let long = ten in
      let sixteen : length p.share_key_counts ≡ 16 = each_16 ps.places _ good.1.1.0.1.1 i _ (omega (arith, signers_few size ps h)) in
      rw length-map (length-take-le p.shares.count p.share_key_counts (omega arith))

-- a set within the limits has as many keys as it counts
keys_there : (s : NewSigner) → s.has_keys ≡ true → keys_given s ≡ numbers_in s.keys
unfolding keys_given
keys_there s h = rw h

pub size_there : (s : NewSigner) → s.has_keys ≡ true → length s.keys.ids ≡ 17 → is_set_within s ≡ true → s.keys.count ≡ length (keys_given s)
unfolding numbers_in
size_there s h l w =
    let few : length (numbers_in s.keys) ≤ list_limit = rw (keys_there s h) at (keys_few s w) in
    let m = rw (length-take, length-map) at few in
    rw (keys_there s h, length-take, length-map) (omega arith)

-- tests of elements at a stride, taken apart: which of an element's bytes they look at
module _ (w : ℕ) (s : List ℕ) where
  -- one test, of what stands k bytes after each element's beginning
  pub every_there : (f g : List ℕ → ℕ → Bool) (k : ℕ) → ((at : ℕ) → f s at ≡ g s (at + k)) → (at n : ℕ) → every_at f w s at n ≡ every_at g w s (at + k) n
  unfolding every_at
  every_there f g k h at zero = refl
  every_there f g k h at (suc n) =
      let e : at + w + k ≡ at + k + w = omega arith in
      let t = every_there f g k h (at + w) n in
      rw (h at, t, e)

  pub every_here : (f g : List ℕ → ℕ → Bool) → ((at : ℕ) → f s at ≡ g s at) → (at n : ℕ) → every_at f w s at n ≡ every_at g w s at n
  unfolding every_at
  every_here f g h at zero = refl
  every_here f g h at (suc n) = let t = every_here f g h (at + w) n in rw (h at, t)

  -- two tests of each element are two rows of tests
  pub every-both :
      (f g h : List ℕ → ℕ → Bool) → ((at : ℕ) → f s at ≡ (g s at && h s at)) → (at n : ℕ) → every_at f w s at n ≡ (every_at g w s at n && every_at h w s at n)
  unfolding every_at
  every-both f g h e at zero = refl
  every-both f g h e at (suc n) = let t = every-both f g h e (at + w) n in rw (e at, t) (crossed (g s at) (h s at) (every_at g w s (at + w) n) (every_at h w s (at + w) n))
    where
      crossed : (a b c d : Bool) → ((a && b) && (c && d)) ≡ ((a && c) && (b && d))
      crossed true true c d = refl
      crossed true false true d = refl
      crossed true false false d = refl
      crossed false b c d = refl

-- an array that is read element by element: the first i of its n places hold the first i elements from `at` on, and the next is read
pub record EachLoaded {A : Type 0} (G : Form A) (n : ℕ) (s : List ℕ) (at : ℕ) (a : List A) (i : ℕ) : Type 0 where
  pub places : length a ≡ n
  pub so_far : i ≤ n
  pub loaded : take i a ≡ each_at G.load G.width s at i

module _ {A : Type 0} (G : Form A) (s : List ℕ) where
  each_on : (at i : ℕ) → each_at G.load G.width s at (suc i) ≡ each_at G.load G.width s at i ++ (G.load s (at + G.width * i) ∷ [])
  unfolding each_at
  each_on at zero = rw (mul-zero G.width, add-zero at)
  each_on at (suc i) =
      let e : at + G.width * suc i ≡ at + G.width + G.width * i = rw mul-suc (omega arith) in
      rw e (ap (λ (t : List A). G.load s at ∷ t) (each_on (at + G.width) i))

module _ {A : Type 0} {G : Form A} {n : ℕ} {s : List ℕ} {at : ℕ} {a : List A} where
  pub each_loaded : {i k : ℕ} (x : A) → i < n → at + G.width * i ≡ k → x ≡ G.load s k → EachLoaded G n s at a i → EachLoaded G n s at (set a i x) (i + 1)
  each_loaded {i} {k} x h p e v =
      let long = v.places in
      record {
        places = length-set a i x ∙ long;
        so_far = omega arith;
        loaded = rw (add-one, take-suc-set a i x (omega arith), v.loaded, each_on G s at i, e, p);
      }
