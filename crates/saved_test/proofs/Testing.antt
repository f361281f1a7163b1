-- The test of elements one after the other, taken apart; a struct's test, field by field.
-- Assumes nothing.
use Prim.Native.Nat.{ℕ, zero, suc, ◌+◌, ◌-◌, ◌*◌, ◌<◌, ◌≤◌}
use mathlib.Core.Path.{◌≡◌, refl, sym}
use mathlib.Core.Bool.{Bool, true, false, ◌&&◌}
use mathlib.Core.List.{List}
use native.Mathlib.Nat.{mul-zero, mul-suc}
use native.Mathlib.Numerals.{add-one}
use native.Mathlib.Omega.{arith}
use Rattle.form.specs.Form.{every_at}

-- nothing is looked at
pub every_true : (w : ℕ) (s : List ℕ) (f : List ℕ → ℕ → Bool) → ((at : ℕ) → f s at ≡ true) → (at n : ℕ) → every_at f w s at n ≡ true
unfolding every_at
every_true w s f h at zero = refl
every_true w s f h at (suc n) = let t = every_true w s f h (at + w) n in rw (h at, t)

-- A test that goes along the elements: what is left of it gives the whole answer.
module _ (f : List ℕ → ℕ → Bool) (w : ℕ) (s : List ℕ) (at n : ℕ) where
  pub test_begins : every_at f w s (at + w * 0) (n - 0) ≡ every_at f w s at n
  test_begins =
      let p : at + w * 0 ≡ at = rw mul-zero (omega arith) in
      let k : n - 0 ≡ n = omega arith in
      rw (p, k)

  module _ (i : ℕ) {all : Bool} where
    one_test : i < n → every_at f w s (at + w * i) (n - i) ≡ all → (f s (at + w * i) && every_at f w s (at + w * i + w) (n - (i + 1))) ≡ all
    unfolding every_at
    one_test b h = let k : n - i ≡ suc (n - (i + 1)) = omega arith in rw k at h

    pub test_goes_on : i < n → true ≡ f s (at + w * i) → every_at f w s (at + w * i) (n - i) ≡ all → every_at f w s (at + w * (i + 1)) (n - (i + 1)) ≡ all
    test_goes_on b e h =
        let p : at + w * (i + 1) ≡ at + w * i + w = rw (add-one, mul-suc) (omega arith) in
        rw p (rw (← e) at (one_test b h))

    pub test_fails : i < n → false ≡ f s (at + w * i) → every_at f w s (at + w * i) (n - i) ≡ all → false ≡ all
    test_fails b e h = rw (← e) at (one_test b h)

    pub test_passes : n ≤ i → every_at f w s (at + w * i) (n - i) ≡ all → true ≡ all
    unfolding every_at
    test_passes b h = let k : n - i ≡ 0 = omega arith in rw k at h

-- tests one after the other, however they are put together
and-assoc : (x y z : Bool) → ((x && y) && z) ≡ (x && (y && z))
and-assoc true y z = refl
and-assoc false y z = refl

and_all : (x : Bool) → (x && true) ≡ x
and_all true = refl
and_all false = refl

pub twelve :
    (a b c d e f g h i j k l : Bool)
    → (((((((((((a && b) && c) && d) && e) && f) && g) && h) && i) && j) && k) && l)
    ≡ (a && (b && (c && (d && (e && (f && (g && (h && (i && (j && (k && (l && true))))))))))))
twelve a b c d e f g h i j k l = simp (and-assoc, and_all)

-- a struct's test: a field's and those of the fields after it
pub and_same : {a b x y : Bool} → a ≡ x → b ≡ y → (a && b) ≡ (x && y)
and_same e f = rw (e, f)
