-- The words of std for bytes and numbers, said in ours.
-- Assumes nothing.
use Prim.Native.Nat.{ℕ, zero, suc, ◌+◌, ◌*◌, ◌/◌, ◌%◌, ◌^◌, ◌-◌, ◌≤◌, ◌<◌}
use mathlib.Core.Path.{◌≡◌, refl, sym, ap, ◌∙◌}
use mathlib.Core.List.{List, [], ◌∷◌, ◌++◌, append_assoc}
use Rattle.std.specs.Prelude.{min}
use native.Mathlib.Nat.{pow-succ', pow-suc, sub-zero, div-lt_iff_lt-mul, div-div-eq-div-mul, mul_comm}
use native.Mathlib.Omega.{arith}
use lib.ListN.{length, get_or, set, take, drop, length-set, replicate, length-take}
use mathlib.Core.Bool.{Bool, true, false}
use borrow.Author.Tests.{leb-true, leb-false}
use lib.Dec.{leb}
use lib.Seq.{take_all, take-nil, drop-drop, set-set, set_comm}
use borrow.Rule.Slice.PartMut.{put_mid}
use Rattle.std.specs.Int.{w16, w32, w64, from_le_bytes, to_le_bytes, bytes_low_first, byte_at}
use Rattle.std.proofs.lemmas.List.{drop-replicate, take-replicate, length-replicate}
use Rattle.wire.specs.Bytes.{le, number, put}
use Rattle.wire.proofs.Numbers.{length-le}
use Rattle.wire.proofs.Buffer.{put_inside, put_out}

pub read_2 : (bs : List ℕ) (x : ℕ) → length bs ≡ 2 → x ≡ from_le_bytes w16 bs → x ≡ number bs
unfolding number
read_2 (a ∷ b ∷ []) x l e = omega arith
read_2 [] x l e = absurd (omega arith)
read_2 (a ∷ []) x l e = absurd (omega arith)
read_2 (a ∷ b ∷ c ∷ cs) x l e = absurd (omega arith)

pub read_4 : (bs : List ℕ) (x : ℕ) → length bs ≡ 4 → x ≡ from_le_bytes w32 bs → x ≡ number bs
unfolding number
read_4 (a ∷ b ∷ c ∷ d ∷ []) x l e = omega arith
read_4 [] x l e = absurd (omega arith)
read_4 (a ∷ []) x l e = absurd (omega arith)
read_4 (a ∷ b ∷ []) x l e = absurd (omega arith)
read_4 (a ∷ b ∷ c ∷ []) x l e = absurd (omega arith)
read_4 (a ∷ b ∷ c ∷ d ∷ f ∷ fs) x l e = absurd (omega arith)

pub read_8 : (bs : List ℕ) (x : ℕ) → length bs ≡ 8 → x ≡ from_le_bytes w64 bs → x ≡ number bs
unfolding number
read_8 (a ∷ b ∷ c ∷ d ∷ f ∷ g ∷ h ∷ i ∷ []) x l e = omega arith
read_8 [] x l e = absurd (omega arith)
read_8 (a ∷ []) x l e = absurd (omega arith)
read_8 (a ∷ b ∷ []) x l e = absurd (omega arith)
read_8 (a ∷ b ∷ c ∷ []) x l e = absurd (omega arith)
read_8 (a ∷ b ∷ c ∷ d ∷ []) x l e = absurd (omega arith)
read_8 (a ∷ b ∷ c ∷ d ∷ f ∷ []) x l e = absurd (omega arith)
read_8 (a ∷ b ∷ c ∷ d ∷ f ∷ g ∷ []) x l e = absurd (omega arith)
read_8 (a ∷ b ∷ c ∷ d ∷ f ∷ g ∷ h ∷ []) x l e = absurd (omega arith)
read_8 (a ∷ b ∷ c ∷ d ∷ f ∷ g ∷ h ∷ i ∷ j ∷ js) x l e = absurd (omega arith)

-- as many bytes as are read, zeros in the place of those past the end
pub number_padded : (n : ℕ) (xs rest : List ℕ) → length xs ≡ n → ((i : ℕ) → i < n → get_or xs i 0 ≡ get_or rest i 0)
    → number xs ≡ number (take n rest)
unfolding number
number_padded zero [] rest l h = refl
number_padded zero (x ∷ xs) rest l h = absurd (omega arith)
number_padded (suc n) [] rest l h = absurd (omega arith)
number_padded (suc n) (x ∷ xs) [] l h =
    let e : x ≡ 0 = h 0 (omega arith) in
    rw (e, number_padded n xs [] (omega arith) (λ i q. h (suc i) (omega arith)), take-nil {A = ℕ} n)
number_padded (suc n) (x ∷ xs) (y ∷ ys) l h =
    let e : x ≡ y = h 0 (omega arith) in
    rw (e, number_padded n xs ys (omega arith) (λ i q. h (suc i) (omega arith)))

-- the k bytes of x from byte i on
byte_low : (i x : ℕ) → byte_at i x ≡ x / 256 ^ i % 256
byte_low zero x = let e : x / 1 ≡ x = omega arith in rw e
byte_low (suc i) x = refl

bytes_low : (i k x : ℕ) → bytes_low_first i k x ≡ le k (x / 256 ^ i)
unfolding le
bytes_low i zero x = refl
bytes_low i (suc k) x =
    let e : x / 256 ^ i / 256 ≡ x / 256 ^ suc i = rw pow-suc (div-div-eq-div-mul x (256 ^ i) 256) in
    rw (byte_low i x, bytes_low (suc i) k x, e)

take_le : (n m x : ℕ) → n ≤ m → take n (le m x) ≡ le n x
unfolding le
take_le zero m x h = refl
take_le (suc n) zero x h = absurd (omega arith)
take_le (suc n) (suc m) x h = rw (take_le n m (x / 256) (omega arith))

eight : (x : ℕ) → to_le_bytes w64 x ≡ le 8 x
eight x = let e : x / 1 ≡ x = omega arith in bytes_low 0 8 x ∙ ap (le 8) e

-- a number written in at most eight bytes
pub le_short : (x n : ℕ) → n ≤ 8 → take n (to_le_bytes w64 x) ≡ le n x
le_short x n h = rw (eight x) (take_le n 8 x h)

le_none : (n : ℕ) → le n 0 ≡ replicate n 0
unfolding le
le_none zero = refl
le_none (suc n) = rw (le_none n)

le_more : (m n x : ℕ) → m ≤ n → x < 256 ^ m → le n x ≡ le m x ++ replicate (n - m) 0
unfolding le
le_more zero n x h hx = let e : x ≡ 0 = omega arith in rw (e, sub-zero) (le_none n)
le_more (suc m) zero x h hx = absurd (omega arith)
le_more (suc m) (suc n) x h hx =
    let hx' : x < 256 * 256 ^ m = rw pow-succ' at hx in
    let d : suc n - suc m ≡ n - m = omega arith in
    rw (d, le_more m n (x / 256) (omega arith) ((div-lt_iff_lt-mul {k = 256} {x = x} {y = 256 ^ m} (omega arith)).1 (rw mul_comm at hx')))

-- what does not fit is not written
put_fits : (l : List ℕ) (at n : ℕ) (bs : List ℕ) → length l ≤ at + n → put l at (take n bs) ≡ put l at bs
unfolding put
put_fits l at zero bs h = sym (put_out l at bs (omega arith))
put_fits l at (suc n) [] h = refl
put_fits l at (suc n) (b ∷ bs) h = put_fits (set l at b) (suc at) n bs (omega (arith, length-set l at b))

-- n is the room or there are no more bytes
full : (l : List ℕ) (at n : ℕ) (bs : List ℕ) → (n < length bs → length l ≤ at + n) → put l at (take n bs) ≡ put l at bs
full l at n bs h = by (leb (length bs) n) refl
  where
    by : (b : Bool) → leb (length bs) n ≡ b → put l at (take n bs) ≡ put l at bs
    by true e = rw (take_all n bs (leb-true (length bs) n e))
    by false e = put_fits l at n bs (h (leb-false (length bs) n e))

-- as many bytes as there is room for, written over the part of the buffer that they fill
pub put_room : (l : List ℕ) (at n : ℕ) (bs part : List ℕ) → at ≤ length l → n ≡ min (length bs) (length l - at) → part ≡ take n bs
    → put_mid at n l part ≡ put l at bs
put_room l at n bs part h e p =
    let fits : at + length part ≤ length l = rw (p, length-take) (omega arith) in
    let size : n ≡ length part = rw (p, length-take) (omega arith) in
    let whole : put l at part ≡ put l at bs = rw p (full l at n bs (λ q. omega arith)) in
    rw (size, drop-drop (length part) at l) (sym (put_inside l at part fits ∙ append_assoc (take at l) part (drop (at + length part) l)) ∙ whole)

pub zeros_room : (l : List ℕ) (at m n : ℕ) (part : List ℕ) → at ≤ length l → m ≡ min n (length l - at) → part ≡ replicate m 0
    → put_mid at m l part ≡ put l at (replicate n 0)
zeros_room l at m n part h e p =
    put_room l at m (replicate n 0) part h (rw length-replicate e) (p ∙ sym (take-replicate {X = ℕ} m n 0 (omega arith)))

-- bytes written over others of which there were more
set_put : (l : List ℕ) (at next b : ℕ) (zs : List ℕ) → at < next → set (put l next zs) at b ≡ put (set l at b) next zs
unfolding put
set_put l at next b [] h = refl
set_put l at next b (z ∷ zs) h = rw (set_put (set l next z) at (suc next) b zs (omega arith), set_comm l next at z b (omega arith))

put_over : (l : List ℕ) (at : ℕ) (zs bs : List ℕ) → length bs ≤ length zs → put (put l at zs) at bs ≡ put l at (bs ++ drop (length bs) zs)
unfolding put
put_over l at zs [] h = refl
put_over l at [] (b ∷ bs) h = absurd (omega arith)
put_over l at (z ∷ zs) (b ∷ bs) h =
    rw (set_put (set l at z) at (suc at) b zs (omega arith), set-set l at z b) (put_over (set l at b) (suc at) zs bs (omega arith))

-- a number written in more than eight bytes: over zeros
pub le_long : (l : List ℕ) (at n x : ℕ) → 8 < n → x < 2 ^ 64 → put (put l at (replicate n 0)) at (take n (to_le_bytes w64 x)) ≡ put l at (le n x)
unfolding le
le_long l at n x h hx =
    let e : take n (to_le_bytes w64 x) ≡ le 8 x = rw (eight x) (take_all n (le 8 x) (rw length-le (omega arith))) in
    let m : le n x ≡ le 8 x ++ replicate (n - 8) 0 = le_more 8 n x (omega arith) hx in
    let z : drop 8 (replicate n 0) ≡ replicate (n - 8) 0 = drop-replicate {X = ℕ} 8 n 0 in
    rw (e, m, ← z) (put_over l at (replicate n 0) (le 8 x) (rw (length-le, length-replicate) (omega arith)))
