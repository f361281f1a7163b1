-- Bytes that are copied into an array, and an array that is read element by element.
-- Assumes nothing.
use Prim.Native.Nat.{ℕ, zero, suc, ◌+◌, ◌*◌, ◌≤◌, ◌<◌}
use mathlib.Core.Path.{◌≡◌, refl, sym, ap, ◌∙◌}
use mathlib.Core.List.{List, [], ◌∷◌, ◌++◌, append-nil}
use native.Mathlib.Nat.{mul-zero, mul-suc}
use native.Mathlib.Omega.{arith}
use lib.ListN.{length, get_or, take, drop, replicate, length-replicate, length-take, drop_of_length-le}
use lib.Seq.{get_or-drop, drop-drop}
use Rattle.wire.specs.Bytes.{put}
use Rattle.wire.proofs.Buffer.{put_inside}
use Rattle.form.specs.Form as F
use Rattle.form.specs.Form.{Form, bytes_at, each_at}

-- a buffer of zeros that is overwritten whole
pub over_zeros : (n : ℕ) (bytes : List ℕ) → length bytes ≡ n → put (replicate n 0) 0 bytes ≡ bytes
over_zeros n bytes e =
    let zeros : List ℕ = replicate n 0 in
    let fits : 0 + length bytes ≤ length zeros = omega (arith, e, length-replicate {A = ℕ} n 0) in
    let rest : drop (0 + length bytes) zeros ≡ [] = drop_of_length-le zeros {i = 0 + length bytes} (omega (arith, e, length-replicate {A = ℕ} n 0)) in
    put_inside zeros 0 bytes fits ∙ rw (rest, append-nil bytes)

-- the first n of a list, and 0 for those that it lacks
padded : ℕ → List ℕ → List ℕ
padded zero l = []
padded (suc n) l = get_or l 0 0 ∷ padded n (drop 1 l)

bytes_padded : (s : List ℕ) (at n : ℕ) → bytes_at s at n ≡ padded n (drop at s)
unfolding bytes_at padded
bytes_padded s at zero = refl
bytes_padded s at (suc n) =
    let e : at + 0 ≡ at = omega arith in
    let d : get_or (drop at s) 0 0 ≡ get_or s at 0 = rw e at (get_or-drop at s 0 0) in
    rw (d, drop-drop 1 at s, bytes_padded s (at + 1) n)

none_padded : (n : ℕ) → padded n [] ≡ replicate n 0
unfolding padded
none_padded zero = refl
none_padded (suc n) = ap (λ (t : List ℕ). 0 ∷ t) (none_padded n)

padded_is : (n : ℕ) (l : List ℕ) → padded n l ≡ take n l ++ drop (length (take n l)) (replicate n 0)
unfolding padded
padded_is zero l = refl
padded_is (suc n) [] = ap (λ (t : List ℕ). 0 ∷ t) (none_padded n)
padded_is (suc n) (x ∷ l) = ap (λ (t : List ℕ). x ∷ t) (padded_is n l)

-- n bytes of s, copied over zeros: those past its end stay 0
pub copied : (s : List ℕ) (at n : ℕ) {p r : List ℕ} → p ≡ take n (drop at s) → r ≡ put (replicate n 0) 0 p → r ≡ (F.bytes n).load s at
unfolding F.bytes
copied s at n e w =
    let part = take n (drop at s) in
    let fits : 0 + length part ≤ length {A = ℕ} (replicate n 0) = rw (length-take, length-replicate) (omega arith) in
    let k : 0 + length part ≡ length part = omega arith in
    w ∙ rw e (put_inside (replicate n 0) 0 part fits ∙ rw k (sym (bytes_padded s at n ∙ padded_is n (drop at s))))

-- an array whose element at each index is the one that stands there
pub each_read :
    {A : Type 0} (G : Form A) (s : List ℕ) (at n : ℕ) (xs : List A)
    → length xs ≡ n → ((i : ℕ) (d : A) → i < n → get_or xs i d ≡ G.load s (at + G.width * i)) → xs ≡ (F.each n G).load s at
unfolding F.each each_at
each_read G s at zero [] e h = refl
each_read G s at zero (x ∷ xs) e h = let no : ⊥ = omega arith in absurd no
each_read G s at (suc n) [] e h = let no : ⊥ = omega arith in absurd no
each_read G s at (suc n) (x ∷ xs) e h =
    let here : at + G.width * 0 ≡ at = rw mul-zero (omega arith) in
    let first : x ≡ G.load s at = rw here at (h 0 x (omega arith)) in
    let rest : xs ≡ (F.each n G).load s (at + G.width) =
    each_read G s (at + G.width) n xs (omega arith)
    (λ i d l. h (suc i) d (omega arith) ∙ ap (G.load s) (next i)) in
    rw (first, rest)
  where
    next : (i : ℕ) → at + G.width * suc i ≡ at + G.width + G.width * i
    next i = rw mul-suc (omega arith)
