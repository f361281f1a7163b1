-- A store that is zeros up to a place, and then as it was.
-- Assumes nothing.
use Prim.Native.Nat.{ℕ, ◌+◌, ◌<◌}
use mathlib.Core.Path.{◌≡◌}
use mathlib.Core.List.{List, [], ◌∷◌, ◌++◌, append_assoc, append-nil}
use native.Mathlib.Numerals.{add-one}
use native.Mathlib.Omega.{arith}
use lib.ListN.{length, get_or, set, drop, replicate, length-replicate, replicate-append-replicate, drop_of_length-le}
use lib.Seq.{drop-cons, set_at}

abbrev pub zeroed : List ℕ → ℕ → List ℕ
zeroed xs i = replicate i 0 ++ drop i xs

module _ (xs : List ℕ) (i : ℕ) where
  pub zero_next : i < length xs → set (zeroed xs i) i 0 ≡ zeroed xs (i + 1)
  zero_next h =
      let one : List ℕ = 0 ∷ [] in
      let more : replicate i 0 ++ one ≡ replicate (i + 1) 0 = replicate-append-replicate i 1 0 in
      rw (← more, append_assoc, add-one, drop-cons xs i 0 h) (set_at (replicate i 0) (get_or xs i 0) _ 0 i (length-replicate i 0))

  pub zero_done : length xs ≡ i → zeroed xs i ≡ replicate (length xs) 0
  zero_done e = rw (drop_of_length-le xs {i = i} (omega arith), append-nil, e)
