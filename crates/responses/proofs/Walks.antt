-- Laws of lists that a loop walks, element by element.
-- Assumes nothing.
use Prim.Native.Nat.{ℕ, ◌+◌, ◌≤◌, ◌<◌}
use mathlib.Core.Path.{◌≡◌}
use mathlib.Core.List.{List}
use native.Mathlib.Omega.{arith}
use lib.ListN.{length, get_or, drop}
use Rattle.wire.specs.Bytes.{le, put}
use Rattle.layout.specs.Encode.{id_bytes}
use Rattle.framing.specs.Writing.{total}
use Rattle.framing.proofs.Laws.{put-field}
use Rattle.pieces.proofs.Given.{drop_next}

-- the sum of the elements from i on: the one at i, then those after it
pub total_next : (xs : List ℕ) (i : ℕ) → i < length xs → total (drop i xs) ≡ get_or xs i 0 + total (drop (i + 1) xs)
unfolding total
total_next xs i h = rw (drop_next xs i 0 h)

-- what is counted so far and the next count are no more than all
pub count_in_law : (counts : List ℕ) (i k n : ℕ) → i < length counts → k + total (drop i counts) ≡ n → k + get_or counts i 0 ≤ n
count_in_law counts i k n h e = omega (arith, total_next counts i h)

-- the id at i written, then those after it
pub put_id_next :
    (out : List ℕ) (p q : ℕ) (ids : List ℕ) (i : ℕ) → p + 4 ≡ q → i < length ids
    → put (put out p (le 4 (get_or ids i 0))) q (id_bytes (drop (i + 1) ids)) ≡ put out p (id_bytes (drop i ids))
unfolding id_bytes
put_id_next out p q ids i e h = rw (drop_next ids i 0 h, ← e) (put-field out p 4 (get_or ids i 0) _)
