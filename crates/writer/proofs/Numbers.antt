-- A loop that writes numbers of one width, one after the other: what is still to be written completes the list.
-- Assumes nothing.
use Prim.Native.Nat.{ℕ, ◌+◌, ◌≤◌, ◌<◌}
use mathlib.Core.Path.{◌≡◌, sym, ◌∙◌}
use mathlib.Core.List.{List, ◌∷◌, map}
use native.Mathlib.Numerals.{add-one}
use lib.Seq.{drop-cons, length-take-le}
use lib.ListN.{length, get_or, take, drop, length-map, drop_of_length-le}
use Rattle.std.proofs.lemmas.List.{take-map}
use Rattle.wire.specs.Bytes.{le, put}
use Rattle.framing.proofs.Laws.{put-field}
use Rattle.writer.specs.Columns.{number_bytes}

-- i of the numbers, w bytes each, stand from `at` on; the next is put at `next`
pub record Putting (w : ℕ) (ns before : List ℕ) (at : ℕ) (out : List ℕ) (next i : ℕ) : Type 0 where
  pub rest : put out next (number_bytes w (drop i ns)) ≡ put before at (number_bytes w ns)

module _ {w : ℕ} {ns before : List ℕ} {at : ℕ} {out : List ℕ} {next i : ℕ} where
  pub one_more :
      (d x after : ℕ) → next + w ≡ after → i < length ns → x ≡ get_or ns i d → Putting w ns before at out next i
      → Putting w ns before at (put out next (le w x)) after (i + 1)
  unfolding number_bytes
  one_more d x after e h is v =
      let there : drop i ns ≡ get_or ns i d ∷ drop (i + 1) ns = rw add-one (drop-cons ns i d h) in
      record { rest = rw (← e, is) (put-field out next w (get_or ns i d) _ ∙ rw there at v.rest) }

  pub all_of_it : length ns ≤ i → Putting w ns before at out next i → out ≡ put before at (number_bytes w ns)
  unfolding number_bytes put
  all_of_it h v = rw (drop_of_length-le ns {i = i} h) at v.rest

-- the entries of an array that count, as they are told
module _ {A B : Type 0} (f : A → B) (xs : List A) (n : ℕ) where
  pub length_live : n ≤ length xs → length (take n (map f xs)) ≡ n
  length_live l = length-take-le n (map f xs) (rw length-map l)

  pub map_live : map f (take n xs) ≡ take n (map f xs)
  map_live = sym (take-map f n xs)
