-- Laws of a packet's parts: one after the other, and what a whole share has.
-- Assumes nothing.
use Prim.Native.Nat.{ℕ, zero, suc, ◌+◌, ◌*◌, ◌%◌, ◌/◌, ◌≤◌, ◌<◌}
use mathlib.Core.Path.{◌≡◌, refl, ap, ◌∙◌}
use mathlib.Core.Bool.{true}
use mathlib.Core.List.{List, [], ◌∷◌, map}
use native.Mathlib.Numerals.{add-one}
use native.Mathlib.Omega.{arith}
use borrow.Author.Tests.{leb-true, eqb-true}
use lib.Dec.{leb}
use lib.ListN.{length, take, drop, length-drop, drop_of_length-le}
use lib.Seq.{drop-cons, length-take-le}
use Rattle.wire.specs.Bytes.{every, All}
use Rattle.wire.proofs.Lists.{and_left, and_right, all_imp, every_all}
use Rattle.layout.specs.LaidOut.{part_at, parts_from, whole_entries, whole_share}
use Rattle.layout.specs.Decode.{share_in, key_count}
use Rattle.layout.proofs.Headed.{length-parts_from}
use Rattle.layout.proofs.Entries.{length-ids_in}
use Rattle.parts.proofs.Taken.{part_of}
use Rattle.state.specs.Counts.{sum}
use Rattle.shares.specs.Shares.{Shareable, part_keys}

-- what is left at k: the part in that place, and what is left after it
pub parts_next : (s : List ℕ) (p n k : ℕ) → k < n → drop k (parts_from s p n) ≡ part_at s (p + 8 * k) ∷ drop (k + 1) (parts_from s p n)
parts_next s p n k h =
    rw add-one (drop-cons (parts_from s p n) k [] (rw length-parts_from h) ∙ ap (λ (x : List ℕ). x ∷ drop (suc k) (parts_from s p n)) (part_of s p n k h))

pub parts_end : (s : List ℕ) (p n k : ℕ) → n ≤ k → drop k (parts_from s p n) ≡ []
parts_end s p n k h = drop_of_length-le (parts_from s p n) {i = k} (rw length-parts_from h)

-- id and z_i, then key ids of four bytes each
pub record Whole (p : List ℕ) : Type 0 where
  pub head : length (take 36 p) ≡ 36
  pub keys : length (drop 36 p) ≡ part_keys p * 4

pub whole : (p : List ℕ) → whole_share p ≡ true → Whole p
unfolding whole_share whole_entries
whole p w =
    let long : 36 ≤ length p = leb-true 36 (length p) (and_left _ _ w) in
    let none : length (drop 36 p) % 4 ≡ 0 = eqb-true _ 0 (and_right (leb 36 (length p)) _ w) in
    let e = length-drop 36 p in
    record { head = length-take-le 36 p long; keys = omega arith }

pub all_whole : (ps : List (List ℕ)) → every whole_share ps ≡ true → All Whole ps
all_whole ps w = all_imp ps whole (every_all whole_share ps w)

-- its key ids, counted
pub ids-count : (p : List ℕ) → length (share_in p).key_ids ≡ part_keys p
unfolding share_in
ids-count p = length-ids_in (drop 36 p) ∙ ap (λ (n : ℕ). n / 4) (length-drop 36 p)

pub keys-total : (ps : List (List ℕ)) → sum (map part_keys ps) ≡ key_count (map share_in ps)
unfolding sum key_count
keys-total [] = refl
keys-total (p ∷ ps) = omega (arith, ids-count p, keys-total ps)

-- those of the parts that are left are no more than all
pub keys_left : (ps : List (List ℕ)) (k : ℕ) → sum (map part_keys (drop k ps)) ≤ sum (map part_keys ps)
unfolding sum
keys_left ps zero = omega arith
keys_left [] (suc k) = omega arith
keys_left (p ∷ ps) (suc k) = omega (arith, keys_left ps k)

pub keys_few : (ps : List (List ℕ)) → Shareable ps → sum (map part_keys ps) ≤ 16
keys_few ps g = omega (arith, keys-total ps, g.keys)

pub pairs-few : (s : List ℕ) (p n : ℕ) → Shareable (parts_from s p n) → n ≤ 16
pairs-few s p n g = omega (arith, length-parts_from s p n, g.few)
