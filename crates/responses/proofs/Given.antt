-- Laws of the shares that plain lists say: how long they are, and one after the other.
-- Assumes nothing.
use Prim.Native.Nat.{ℕ, ◌+◌, ◌*◌, ◌≤◌, ◌<◌}
use mathlib.Core.Path.{◌≡◌, refl, ap, ap₂, ◌∙◌}
use mathlib.Core.List.{List, [], ◌∷◌, map}
use native.Mathlib.Omega.{arith}
use lib.ListN.{length, get_or, take, drop, length-append, length-drop}
use lib.Seq.{length-take-le, drop-drop}
use Rattle.wire.specs.Bytes.{put, joined}
use Rattle.wire.proofs.Numbers.{length-le}
use Rattle.wire.proofs.Buffer.{put_next}
use Rattle.layout.specs.Encode.{share_bytes}
use Rattle.layout.proofs.Entries.{length-id_bytes}
use Rattle.framing.specs.Writing.{total}
use Rattle.responses.specs.Responses.{share_of, shares_given, share_length}
use Rattle.responses.specs.ReadBack.{Agree}
use Rattle.pieces.proofs.Given.{drop_next}
use Rattle.responses.proofs.Cut.{agree_next}

-- a share's bytes
pub length-share :
    (id : ℕ) (z_i key_ids : List ℕ) → length z_i ≡ 32
    → length (share_bytes (share_of id z_i key_ids)) ≡ share_length (length key_ids)
unfolding share_bytes share_length
length-share id z_i key_ids h = rw (length-append, length-append, length-le, h, length-id_bytes) (omega arith)

-- each is as long as its count says
pub lengths_given :
    (ids z_i counts key_ids : List ℕ) → Agree ids z_i counts key_ids
    → map length (map share_bytes (shares_given ids z_i counts key_ids)) ≡ map share_length counts
unfolding shares_given
lengths_given [] z_i [] key_ids a = refl
lengths_given [] z_i (n ∷ counts) key_ids a = let z : ⊥ = omega (arith, a.counts_each) in absurd z
lengths_given (id ∷ ids) z_i [] key_ids a = let z : ⊥ = omega (arith, a.counts_each) in absurd z
lengths_given (id ∷ ids) z_i (n ∷ counts) key_ids a =
    let next = agree_next id n ids z_i counts key_ids a in
    let size = length-share id (take 32 z_i) (take n key_ids) (length-take-le 32 z_i next.1) in
    ap₂ (λ (x : ℕ) (xs : List ℕ). x ∷ xs) (size ∙ ap share_length (length-take-le n key_ids next.2))
    (lengths_given ids (drop 32 z_i) counts (drop n key_ids) next.0)

pub total_lengths : (counts : List ℕ) → total (map share_length counts) ≡ 36 * length counts + 4 * total counts
unfolding total share_length
total_lengths [] = refl
total_lengths (n ∷ counts) = omega (arith, total_lengths counts)

-- the share at i, then those after it
pub given_next :
    (ids z_i counts key_ids : List ℕ) (i k : ℕ) → i < length ids → i < length counts
    → shares_given (drop i ids) (drop (i * 32) z_i) (drop i counts) (drop k key_ids)
    ≡ share_of (get_or ids i 0) (take 32 (drop (i * 32) z_i)) (take (get_or counts i 0) (drop k key_ids))
    ∷ shares_given (drop (i + 1) ids) (drop ((i + 1) * 32) z_i) (drop (i + 1) counts) (drop (k + get_or counts i 0) key_ids)
unfolding shares_given
given_next ids z_i counts key_ids i k h g =
    let at : i * 32 + 32 ≡ (i + 1) * 32 = omega arith in
    rw (drop_next ids i 0 h, drop_next counts i 0 g, drop-drop 32 (i * 32) z_i, at, drop-drop (get_or counts i 0) k key_ids)

-- the share at i written, then those after it
pub put_share_next :
    (out ids z_i counts key_ids : List ℕ) (i k next : ℕ) → i < length ids → i < length counts
    → i * 32 + 32 ≤ length z_i → k + get_or counts i 0 ≤ length key_ids
    → put (put out next (share_bytes (share_of (get_or ids i 0) (take 32 (drop (i * 32) z_i)) (take (get_or counts i 0) (drop k key_ids)))))
    (next + share_length (get_or counts i 0))
    (joined (map share_bytes
    (shares_given (drop (i + 1) ids) (drop ((i + 1) * 32) z_i) (drop (i + 1) counts) (drop (k + get_or counts i 0) key_ids))))
    ≡ put out next (joined (map share_bytes (shares_given (drop i ids) (drop (i * 32) z_i) (drop i counts) (drop k key_ids))))
put_share_next out ids z_i counts key_ids i k next h g l m =
    let n = get_or counts i 0 in
    let scalar : length (take 32 (drop (i * 32) z_i)) ≡ 32 = length-take-le 32 (drop (i * 32) z_i) (rw length-drop (omega arith)) in
    let keys : length (take n (drop k key_ids)) ≡ n = length-take-le n (drop k key_ids) (rw length-drop (omega arith)) in
    let size = length-share (get_or ids i 0) (take 32 (drop (i * 32) z_i)) (take n (drop k key_ids)) scalar ∙ ap share_length keys in
    rw (given_next ids z_i counts key_ids i k h g) (put_next out next _ (next + share_length n) _ (ap (λ (x : ℕ). next + x) size))
