-- Lists of whole entries, over the entries' width and code: what is written is read back, and what is read is written back.
-- Assumes nothing.
use Prim.Native.Nat.{ℕ, zero, suc, ◌+◌, ◌*◌, ◌/◌, ◌%◌, ◌^◌, ◌≤◌, ◌<◌}
use mathlib.Core.Path.{◌≡◌, refl, ap, ◌∙◌}
use mathlib.Core.Bool.{true}
use mathlib.Core.List.{List, [], ◌∷◌, ◌++◌, map}
use native.Mathlib.Nat.{zero-mul, suc-mul, mul-div_cancel, mul-mod_left, div-add-mod'}
use native.Mathlib.Omega.{arith}
use lib.ListN.{length, drop, length-drop, length-append, length-map, take-append-drop}
use lib.Seq.{length-take-le, take_at, drop_at}
use lib.Dec.{leb}
use borrow.Author.Tests.{eq-eqb, eqb-true, leb-true, le-leb}
use Rattle.wire.specs.Bytes.{Bytes, All, le, number, joined}
use Rattle.wire.proofs.Numbers.{length-le, number-le, le-number, number_lt, number_at_lt, bytes_take, bytes_drop}
use Rattle.wire.proofs.Fields.{part_read, part_next, part_back, field_read, field_next, field_back}
use Rattle.wire.proofs.Lists.{all_imp, all_map, map_back, length-joined, and_left, and_right, and_both}
use Rattle.layout.specs.Messages.{Nonce, SignatureShare}
use Rattle.layout.specs.Encode.{id_bytes, clock_bytes, nonce_bytes, share_bytes}
use Rattle.layout.specs.LaidOut.{whole_entries, whole_share}
use Rattle.layout.specs.Decode.{entries, ids_in, nonce_in, nonces_in, share_in}
use Rattle.layout.specs.Fits.{Sized, NonceFits, IdsListed, ShareFits}

pub length-entries : (w k : ℕ) (s : List ℕ) → length (entries w k s) ≡ k
unfolding entries
length-entries w zero s = refl
length-entries w (suc k) s = ap suc (length-entries w k (drop w s))

-- entries of one width, cut again
pub entries-joined : (w : ℕ) (ps : List (List ℕ)) → All (λ (p : List ℕ). length p ≡ w) ps → entries w (length ps) (joined ps) ≡ ps
unfolding entries
entries-joined w [] h = refl
entries-joined w (p ∷ ps) h = rw (take_at p (joined ps) w h.0, drop_at p (joined ps) w h.0) (ap (λ (l : List (List ℕ)). p ∷ l) (entries-joined w ps h.1))

-- a list of k whole entries: one more, at the front
module _ (w k : ℕ) (s : List ℕ) (e : length s ≡ suc k * w) where
  first : w ≤ length s
  first = omega (arith, suc-mul k w)

  after : length (drop w s) ≡ k * w
  after = rw length-drop (omega (arith, suc-mul k w))

pub joined-entries : (w k : ℕ) (s : List ℕ) → length s ≡ k * w → joined (entries w k s) ≡ s
unfolding entries
joined-entries w zero [] e = refl
joined-entries w zero (x ∷ s) e = let z : ⊥ = omega (arith, zero-mul w) in absurd z
joined-entries w (suc k) s e = rw (joined-entries w k (drop w s) (after w k s e)) (take-append-drop w s)

-- each is of the width
pub sized_entries : (w k : ℕ) (s : List ℕ) → Bytes s → length s ≡ k * w → All (Sized w) (entries w k s)
unfolding entries
sized_entries w zero s b e = tt
sized_entries w (suc k) s b e = (
  record { bytes = bytes_take w s b; size = length-take-le w s (first w k s e) },
  sized_entries w k (drop w s) (bytes_drop w s b) (after w k s e),
)

-- a code of w bytes for the elements that are Good
module _ {A : Type 0} (w : ℕ) (pos : 0 < w) (enc : A → List ℕ) (dec : List ℕ → A) (Good : A → Type 0) where
  module _ (size : (a : A) → Good a → length (enc a) ≡ w) where
    length_list : (xs : List A) → All Good xs → length (joined (map enc xs)) ≡ length xs * w
    length_list xs h = length-joined w (map enc xs) (all_map _ enc xs (all_imp xs size h)) ∙ ap (λ (n : ℕ). n * w) (length-map xs enc)

    whole_list : (xs : List A) → All Good xs → whole_entries w (joined (map enc xs)) ≡ true
    unfolding whole_entries
    whole_list xs h = eq-eqb (length (joined (map enc xs)) % w) 0 (rw (length_list xs h) (mul-mod_left (length xs) w))

    read_list : ((a : A) → Good a → dec (enc a) ≡ a) → (xs : List A) → All Good xs → map dec (entries w (length (joined (map enc xs)) / w) (joined (map enc xs))) ≡ xs
    read_list back xs h =
        let n : length (joined (map enc xs)) / w ≡ length (map enc xs) = rw (length_list xs h, length-map xs enc) (mul-div_cancel (length xs) pos) in
        rw (n, entries-joined w (map enc xs) (all_map _ enc xs (all_imp xs size h))) (map_back enc dec xs (all_imp xs back h))

  module _ (s : List ℕ) (b : Bytes s) (whole : length s % w ≡ 0) where
    count : length s ≡ length s / w * w
    count = omega (arith, div-add-mod' (length s) w)

    each : All (Sized w) (entries w (length s / w) s)
    each = sized_entries w (length s / w) s b count

    write_list : ((p : List ℕ) → Sized w p → enc (dec p) ≡ p) → joined (map enc (map dec (entries w (length s / w) s))) ≡ s
    write_list back = let es = entries w (length s / w) s in
        rw (map_back dec enc es (all_imp es back each)) (joined-entries w (length s / w) s count)

    good_list : ((p : List ℕ) → Sized w p → Good (dec p)) → All Good (map dec (entries w (length s / w) s))
    good_list good = let es = entries w (length s / w) s in all_map Good dec es (all_imp es good each)

-- key ids, in 4 bytes each

id_back : (p : List ℕ) → Sized 4 p → le 4 (number p) ≡ p
id_back p h = rw (← h.size) (le-number p h.bytes)

id-fits : (p : List ℕ) → Sized 4 p → number p < 2 ^ 32
id-fits p h = rw h.size at (number_lt p h.bytes)

-- numbers of w bytes each
length_numbers : (w : ℕ) → 0 < w → (ns : List ℕ) → length (joined (map (le w) ns)) ≡ length ns * w
length_numbers w positive ns = length_list w positive (le w) number (λ k. Unit) (λ k h. length-le w k) ns (all ns)
  where
    all : (xs : List ℕ) → All (λ (k : ℕ). Unit) xs
    all [] = tt
    all (x ∷ xs) = (tt, all xs)

pub length-id_bytes : (ids : List ℕ) → length (id_bytes ids) ≡ length ids * 4
unfolding id_bytes
length-id_bytes ids = length_numbers 4 (omega arith) ids

pub length-clock_bytes : (clocks : List ℕ) → length (clock_bytes clocks) ≡ length clocks * 8
unfolding clock_bytes
length-clock_bytes clocks = length_numbers 8 (omega arith) clocks

pub whole-ids : (ids : List ℕ) → whole_entries 4 (id_bytes ids) ≡ true
unfolding whole_entries
whole-ids ids = eq-eqb (length (id_bytes ids) % 4) 0 (rw (length-id_bytes ids) (mul-mod_left (length ids) 4))

pub ids_in-id_bytes : (ids : List ℕ) → IdsListed ids → ids_in (id_bytes ids) ≡ ids
unfolding ids_in id_bytes
ids_in-id_bytes = read_list 4 (omega arith) (le 4) number (λ k. k < 2 ^ 32) (λ k h. length-le 4 k) (λ k h. number-le 4 k h)

pub id_bytes-ids_in : (s : List ℕ) → Bytes s → length s % 4 ≡ 0 → id_bytes (ids_in s) ≡ s
unfolding ids_in id_bytes
id_bytes-ids_in s b e = write_list 4 (omega arith) (le 4) number (λ k. k < 2 ^ 32) s b e id_back

pub fits-ids_in : (s : List ℕ) → Bytes s → length s % 4 ≡ 0 → IdsListed (ids_in s)
unfolding ids_in
fits-ids_in s b e = good_list 4 (omega arith) (le 4) number (λ k. k < 2 ^ 32) s b e id-fits

-- nonces, in 66 bytes each

nonce-size : (n : Nonce) → NonceFits n → length (nonce_bytes n) ≡ 66
unfolding nonce_bytes
nonce-size n h = rw (length-append, h.D.size, h.E.size)

nonce_read : (n : Nonce) → NonceFits n → nonce_in (nonce_bytes n) ≡ n
unfolding nonce_bytes nonce_in
nonce_read n h = rw (take_at n.D n.E 33 h.D.size, drop_at n.D n.E 33 h.D.size)

nonce_back : (p : List ℕ) → Sized 66 p → nonce_bytes (nonce_in p) ≡ p
unfolding nonce_bytes nonce_in
nonce_back p h = take-append-drop 33 p

nonce-fits : (p : List ℕ) → Sized 66 p → NonceFits (nonce_in p)
unfolding nonce_in
nonce-fits p h =
    record {
      D = record { bytes = bytes_take 33 p h.bytes; size = length-take-le 33 p (omega (arith, h.size)) };
      E = record { bytes = bytes_drop 33 p h.bytes; size = rw (length-drop, h.size) refl };
    }

pub length-nonces : (ns : List Nonce) → All NonceFits ns → length (joined (map nonce_bytes ns)) ≡ length ns * 66
length-nonces = length_list 66 (omega arith) nonce_bytes nonce_in NonceFits nonce-size

pub whole_nonces : (ns : List Nonce) → All NonceFits ns → whole_entries 66 (joined (map nonce_bytes ns)) ≡ true
whole_nonces = whole_list 66 (omega arith) nonce_bytes nonce_in NonceFits nonce-size

pub nonces_in-bytes : (ns : List Nonce) → All NonceFits ns → nonces_in (joined (map nonce_bytes ns)) ≡ ns
unfolding nonces_in
nonces_in-bytes = read_list 66 (omega arith) nonce_bytes nonce_in NonceFits nonce-size nonce_read

pub bytes-nonces_in : (s : List ℕ) → Bytes s → length s % 66 ≡ 0 → joined (map nonce_bytes (nonces_in s)) ≡ s
unfolding nonces_in
bytes-nonces_in s b e = write_list 66 (omega arith) nonce_bytes nonce_in NonceFits s b e nonce_back

pub fits-nonces_in : (s : List ℕ) → Bytes s → length s % 66 ≡ 0 → All NonceFits (nonces_in s)
unfolding nonces_in
fits-nonces_in s b e = good_list 66 (omega arith) nonce_bytes nonce_in NonceFits s b e nonce-fits

-- a share: its id, z_i, its key ids

pub length-share_bytes : (s : SignatureShare) → ShareFits s → length (share_bytes s) ≡ 36 + 4 * length s.key_ids
unfolding share_bytes
length-share_bytes s h = rw (length-append, length-append, length-le, h.z_i.size, length-id_bytes) (omega arith)

module _ (s : SignatureShare) (h : ShareFits s) where
  z_next : drop 4 (share_bytes s) ≡ s.z_i ++ id_bytes s.key_ids
  unfolding share_bytes
  z_next = field_next 4 0 (share_bytes s) s.id _ refl

  ids_next : drop 36 (share_bytes s) ≡ id_bytes s.key_ids
  ids_next = part_next 32 4 (share_bytes s) s.z_i _ h.z_i.size z_next

  pub the_whole_share : whole_share (share_bytes s) ≡ true
  unfolding whole_share
  the_whole_share = and_both _ _ (le-leb 36 (length (share_bytes s)) (omega (arith, length-share_bytes s h))) (rw ids_next (whole-ids s.key_ids))

  pub share_in_share_bytes : share_in (share_bytes s) ≡ s
  unfolding share_in share_bytes
  share_in_share_bytes =
      rw (field_read 4 0 (share_bytes s) s.id _ h.id refl, part_read 32 4 (share_bytes s) s.z_i _ h.z_i.size z_next, ids_next, ids_in-id_bytes s.key_ids h.key_ids)

module _ (s : List ℕ) (b : Bytes s) (w : whole_share s ≡ true) where
  long : 36 ≤ length s
  unfolding whole_share
  long = leb-true 36 (length s) (and_left _ _ w)

  whole : length (drop 36 s) % 4 ≡ 0
  unfolding whole_share whole_entries
  whole = eqb-true _ 0 (and_right (leb 36 (length s)) _ w)

  pub share_bytes_share_in : share_bytes (share_in s) ≡ s
  unfolding share_bytes share_in
  share_bytes_share_in =
      rw (id_bytes-ids_in (drop 36 s) (bytes_drop 36 s b) whole, part_back 32 4 s, field_back 4 0 s b (omega (arith, long))) (part_back 4 0 s)

  pub fits_share_in : ShareFits (share_in s)
  unfolding share_in
  fits_share_in =
      record {
        id = number_at_lt 4 0 s b;
        z_i = record { bytes = bytes_take 32 (drop 4 s) (bytes_drop 4 s b); size = length-take-le 32 (drop 4 s) (rw length-drop (omega (arith, long))) };
        key_ids = fits-ids_in (drop 36 s) (bytes_drop 36 s b) whole;
      }

-- as many ids and nonces as there are whole entries
pub length-ids_in : (s : List ℕ) → length (ids_in s) ≡ length s / 4
unfolding ids_in
length-ids_in s = rw (length-map, length-entries)

pub length-nonces_in : (s : List ℕ) → length (nonces_in s) ≡ length s / 66
unfolding nonces_in
length-nonces_in s = rw (length-map, length-entries)
