-- Laws of what a writer is given: the live entries of an array, places that hold.
-- Assumes nothing.
use Prim.Native.Nat.{ℕ, suc, ◌+◌, ◌*◌, ◌-◌, ◌%◌, ◌≤◌, ◌<◌}
use mathlib.Core.Path.{◌≡◌, refl, ap, ◌∙◌}
use mathlib.Core.Bool.{Bool, true, ◌&&◌}
use mathlib.Core.List.{List, [], ◌∷◌, map}
use native.Mathlib.Nat.{mul-mod_left}
use native.Mathlib.Numerals.{add-one}
use native.Mathlib.Omega.{arith}
use lib.ListN.{length, get_or, take, drop, length-take, length-drop}
use lib.Seq.{drop-cons, get_or-take, length-take-le}
use lib.Dec.{leb}
use mir.Val.{Val}
use denote.Laws.{Is}
use borrow.Author.Tests.{leb-true}
use Rattle.wire.specs.Bytes.{Bytes, joined, every}
use Rattle.wire.proofs.Numbers.{bytes_take, bytes_drop}
use Rattle.wire.proofs.Lists.{and_left, and_right, the_every_at}
use Rattle.layout.specs.Encode.{packet, header_of, id_bytes, nonce_bytes, response_parts, encode_response}
use Rattle.layout.specs.Decode.{ids_in, nonces_in}
use Rattle.layout.proofs.Entries.{id_bytes-ids_in, bytes-nonces_in}
use Rattle.pieces.specs.declared.places.Place.{Place}
use Rattle.pieces.specs.declared.places.ResponsePlace.{ResponsePlace}
use Rattle.pieces.specs.declared.places.ResponsePlaces.{ResponsePlaces}
use Rattle.pieces.specs.declared.places.SignerIds.{SignerIds}
use Rattle.pieces.specs.declared.places.Arrivals.{Arrivals}
use Rattle.pieces.specs.contracts.places.ResponsePlaces as Places
use Rattle.pieces.specs.contracts.places.SignerIds as Signers
use Rattle.pieces.specs.contracts.places.Arrivals as Arriving
use Rattle.framing.specs.Writing.{total}
use Rattle.pieces.specs.Places.{bytes_at, holds, response_holds, response_at, response_length, places_of, responses_hold}
use Rattle.framing.proofs.Laws.{length-parts}

-- the lengths of the arrays, from what a struct's value is known to be
pub places_10 : (ps : ResponsePlaces) (vs : List Val) → Is Places.the_row ps vs → length ps.places ≡ 10
places_10 ps vs g = g.1.1.0.1.0.1

pub signers_10 : (s : SignerIds) (vs : List Val) → Is Signers.the_row s vs → length s.ids ≡ 10
signers_10 s vs g = g.1.1.0.1.0.1

pub arrivals_10 : (s : Arrivals) (vs : List Val) → Is Arriving.the_row s vs → length s.arrivals ≡ 10
arrivals_10 s vs g = g.1.1.0.1.0.1

-- the live entries of an array, from i on
pub drop-live :
    {A : Type 0} (xs : List A) (n i : ℕ) (d : A) → i < n → n ≤ length xs → drop i (take n xs) ≡ get_or xs i d ∷ drop (i + 1) (take n xs)
drop-live xs n i d h l =
    rw add-one (drop-cons (take n xs) i d (rw length-take (omega arith)) ∙ ap (λ x. x ∷ drop (suc i) (take n xs)) (get_or-take n xs i d h))

-- the rest of a list from i on, and what is made of it, where the next gives y
pub drop_next : {A : Type 0} (xs : List A) (i : ℕ) (d : A) → i < length xs → drop i xs ≡ get_or xs i d ∷ drop (i + 1) xs
drop_next xs i d h = rw add-one (drop-cons xs i d h)

pub map_next :
    {A B : Type 0} (f : A → B) (xs : List A) (i : ℕ) (d : A) (y : B) → i < length xs → y ≡ f (get_or xs i d)
    → map f (drop i xs) ≡ y ∷ map f (drop (i + 1) xs)
map_next f xs i d y h e = rw (drop_next xs i d h, ← e)

-- a test of each of them, where the next gives b
pub every-live :
    {A : Type 0} (f : A → Bool) (xs : List A) (n i : ℕ) (d : A) (b : Bool) → i < n → n ≤ length xs → f (get_or xs i d) ≡ b
    → every f (drop i (take n xs)) ≡ b && every f (drop (i + 1) (take n xs))
every-live f xs n i d b h l e = rw (drop-live xs n i d h l, e)

-- something made of each of them, where the next gives y
pub map-live :
    {A B : Type 0} (f : A → B) (xs : List A) (n i : ℕ) (d : A) (y : B) → i < n → n ≤ length xs → y ≡ f (get_or xs i d)
    → map f (drop i (take n xs)) ≡ y ∷ map f (drop (i + 1) (take n xs))
map-live f xs n i d y h l e = rw (drop-live xs n i d h l, ← e)

-- of a test that all pass, the one at i
pub live_at :
    {A : Type 0} (f : A → Bool) (xs : List A) (n i : ℕ) (d : A) → i < n → n ≤ length xs → every f (take n xs) ≡ true → f (get_or xs i d) ≡ true
live_at f xs n i d h l e = rw (get_or-take n xs i d h) at (the_every_at f (take n xs) i d e (rw length-take (omega arith)))

-- what a place that holds says
pub record Held (size w limit : ℕ) (p : Place) : Type 0 where
  pub few : p.count ≤ limit
  pub starts : p.at ≤ size
  pub fits : p.count * w ≤ size - p.at

pub held : (size w limit : ℕ) (p : Place) → holds size w limit p ≡ true → Held size w limit p
unfolding holds
held size w limit p h =
    let ab : leb p.count limit && leb p.at size ≡ true = and_left _ _ h in
    record {
      few = leb-true _ _ (and_left _ _ ab);
      starts = leb-true _ _ (and_right (leb p.count limit) _ ab);
      fits = leb-true _ _ (and_right (leb p.count limit && leb p.at size) _ h);
    }

pub record ResponseHeld (size : ℕ) (p : ResponsePlace) : Type 0 where
  pub message : Held size 1 256 p.message
  pub key_ids : Held size 4 16 p.key_ids
  pub nonces : Held size 66 16 p.nonces

pub response_held : (size : ℕ) (p : ResponsePlace) → response_holds size p ≡ true → ResponseHeld size p
unfolding response_holds
response_held size p h =
    let ab : holds size 1 256 p.message && holds size 4 16 p.key_ids ≡ true = and_left _ _ h in
    record {
      message = held _ _ _ _ (and_left _ _ ab);
      key_ids = held _ _ _ _ (and_right (holds size 1 256 p.message) _ ab);
      nonces = held _ _ _ _ (and_right (holds size 1 256 p.message && holds size 4 16 p.key_ids) _ h);
    }

-- its lists are short
pub response-few :
    (size : ℕ) (p : ResponsePlace) → response_holds size p ≡ true → (p.message.count ≤ 256) × (p.key_ids.count ≤ 16) × (p.nonces.count ≤ 16)
response-few size p e = let h = response_held size p e in (h.message.few, h.key_ids.few, h.nonces.few)

-- a list that lies in the source: its length, its bytes, and that they say all of it
module _ (source : List ℕ) (b : Bytes source) (limit : ℕ) (p : Place) where
  bytes : (w : ℕ) → Bytes (bytes_at w p source)
  unfolding bytes_at
  bytes w = bytes_take (p.count * w) (drop p.at source) (bytes_drop p.at source b)

  pub length_bytes_at : (w : ℕ) → Held (length source) w limit p → length (bytes_at w p source) ≡ p.count * w
  unfolding bytes_at
  length_bytes_at w h = length-take-le (p.count * w) (drop p.at source) (rw length-drop h.fits)

  whole : (w : ℕ) → Held (length source) w limit p → length (bytes_at w p source) % w ≡ 0
  whole w h = rw (length_bytes_at w h) (mul-mod_left p.count w)

  pub ids_at : Held (length source) 4 limit p → id_bytes (ids_in (bytes_at 4 p source)) ≡ bytes_at 4 p source
  ids_at h = id_bytes-ids_in (bytes_at 4 p source) (bytes 4) (whole 4 h)

  pub nonces_at : Held (length source) 66 limit p → joined (map nonce_bytes (nonces_in (bytes_at 66 p source))) ≡ bytes_at 66 p source
  nonces_at h = bytes-nonces_in (bytes_at 66 p source) (bytes 66) (whole 66 h)

-- a response at places that hold: its parts are the lists' bytes, its length is known
module _ (source : List ℕ) (b : Bytes source) (p : ResponsePlace) (h : ResponseHeld (length source) p) where
  pub encode_at :
      encode_response (response_at source p)
      ≡ packet (header_of 2 0 3 p.signer_id.0 p.ids) (bytes_at 1 p.message source ∷ (bytes_at 4 p.key_ids source ∷ (bytes_at 66 p.nonces source ∷ [])))
  unfolding encode_response response_parts response_at
  encode_at = rw (ids_at source b 16 p.key_ids h.key_ids, nonces_at source b 16 p.nonces h.nonces)

  pub length_at : length (encode_response (response_at source p)) ≡ response_length p
  unfolding response_length total
  length_at =
      let message = length_bytes_at source b 256 p.message 1 h.message in
      let keys = length_bytes_at source b 16 p.key_ids 4 h.key_ids in
      let nonces = length_bytes_at source b 16 p.nonces 66 h.nonces in
      rw (encode_at, length-parts, message, keys, nonces) (omega arith)

pub response-short : (size : ℕ) (p : ResponsePlace) → ResponseHeld size p → response_length p ≤ 1432
unfolding response_length
response-short size p h = omega arith

-- places that hold: how many, which, and their length in all
module _ (size : ℕ) (ps : ResponsePlaces) (h : responses_hold size ps ≡ true) where
  pub places_few : ps.count ≤ 10
  unfolding responses_hold
  places_few = leb-true ps.count 10 (and_left _ _ h)

  pub places_hold : every (response_holds size) (places_of ps) ≡ true
  unfolding responses_hold
  places_hold = and_right (leb ps.count 10) _ h

  pub places_short : total (map response_length (places_of ps)) ≤ 14320
  unfolding places_of total
  places_short =
      let few : ps.count ≤ 10 = places_few in
      let n : length (take ps.count ps.places) ≤ ps.count = rw length-take (omega arith) in
      omega (arith, short (places_of ps) places_hold)
    where
      short : (qs : List ResponsePlace) → every (response_holds size) qs ≡ true → total (map response_length qs) ≤ 1432 * length qs
      short [] e = omega arith
      short (q ∷ qs) e =
          omega (arith, response-short size q (response_held size q (and_left _ _ e)), short qs (and_right (response_holds size q) _ e))

  -- the one at i, as a walk over those that count takes it
  pub live_held :
      (live : List ResponsePlace) → live ≡ places_of ps → (i : ℕ) (d : ResponsePlace) → i < length live
      → response_holds size (get_or live i d) ≡ true
  live_held live e i d l = the_every_at (response_holds size) live i d (rw e places_hold) l

  pub live_few : (live : List ResponsePlace) → live ≡ places_of ps → length live ≤ 10
  unfolding places_of
  live_few live e = rw (e, length-take) (omega (arith, places_few))

  pub live_short : (live : List ResponsePlace) → live ≡ places_of ps → total (map response_length live) ≤ 14320
  live_short live e = rw e places_short

pub length-places_of : (ps : ResponsePlaces) → ps.count ≤ length ps.places → length (places_of ps) ≡ ps.count
unfolding places_of
length-places_of ps h = length-take-le ps.count ps.places h

-- the nested packets are as long as the places say
pub lengths_at :
    (source : List ℕ) → Bytes source → (qs : List ResponsePlace) → every (response_holds (length source)) qs ≡ true
    → map length (map encode_response (map (response_at source) qs)) ≡ map response_length qs
lengths_at source b [] e = refl
lengths_at source b (q ∷ qs) e =
    rw (length_at source b q (response_held (length source) q (and_left _ _ e)), lengths_at source b qs (and_right (response_holds (length source) q) _ e))
