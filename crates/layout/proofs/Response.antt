-- A NonceResponse, as a packet of its own and nested in a SignatureShareRequest.
-- Assumes nothing.
use Prim.Native.Nat.{ℕ, ◌%◌, ◌^◌, ◌<◌}
use mathlib.Core.Path.{◌≡◌, refl, sym, ap, ap₂, ◌∙◌}
use mathlib.Core.Bool.{true, ◌&&◌}
use mathlib.Core.List.{List, map}
use native.Mathlib.Omega.{arith}
use lib.Dec.{eqb}
use lib.ListN.{length}
use borrow.Author.Tests.{eqb-true}
use Rattle.wire.specs.Bytes.{Bytes, joined}
use Rattle.wire.proofs.Lists.{and_left, and_right, and_both}
use Rattle.layout.specs.Messages.{NonceResponse}
use Rattle.layout.specs.Encode.{header_of, id_bytes, nonce_bytes, response_parts, encode_response, packet}
use Rattle.layout.specs.LaidOut.{header_in, part_at, parts_from, headed, framed, whole_entries, whole_response, response_laid_out}
use Rattle.layout.specs.Decode.{response_in}
use Rattle.layout.specs.Fits.{ResponseFits}
use Rattle.layout.proofs.Entries.{whole-ids, ids_in-id_bytes, id_bytes-ids_in, fits-ids_in, whole_nonces, nonces_in-bytes, bytes-nonces_in, fits-nonces_in}
use Rattle.layout.proofs.Headed.{framed-headed, same_header}
use Rattle.layout.proofs.Frame.{HeaderFits, header_in-fits, bytes-part_at, header_in_packet, parts_from_packet, framed_packet, packet-over}

-- a packet with a response's header and parts has whole lists and says the response
module _ (r : NonceResponse) (f : ResponseFits r) where
  pub the_response_header : HeaderFits (header_of 2 0 3 r.signer_id r.ids)
  the_response_header = omega arith

  module _ (s : List ℕ) (h : header_in s ≡ header_of 2 0 3 r.signer_id r.ids) (p : parts_from s 32 3 ≡ response_parts r) where
    message_part : part_at s 32 ≡ r.message
    unfolding parts_from response_parts
    message_part = cc

    ids_part : part_at s 40 ≡ id_bytes r.key_ids
    unfolding parts_from response_parts
    ids_part = cc

    nonces_part : part_at s 48 ≡ joined (map nonce_bytes r.nonces)
    unfolding parts_from response_parts
    nonces_part = cc

    pub response_whole : whole_response s ≡ true
    unfolding whole_response
    response_whole = rw (ids_part, nonces_part) (and_both _ _ (whole-ids r.key_ids) (whole_nonces r.nonces f.nonces))

    pub response_says : response_in s ≡ r
    unfolding response_in
    response_says =
        rw (h, message_part, ids_part, nonces_part, ids_in-id_bytes r.key_ids f.key_ids, nonces_in-bytes r.nonces f.nonces)

  module _ (small : length (encode_response r) < 2 ^ 32) where
    nested_header : header_in (encode_response r) ≡ header_of 2 0 3 r.signer_id r.ids
    unfolding encode_response
    nested_header = header_in_packet _ (response_parts r) the_response_header small

    nested_parts : parts_from (encode_response r) 32 3 ≡ response_parts r
    unfolding encode_response response_parts
    nested_parts = parts_from_packet _ (response_parts r) the_response_header small

    pub laid_out_response : response_laid_out (encode_response r) ≡ true
    unfolding encode_response response_laid_out response_parts headed
    laid_out_response =
        and_both _ _
        (and_both _ _ (framed_packet _ (response_parts r) the_response_header small refl refl) (rw nested_header))
        (response_whole (encode_response r) nested_header nested_parts)

    pub response_in_encode : response_in (encode_response r) ≡ r
    response_in_encode = response_says (encode_response r) nested_header nested_parts

-- a packet with whole lists has the parts of the response that it says, which fits
module _ (s : List ℕ) (b : Bytes s) (w : whole_response s ≡ true) where
  ids_whole : length (part_at s 40) % 4 ≡ 0
  unfolding whole_response whole_entries
  ids_whole = eqb-true _ 0 (and_left _ _ w)

  nonces_whole : length (part_at s 48) % 66 ≡ 0
  unfolding whole_response whole_entries
  nonces_whole = eqb-true _ 0 (and_right (whole_entries 4 (part_at s 40)) _ w)

  pub the_response_parts : response_parts (response_in s) ≡ parts_from s 32 3
  unfolding response_parts response_in parts_from
  the_response_parts = rw (id_bytes-ids_in (part_at s 40) (bytes-part_at s b 40) ids_whole, bytes-nonces_in (part_at s 48) (bytes-part_at s b 48) nonces_whole)

  pub response_fits : ResponseFits (response_in s)
  unfolding response_in
  response_fits =
      record {
        ids = (header_in-fits s b).ids;
        signer_id = (header_in-fits s b).signer_id;
        message = bytes-part_at s b 32;
        key_ids = fits-ids_in (part_at s 40) (bytes-part_at s b 40) ids_whole;
        nonces = fits-nonces_in (part_at s 48) (bytes-part_at s b 48) nonces_whole;
      }

module _ (s : List ℕ) (b : Bytes s) (l : response_laid_out s ≡ true) where
  whole : whole_response s ≡ true
  unfolding response_laid_out
  whole = and_right (framed s && eqb (header_in s).kind 2) _ l

  pub encode_response_in : encode_response (response_in s) ≡ s
  unfolding response_laid_out encode_response headed response_in
  encode_response_in =
      let h = header_in s in
      let fk : framed s && eqb h.kind 2 ≡ true = and_left _ _ l in
      let f : framed s ≡ true = and_left _ _ fk in
      let k : h.kind ≡ 2 = eqb-true _ 2 (and_right (framed s) _ fk) in
      let d : eqb h.signature_type 0 && eqb h.pairs 3 ≡ true = rw k at (framed-headed s f) in
      let n : h.pairs ≡ 3 = eqb-true _ 3 (and_right (eqb h.signature_type 0) _ d) in
      let e : header_of 2 0 3 h.signer_id h.ids ≡ h = same_header h 2 0 3 _ _ k (eqb-true _ 0 (and_left _ _ d)) n refl refl in
      ap₂ packet e (the_response_parts s b whole ∙ ap (λ (c : ℕ). parts_from s 32 c) (sym n)) ∙ packet-over s b f

  pub fits_response_in : ResponseFits (response_in s)
  fits_response_in = response_fits s b whole
