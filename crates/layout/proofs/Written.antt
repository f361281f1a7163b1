-- A packet with a message's header and parts is laid out and says the message.
-- Assumes nothing.
use Prim.Native.Nat.{ℕ, suc, ◌+◌, ◌-◌, ◌^◌, ◌≤◌, ◌<◌}
use mathlib.Core.Path.{◌≡◌, refl, ap}
use mathlib.Core.Bool.{true}
use mathlib.Core.List.{List, map}
use native.Mathlib.Omega.{arith}
use lib.ListN.{length, length-map}
use borrow.Author.Tests.{eq-eqb, le-leb}
use Rattle.wire.specs.Bytes.{All}
use Rattle.wire.proofs.Lists.{all_every, all_both, all_imp, all_map, all_unmap, map_back, and_both, all_joined}
use Rattle.layout.specs.declared.SignatureType.{SignatureType}
use Rattle.layout.specs.declared.SignatureType.TheVariants.{Frost, Schnorr, Taproot, TaprootRoot}
use Rattle.layout.specs.Types.{type_number, type_of}
use Rattle.layout.specs.Messages.{NonceResponse, Message, nonce_request, nonce_response, signature_share_request, signature_share_response, dkg_begin, dkg_signer, dkg_coordinator}
use Rattle.layout.specs.Encode.{share_bytes, encode_response, response_parts, header, parts, encode}
use Rattle.layout.specs.LaidOut.{header_in, part_at, parts_from, headed, dkg_only, framed, whole_share, response_laid_out, whole_root, whole_lists}
use Rattle.layout.specs.Decode.{share_in, response_in, request_in, share_request_in, share_response_in, message_in}
use Rattle.layout.specs.Fits.{ResponseFits, Fits, Addressable}
use Rattle.layout.proofs.Entries.{the_whole_share, share_in_share_bytes}
use Rattle.layout.proofs.Frame.{HeaderFits, length-packet, header_in_packet, parts_from_packet, framed_packet}
use Rattle.layout.proofs.Response.{the_response_header, response_whole, response_says, laid_out_response, response_in_encode}

type_small : (t : SignatureType) → type_number t ≤ 3
type_small Frost = omega arith
type_small Schnorr = omega arith
type_small Taproot = omega arith
type_small TaprootRoot = omega arith

pub type_of-type_number : (t : SignatureType) → type_of (type_number t) ≡ t
unfolding type_of
type_of-type_number Frost = refl
type_of-type_number Schnorr = refl
type_of-type_number Taproot = refl
type_of-type_number TaprootRoot = refl

-- a message's header fits, is in order, and counts its parts
pub record Headers (m : Message) : Type 0 where
  pub fits : HeaderFits (header m)
  pub headed : headed (header m) ≡ true
  pub pairs : (header m).pairs ≡ length (parts m)

pub headers : (m : Message) → Fits m → length (parts m) < 2 ^ 16 → Headers m
unfolding header parts headed dkg_only response_parts
headers (nonce_request r) f n =
    let t = type_small r.signature_type in
    record { fits = omega arith; headed = and_both _ true (le-leb _ 3 t) refl; pairs = refl }
headers (nonce_response r) f n = record { fits = the_response_header r f; headed = refl; pairs = refl }
headers (signature_share_request r) f n =
    let t = type_small r.signature_type in
    let k : 2 + length r.nonce_responses ≡ suc (suc (length (map encode_response r.nonce_responses))) = rw length-map (omega arith) in
    record { fits = omega arith; headed = and_both _ _ (le-leb _ 3 t) (le-leb 2 (2 + length r.nonce_responses) (omega arith)); pairs = k }
headers (signature_share_response r) f n =
    let k : length r.signature_shares ≡ length (map share_bytes r.signature_shares) = rw length-map in
    record { fits = omega arith; headed = refl; pairs = k }
headers (dkg_begin dkg) f n = record { fits = omega arith; headed = refl; pairs = refl }
headers (dkg_signer signer dkg) f n = record { fits = omega arith; headed = refl; pairs = refl }
headers (dkg_coordinator dkg) f n = record { fits = omega arith; headed = refl; pairs = refl }

-- a packet with a message's header and parts has whole lists and says the message
pub record Written (s : List ℕ) (m : Message) : Type 0 where
  pub whole : whole_lists s ≡ true
  pub says : message_in s ≡ m

pub written :
    (m : Message) → Fits m → All (λ (p : List ℕ). length p < 2 ^ 32) (parts m)
    → (s : List ℕ) → header_in s ≡ header m → parts_from s 32 (length (parts m)) ≡ parts m → Written s m
unfolding header parts response_parts parts_from whole_lists whole_root message_in request_in share_request_in share_response_in
written (nonce_request r) f small s h p =
    let e₃₂ : part_at s 32 ≡ r.message = cc in
    let e₄₀ : part_at s 40 ≡ r.root = cc in
    record { whole = rw (h, e₄₀) (eq-eqb _ _ f.root.size); says = rw (h, e₃₂, e₄₀, type_of-type_number r.signature_type) }
written (nonce_response r) f small s h p = record { whole = rw h (response_whole r f s h p); says = rw h (ap nonce_response (response_says r f s h p)) }
written (signature_share_request r) f small s h p =
    let rs = r.nonce_responses in
    let e₃₂ : part_at s 32 ≡ r.message = cc in
    let e₄₀ : part_at s 40 ≡ r.root = cc in
    let n : 2 + length rs - 2 ≡ length (map encode_response rs) = rw length-map (omega arith) in
    let each : All (λ (q : NonceResponse). ResponseFits q × (length (encode_response q) < 2 ^ 32)) rs =
    all_both ResponseFits _ rs f.nonce_responses (all_unmap (λ (q : List ℕ). length q < 2 ^ 32) encode_response rs small.1.1) in
    let e₄₈ : parts_from s 48 (length (map encode_response rs)) ≡ map encode_response rs = cc in
    record {
      whole = rw (h, e₄₀, n, e₄₈) (and_both _ _ (eq-eqb _ _ f.root.size) (all_every response_laid_out (map encode_response rs) (all_map (λ q. response_laid_out q ≡ true) encode_response rs (all_imp rs (λ q h. laid_out_response q h.0 h.1) each))));
      says = rw (h, e₃₂, e₄₀, type_of-type_number r.signature_type, n, e₄₈, map_back encode_response response_in rs (all_imp rs (λ q h. response_in_encode q h.0 h.1) each));
    }
written (signature_share_response r) f small s h p =
    let ss = r.signature_shares in
    let p' : parts_from s 32 (length ss) ≡ map share_bytes ss = rw length-map at p in
    record {
      whole = rw (h, p') (all_every whole_share (map share_bytes ss) (all_map (λ q. whole_share q ≡ true) share_bytes ss (all_imp ss the_whole_share f.signature_shares)));
      says = rw (h, p', map_back share_bytes share_in ss (all_imp ss share_in_share_bytes f.signature_shares));
    }
written (dkg_begin dkg) f small s h p = record { whole = rw h; says = rw h }
written (dkg_signer signer dkg) f small s h p = record { whole = rw h; says = rw h }
written (dkg_coordinator dkg) f small s h p = record { whole = rw h; says = rw h }

-- the parts of a packet shorter than 2 ^ 32 are shorter too
small_parts : (m : Message) → length (encode m) < 2 ^ 32 → All (λ (p : List ℕ). length p < 2 ^ 32) (parts m)
unfolding encode
small_parts m l = all_imp (parts m) (λ p h. omega (arith, length-packet (header m) (parts m))) (all_joined (parts m))

-- so with the packet that it is encoded to
pub written-encode : (m : Message) → Fits m → Addressable m → (framed (encode m) ≡ true) × Written (encode m) m
unfolding encode
written-encode m f a =
    let hs = headers m f a.1 in
    let h = header m in
    let ps = parts m in (
      framed_packet h ps hs.fits a.0 hs.headed hs.pairs,
      written m f (small_parts m a.0) (encode m) (header_in_packet h ps hs.fits a.0) (parts_from_packet h ps hs.fits a.0),
    )
