-- The length of a packet within the limits.
-- Assumes nothing.
use Prim.Native.Nat.{◌+◌, ◌*◌, ◌≤◌}
use mathlib.Core.Path.{◌≡◌, refl}
use mathlib.Core.Bool.{true, ◌&&◌}
use mathlib.Core.List.{List, [], ◌∷◌, map}
use native.Mathlib.Omega.{arith}
use lib.Dec.{leb}
use lib.ListN.{length, length-append, length-map}
use borrow.Author.Tests.{leb-true}
use Rattle.wire.specs.Bytes.{joined, All}
use Rattle.wire.proofs.Lists.{and_left, and_right, every_all, all_both, all_imp, all_map, length-joined-le}
use Rattle.layout.specs.declared.SignatureType.{SignatureType}
use Rattle.layout.specs.declared.SignatureType.TheVariants.{Frost, Schnorr, Taproot, TaprootRoot}
use Rattle.layout.specs.Types.{type_number, root_length}
use Rattle.layout.specs.Messages.{NonceResponse, SignatureShare, Message, nonce_request, nonce_response, signature_share_request, signature_share_response, dkg_begin, dkg_signer, dkg_coordinator}
use Rattle.layout.specs.Encode.{share_bytes, response_parts, encode_response, header, parts, encode}
use Rattle.layout.specs.Decode.{response_within, key_count, within}
use Rattle.layout.specs.Fits.{ShareFits, ResponseFits, Fits, Addressable}
use Rattle.layout.proofs.Entries.{length-id_bytes, length-nonces, length-share_bytes}
use Rattle.layout.proofs.Frame.{length-packet}

pub root-length : (t : SignatureType) → root_length (type_number t) ≤ 32
unfolding root_length
root-length Frost = omega arith
root-length Schnorr = omega arith
root-length Taproot = omega arith
root-length TaprootRoot = omega arith

-- 32 + 3 * 8 + 256 + 16 * 4 + 16 * 66
pub response-length : (r : NonceResponse) → ResponseFits r → response_within r ≡ true → length (encode_response r) ≤ 1432
unfolding encode_response response_parts response_within
response-length r f w =
    let ab : leb (length r.message) 256 && leb (length r.key_ids) 16 ≡ true = and_left _ _ w in
    let a : length r.message ≤ 256 = leb-true _ 256 (and_left _ _ ab) in
    let b : length r.key_ids ≤ 16 = leb-true _ 16 (and_right (leb (length r.message) 256) _ ab) in
    let c : length r.nonces ≤ 16 = leb-true _ 16 (and_right (leb (length r.message) 256 && leb (length r.key_ids) 16) _ w) in
    rw length-packet (simp (length-append, length-id_bytes, length-nonces r.nonces f.nonces) (omega arith))

pub shares-length : (ss : List SignatureShare) → All ShareFits ss → length (joined (map share_bytes ss)) ≡ 36 * length ss + 4 * key_count ss
unfolding key_count
shares-length [] f = refl
shares-length (s ∷ ss) f = rw (length-append, length-share_bytes s f.0, shares-length ss f.1) (omega arith)

-- offsets and counts of a message within the limits fit
pub addressable : (m : Message) → Fits m → within m ≡ true → Addressable m
unfolding encode header parts within encode_response response_parts
addressable (nonce_request r) f w =
    let l : length r.message ≤ 256 = leb-true _ 256 w in
    (rw length-packet (simp length-append (omega (arith, f.root.size, root-length r.signature_type))), omega arith)
addressable (nonce_response r) f w = let l : length (encode (nonce_response r)) ≤ 1432 = response-length r f w in (omega arith, omega arith)
addressable (signature_share_request r) f w =
    let rs = r.nonce_responses in
    let ab : leb (length r.message) 256 && leb (length rs) 10 ≡ true = and_left _ _ w in
    let a : length r.message ≤ 256 = leb-true _ 256 (and_left _ _ ab) in
    let b : length rs ≤ 10 = leb-true _ 10 (and_right (leb (length r.message) 256) _ ab) in
    let ws = every_all response_within rs (and_right (leb (length r.message) 256 && leb (length rs) 10) _ w) in
    let each = all_imp rs (λ q h. response-length q h.0 h.1) (all_both ResponseFits _ rs f.nonce_responses ws) in
    let n : length (map encode_response rs) ≡ length rs = length-map rs encode_response in
    let l : length (joined (map encode_response rs)) ≤ length (map encode_response rs) * 1432 =
    length-joined-le 1432 (map encode_response rs) (all_map (λ q. length q ≤ 1432) encode_response rs each) in
    (rw length-packet (simp length-append (omega (arith, f.root.size, root-length r.signature_type))), omega arith)
addressable (signature_share_response r) f w =
    let ss = r.signature_shares in
    let a : length ss ≤ 16 = leb-true _ 16 (and_left _ _ w) in
    let b : key_count ss ≤ 16 = leb-true _ 16 (and_right (leb (length ss) 16) _ w) in
    let n : length (map share_bytes ss) ≡ length ss = length-map ss share_bytes in
    (rw length-packet (omega (arith, shares-length ss f.signature_shares)), omega arith)
addressable (dkg_begin dkg) f w = (rw length-packet (omega arith), omega arith)
addressable (dkg_signer signer dkg) f w = (rw length-packet (omega arith), omega arith)
addressable (dkg_coordinator dkg) f w = (rw length-packet (omega arith), omega arith)
