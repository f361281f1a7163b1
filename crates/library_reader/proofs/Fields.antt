-- What the reader tells, field by field.
-- Assumes nothing.
use Prim.Native.Nat.{ℕ, zero, suc, ◌+◌, ◌*◌, ◌-◌, ◌^◌, ◌≤◌, ◌<◌}
use mathlib.Core.Path.{◌≡◌, refl, sym, ap, ◌∙◌}
use mathlib.Core.Bool.{true}
use mathlib.Core.List.{List, [], ◌∷◌, ◌++◌, append_assoc}
use native.Mathlib.Omega.{arith}
use borrow.Author.Tests.{lt-ltb}
use lib.ListN.{length, get_or, take, drop, length-append, length-drop}
use Rattle.wire.specs.Bytes.{le, number_at, joined}
use Rattle.wire.proofs.Fields.{part_read, part_next, field_read, field_next}
use Rattle.layout.specs.declared.Header.{Header}
use Rattle.layout.specs.Messages.{NonceResponse, Message, nonce_response}
use Rattle.layout.specs.Encode.{table, packet, header, parts, encode, encode_response}
use Rattle.layout.specs.LaidOut.{header_in}
use Rattle.layout.specs.Decode.{Decoded, taken, refused, decode, within, response_within}
use Rattle.layout.specs.Fits.{ResponseFits, Fits}
use Rattle.layout.proofs.Headed.{header-message_in}
use Rattle.layout.proofs.Frame.{header_next, length-table, length-packet}
use Rattle.layout.proofs.Written.{headers}
use Rattle.layout.proofs.RoundTrip.{taken-laid, within_addressable, decode-encode}
use Rattle.std.specs.Result.{result_unwrap_or}
use Rattle.packet_in_hand.specs.InHand.{counted}
use Rattle.library_reader.specs.Plain.{packet_of, place_in}
use Rattle.library_reader.specs.Fields.{AtPlaces, Tells, NotTaken, PartTold}

-- a packet that is taken is told as its message's header says
tells : (d : Decoded) (m : Message) → d ≡ taken m → Tells (header m) (packet_of d)
unfolding packet_of
tells d m e =
    rw e
    (record {
      refusal = refl;
      kind = refl;
      signature_type = refl;
      pairs = refl;
      signer_id = refl;
      reserved = refl;
      dkg_id = refl;
      sign_id = refl;
      sign_iter_id = refl;
    })

-- of every packet that is taken: each number is the one that stands at 01's place
pub read_at_places : (s : List ℕ) (m : Message) → decode s ≡ taken m → AtPlaces s (packet_of (decode s))
unfolding header_in
read_at_places s m e =
    let laid = taken-laid s m e in
    let same : header m ≡ header_in s = ap header (sym laid.1) ∙ header-message_in s laid.0 in
    let t = tells (decode s) m e in
    record {
      refusal = t.refusal;
      kind = t.kind ∙ ap (λ (h : Header). h.kind) same;
      signature_type = t.signature_type ∙ ap (λ (h : Header). h.signature_type) same;
      pairs = t.pairs ∙ ap (λ (h : Header). h.pairs) same;
      signer_id = t.signer_id ∙ ap (λ (h : Header). h.signer_id) same;
      reserved = t.reserved;
      dkg_id = t.dkg_id ∙ ap (λ (h : Header). h.ids.dkg_id) same;
      sign_id = t.sign_id ∙ ap (λ (h : Header). h.ids.sign_id) same;
      sign_iter_id = t.sign_iter_id ∙ ap (λ (h : Header). h.ids.sign_iter_id) same;
    }

-- of every message, kinds 1 to 7, that fits and is within the limits: its packet is told as its header says
pub message_read : (m : Message) → Fits m → within m ≡ true → Tells (header m) (packet_of (decode (encode m)))
message_read m f w = tells (decode (encode m)) m (decode-encode m f w)

-- so is a response that is nested in a share request, by its own header
pub nested_read :
    (r : NonceResponse) → ResponseFits r → response_within r ≡ true → Tells (header (nonce_response r)) (packet_of (decode (encode_response r)))
unfolding encode encode_response header parts within
nested_read r f w = message_read (nonce_response r) f w

-- of every packet that is not taken
pub refused_read : (s : List ℕ) (n : ℕ) → decode s ≡ refused n → NotTaken n (packet_of (decode s))
unfolding packet_of
refused_read s n e =
    rw e
    (record {
      refusal = refl;
      kind = refl;
      signature_type = refl;
      pairs = refl;
      signer_id = refl;
      reserved = refl;
      dkg_id = refl;
      sign_id = refl;
      sign_iter_id = refl;
    })

-- pair i of a table that stands at p, of parts that stand from `at` on: where the part lies, and its bytes
module _ (s : List ℕ) (small : length s < 2 ^ 32) where
  table_at :
      (qs : List (List ℕ)) (p at : ℕ) (rest : List ℕ) → at ≤ length s → drop p s ≡ table at qs ++ rest → drop at s ≡ joined qs
      → (i : ℕ) → i < length qs
      → (number_at 4 (p + 8 * i) s ≡ at + length (joined (take i qs)))
      × ((number_at 4 (p + 8 * i + 4) s ≡ length (get_or qs i []))
      × (take (length (get_or qs i [])) (drop (at + length (joined (take i qs))) s) ≡ get_or qs i []))
  unfolding table
  table_at [] p at rest l t j i h = let z : ⊥ = omega arith in absurd z
  table_at (q ∷ qs) p at rest l t j zero h =
      let size : length s - at ≡ length q + length (joined qs) = sym (length-drop at s) ∙ ap length j ∙ length-append q (joined qs) in
      let t₀ : drop p s ≡ le 4 at ++ (le 4 (length q) ++ (table (at + length q) qs ++ rest)) = simp append_assoc at t in
      let t₄ = field_next 4 p s at _ t₀ in
      let here : p + 8 * 0 ≡ p = omega arith in
      let none : at + 0 ≡ at = omega arith in
      rw (here, none) (
        field_read 4 p s at _ (omega arith) t₀,
        (field_read 4 (p + 4) s (length q) _ (omega arith) t₄, part_read (length q) at s q (joined qs) refl j),
      )
  table_at (q ∷ qs) p at rest l t j (suc i) h =
      let size : length s - at ≡ length q + length (joined qs) = sym (length-drop at s) ∙ ap length j ∙ length-append q (joined qs) in
      let t₀ : drop p s ≡ le 4 at ++ (le 4 (length q) ++ (table (at + length q) qs ++ rest)) = simp append_assoc at t in
      let t₄ = field_next 4 p s at _ t₀ in
      let eight : p + 4 + 4 ≡ p + 8 = omega arith in
      let t₈ : drop (p + 8) s ≡ table (at + length q) qs ++ rest = rw eight at (field_next 4 (p + 4) s (length q) _ t₄) in
      let next : p + 8 * suc i ≡ p + 8 + 8 * i = omega arith in
      let further : at + length (q ++ joined (take i qs)) ≡ at + length q + length (joined (take i qs)) = rw length-append (omega arith) in
      rw (next, further)
      (table_at qs (p + 8) (at + length q) rest (omega arith) t₈ (part_next (length q) at s q (joined qs) refl j) i (omega arith))

-- of every message, kinds 1 to 7, and each of its parts, in the order of layout's `parts`: it begins where the parts before it end
pub part_told_law :
    (m : Message) → Fits m → within m ≡ true → (i : ℕ) → i < length (parts m)
    → PartTold (encode m) (32 + 8 * length (parts m) + length (joined (take i (parts m)))) (get_or (parts m) i [])
    (place_in (encode m) (result_unwrap_or (counted (decode (encode m))) 0) i)
unfolding encode packet place_in counted
part_told_law m f w i l =
    let s = encode m in
    let qs = parts m in
    let at = 32 + 8 * length qs in
    let a = within_addressable m f w in
    let d : drop 32 s ≡ table at qs ++ joined qs = header_next (header m) s _ refl in
    let found =
    table_at s a.0 qs 32 at (joined qs) (omega (arith, length-packet (header m) qs)) d
    (part_next (8 * length qs) 32 s (table at qs) (joined qs) (length-table at qs) d) i l in
    let pairs : result_unwrap_or (counted (decode s)) 0 ≡ length qs =
    ap (λ (x : Decoded). result_unwrap_or (counted x) 0) (decode-encode m f w) ∙ (headers m f a.1).pairs in
    let y = lt-ltb i (result_unwrap_or (counted (decode s)) 0) (rw pairs l) in
    rw y (record { at = found.0; size = found.1.0; bytes = rw (found.0, found.1.0) found.1.1 })
