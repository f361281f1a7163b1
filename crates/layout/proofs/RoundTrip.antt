-- The layout's laws, for every kind 1 to 7: what is encoded is laid out and says its message; what is laid out is encoded back byte for
-- byte. So a message has one packet, and question 8 is answered no exactly where no message is encoded so.
-- Assumes nothing.
use Prim.Native.Nat.{ℕ, ◌^◌, ◌<◌}
use mathlib.Core.Path.{◌≡◌, refl, sym, ap₂, ◌∙◌}
use mathlib.Core.Bool.{Bool, true, false, cond}
use mathlib.Core.List.{List}
use native.Mathlib.Omega.{arith}
use lib.ListN.{length}
use Rattle.wire.specs.Bytes.{Bytes}
use Rattle.wire.proofs.Lists.{and_both}
use Rattle.layout.specs.Messages.{Message}
use Rattle.layout.specs.Encode.{parts, packet, encode}
use Rattle.layout.specs.LaidOut.{header_in, is_laid_out}
use Rattle.layout.specs.Decode.{message_in, within, Decoded, taken, refused, decode}
use Rattle.layout.specs.Fits.{Fits, Addressable}
use Rattle.layout.proofs.Headed.{laid_out-framed, length-parts_from, header-message_in}
use Rattle.layout.proofs.Frame.{header_in-fits, packet-over}
use Rattle.layout.proofs.Said.{said}
use Rattle.layout.proofs.Written.{written-encode}
use Rattle.layout.proofs.Limits.{addressable}

-- what is encoded is laid out
pub laid_out-encode : (m : Message) → Fits m → Addressable m → is_laid_out (encode m) ≡ true
unfolding is_laid_out
laid_out-encode m f a = let w = written-encode m f a in and_both _ _ w.0 w.1.whole

-- and says the message
pub message_in-encode : (m : Message) → Fits m → Addressable m → message_in (encode m) ≡ m
message_in-encode m f a = (written-encode m f a).1.says

-- what is laid out is the encoding of what it says
pub encode-message_in : (s : List ℕ) → Bytes s → is_laid_out s ≡ true → encode (message_in s) ≡ s
unfolding encode
encode-message_in s b h = ap₂ packet (header-message_in s h) (said s b h).parts ∙ packet-over s b (laid_out-framed s h)

-- and what it says fits
pub fits-message_in : (s : List ℕ) → Bytes s → is_laid_out s ≡ true → Fits (message_in s)
fits-message_in s b h = (said s b h).fits

-- a message within the limits has offsets and counts that fit
pub within_addressable : (m : Message) → Fits m → within m ≡ true → Addressable m
within_addressable m f w = addressable m f w

-- the reader's answer, by its two questions
pub decode_cases :
    (s : List ℕ) (P : Decoded → Type 0)
    → (is_laid_out s ≡ true → within (message_in s) ≡ true → P (taken (message_in s)))
    → (is_laid_out s ≡ true → within (message_in s) ≡ false → P (refused 9))
    → (is_laid_out s ≡ false → P (refused 8))
    → P (decode s)
unfolding decode
decode_cases s P f g h = go (is_laid_out s) (within (message_in s)) refl refl
  where
    go : (l w : Bool) → is_laid_out s ≡ l → within (message_in s) ≡ w → P (cond l (cond w (taken (message_in s)) (refused 9)) (refused 8))
    go true true el ew = f el ew
    go true false el ew = g el ew
    go false w el ew = h el

-- two answers that differ are not equal
never : {P : Type 0} → ◌≡◌ {A = ℕ} 0 1 → P
never e = let z : ⊥ = omega arith in absurd z

-- a message is taken where the packet is laid out and says it, within the limits
pub taken-laid : (s : List ℕ) (m : Message) → decode s ≡ taken m → (is_laid_out s ≡ true) × (message_in s ≡ m) × (within m ≡ true)
taken-laid s m =
    decode_cases s (λ d. d ≡ taken m → (is_laid_out s ≡ true) × (message_in s ≡ m) × (within m ≡ true))
    (λ l w e. let q : message_in s ≡ m = cc in (l, q, rw q at w))
    (λ l w e. never (cc))
    (λ l e. never (cc))

-- what is encoded within the limits decodes to itself
pub decode-encode : (m : Message) → Fits m → within m ≡ true → decode (encode m) ≡ taken m
unfolding decode
decode-encode m f w = let a = within_addressable m f w in rw (laid_out-encode m f a, message_in-encode m f a, w)

-- what decodes is encoded back byte for byte
pub encode-decode : (s : List ℕ) (m : Message) → Bytes s → decode s ≡ taken m → encode m ≡ s
encode-decode s m b e = let t = taken-laid s m e in rw (← t.1) (encode-message_in s b t.0)

-- what decodes fits and is within the limits
pub decode-fits : (s : List ℕ) (m : Message) → Bytes s → decode s ≡ taken m → Fits m × (within m ≡ true)
decode-fits s m b e = let t = taken-laid s m e in (rw (← t.1) (fits-message_in s b t.0), t.2)

-- one message has one packet
pub one_packet_law : (s t : List ℕ) (m : Message) → Bytes s → Bytes t → decode s ≡ taken m → decode t ≡ taken m → s ≡ t
one_packet_law s t m bs bt es et = sym (encode-decode s m bs es) ∙ encode-decode t m bt et

-- 8 is answered exactly where no message is encoded so, 9 where one above the limits is
pub refused_8 : (s : List ℕ) → decode s ≡ refused 8 → (m : Message) → Fits m → Addressable m → encode m ≡ s → ⊥
refused_8 s e m f a h =
    let l : is_laid_out s ≡ true = rw h at (laid_out-encode m f a) in
    decode_cases s (λ d. d ≡ refused 8 → ⊥) (λ l w e. never (cc)) (λ l w e. never (cc)) (λ l' e. never (cc)) e

pub refused_9 : (s : List ℕ) → Bytes s → decode s ≡ refused 9 → (m : Message) × Fits m × (encode m ≡ s) × (within m ≡ false)
refused_9 s b e =
    decode_cases s (λ d. d ≡ refused 9 → (m : Message) × Fits m × (encode m ≡ s) × (within m ≡ false))
    (λ l w e. never (cc))
    (λ l w e. (message_in s, fits-message_in s b l, encode-message_in s b l, w))
    (λ l e. never (cc))
    e

-- the other way: a packet of bytes, shorter than 2 ^ 32, in which no message is encoded is answered 8
pub not_encoded_8 : (s : List ℕ) → Bytes s → length s < 2 ^ 32 → ((m : Message) → Fits m → Addressable m → encode m ≡ s → ⊥) → decode s ≡ refused 8
not_encoded_8 s b small none = decode_cases s (λ d. d ≡ refused 8) (λ l w. absurd (no l)) (λ l w. absurd (no l)) (λ l. refl)
  where
    no : is_laid_out s ≡ true → ⊥
    no l =
        let e = encode-message_in s b l in
        let n : length (parts (message_in s)) ≡ (header_in s).pairs = rw (said s b l).parts (length-parts_from s 32 (header_in s).pairs) in
        none (message_in s) (fits-message_in s b l) (rw e small, omega (arith, (header_in-fits s b).pairs)) e
