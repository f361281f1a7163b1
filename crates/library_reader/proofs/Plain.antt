-- The reader's answer, as plain numbers.
-- Assumes nothing.
use Rattle.std.specs.Prelude.{Err, Ok}
use Prim.Native.Nat.{ℕ}
use mathlib.Core.Path.{◌≡◌, refl, ap, ◌∙◌}
use Rattle.layout.specs.declared.Header.{Header}
use Rattle.layout.specs.Decode.{Decoded, taken, refused}
use Rattle.packet.specs.Reading.{reading, Read}
use Rattle.library_reader.specs.declared.RcPacket.{RcPacket}
use Rattle.library_reader.specs.Plain.{plain_header, refused_packet, packet_of}

abbrev plain_in : Read → RcPacket
plain_in (Ok h) = plain_header h
plain_in (Err n) = refused_packet n

plain_read : (d : Decoded) → plain_in (reading d) ≡ packet_of d
unfolding reading packet_of
plain_read (taken m) = refl
plain_read (refused n) = refl

pub told_header : (d : Decoded) (h : Header) → Ok h ≡ reading d → plain_header h ≡ packet_of d
told_header d h e = ap plain_in e ∙ plain_read d

pub told_refusal : (d : Decoded) (n : ℕ) → Err n ≡ reading d → refused_packet n ≡ packet_of d
told_refusal d n e = ap plain_in e ∙ plain_read d
