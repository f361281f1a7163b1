-- The reader's answer, as a count or a refusal.
-- Assumes nothing.
use Rattle.std.specs.Prelude.{Result, Err, Ok}
use Prim.Native.Nat.{ℕ}
use mathlib.Core.Path.{◌≡◌, refl, ap, ◌∙◌}
use Rattle.layout.specs.declared.Header.{Header}
use Rattle.layout.specs.Decode.{Decoded, taken, refused}
use Rattle.packet.specs.Reading.{reading, Read}
use Rattle.packet_in_hand.specs.InHand.{counted}

abbrev count_in : Read → Result ℕ ℕ
count_in (Ok h) = Ok h.pairs
count_in (Err n) = Err n

counted_in : (d : Decoded) → count_in (reading d) ≡ counted d
unfolding reading counted
counted_in (taken m) = refl
counted_in (refused n) = refl

pub counted_taken : (d : Decoded) (h : Header) → Ok h ≡ reading d → Ok h.pairs ≡ counted d
counted_taken d h e = ap count_in e ∙ counted_in d

pub counted_refused : (d : Decoded) (n : ℕ) → Err n ≡ reading d → Err n ≡ counted d
counted_refused d n e = ap count_in e ∙ counted_in d
