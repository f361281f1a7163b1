-- "a packet in hand is its bytes with its pair count": what opening a slice of bytes gives.
use Rattle.std.specs.Prelude.{ℕ, List, Result, Ok, Err}
use Rattle.std.specs.Borrow.{Bor}
use Rattle.packet_in_hand.specs.declared.Packet.{Packet}
use Rattle.layout.specs.Encode.{header}
use Rattle.layout.specs.Decode.{Decoded, taken, refused, decode}

-- a packet that is taken has the pairs that its header says; one that is refused has its number, 8 or 9
unfoldable pub counted : Decoded → Result ℕ ℕ
counted (taken m) = Ok (header m).pairs
counted (refused n) = Err n

-- the slice with its count, or the number
abbrev pub in_hand : Bor (List ℕ) → Result ℕ ℕ → Result Packet ℕ
in_hand s (Ok n) = Ok (record { bytes = s; pairs = n })
in_hand s (Err n) = Err n

-- the slice itself is held where it is taken
unfoldable pub opened : Bor (List ℕ) → Result Packet ℕ
opened s = in_hand s (counted (decode s.now))
