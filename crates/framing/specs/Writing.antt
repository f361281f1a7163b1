-- "Called alone, ... a writer [passes] 7 and 9": the packet's bytes, or a number.
use Rattle.std.specs.Prelude.{Result, Err, Ok, Option, None, Some, ℕ, ◌+◌, ◌≡◌, Bool, cond, List, [], ◌∷◌, ◌++◌, ltb, leb, length, drop}
use Rattle.wire.specs.Bytes.{le}
use Rattle.layout.specs.Messages.{Message}
use Rattle.layout.specs.Encode.{encode}
use Rattle.layout.specs.Decode.{within}
use Rattle.layout.specs.Limits.{answer_length}

-- a writer's answer: the packet's length, or 01's number; the kind 2 writer's: the packet's length, where the packet fits the part it is lent
abbrev pub Written : Type 0
Written = Result ℕ ℕ

abbrev pub Room : Type 0
Room = Option ℕ

pub data Writing : Type 0 where
  written : List ℕ → Writing
  refused : ℕ → Writing

-- 7 first, of the buffer's length, then 9
unfoldable pub writing : ℕ → Bool → List ℕ → Writing
writing room fine bytes = cond (ltb room answer_length) (refused 7) (cond fine (written bytes) (refused 9))

-- a message as it is, written
unfoldable pub write_message : ℕ → Message → Writing
write_message room m = writing room (within m) (encode m)

-- the answer: how many bytes were written, or the number
unfoldable pub answer : Writing → Written
answer (written bytes) = Ok (length bytes)
answer (refused n) = Err n

-- the buffer after: the packet, then what stood there; a refusal writes nothing
unfoldable pub buffer : Writing → List ℕ → List ℕ
buffer (written bytes) out = bytes ++ drop (length bytes) out
buffer (refused n) out = out

pub record Wrote (w : Writing) (before : List ℕ) (r : Written) (after : List ℕ) : Type 0 where
  pub answered : r ≡ answer w
  pub buffered : after ≡ buffer w before

-- the kind 2 writer is lent a part and says whether the packet fits there; where it does not, nothing is written
unfoldable pub room_for : ℕ → List ℕ → Room
room_for room bytes = cond (leb (length bytes) room) (Some (length bytes)) None

unfoldable pub lent_after : List ℕ → List ℕ → List ℕ
lent_after bytes out = cond (leb (length bytes) (length out)) (bytes ++ drop (length bytes) out) out

-- pairs of offset and length, from the lengths alone
unfoldable pub pairs : ℕ → List ℕ → List ℕ
pairs at [] = []
pairs at (n ∷ ns) = le 4 at ++ (le 4 n ++ pairs (at + n) ns)

-- the sum of lengths
unfoldable pub total : List ℕ → ℕ
total [] = 0
total (n ∷ ns) = n + total ns
