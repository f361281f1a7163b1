-- What a writer answers, as plain numbers.
use Rattle.std.specs.Prelude.{Err, Ok, ℕ, ◌≡◌, cond, List, ltb}
use Rattle.framing.specs.Writing.{Writing, refused, answer, buffer, Written}
use Rattle.library_writers.specs.declared.written.RcWritten.{RcWritten}

abbrev pub plain : Written → RcWritten
plain (Ok n) = record { refusal = 0; reserved = 0; length = n }
plain (Err n) = record { refusal = n; reserved = 0; length = 0 }

-- a type that there is not, before anything else
unfoldable pub typed : ℕ → Writing → Writing
typed t w = cond (ltb 3 t) (refused 8) w

-- the answer, and the whole buffer
pub record WrotePlain (w : Writing) (before : List ℕ) (r : RcWritten) (after : List ℕ) : Type 0 where
  pub answered : r ≡ plain (answer w)
  pub buffered : after ≡ buffer w before
