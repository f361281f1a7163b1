-- What a writer did, told in plain numbers.
-- Assumes nothing.
use Rattle.std.specs.Prelude.{Err}
use Prim.Native.Nat.{ℕ, ◌<◌, ◌≤◌}
use mathlib.Core.Path.{◌≡◌, refl, ap, ◌∙◌}
use mathlib.Core.List.{List}
use borrow.Author.Tests.{lt-ltb, le-ltb}
use Rattle.framing.specs.Writing.{Writing, Wrote, answer, buffer, Written}
use Rattle.library_writers.specs.declared.written.RcWritten.{RcWritten}
use Rattle.library_writers.specs.Written.{plain, typed, WrotePlain}

module _ {before after : List ℕ} {d : Written} {r : RcWritten} {w : Writing} where
  pub told : r ≡ plain d → Wrote w before d after → WrotePlain w before r after
  told e did = record { answered = e ∙ ap plain did.answered; buffered = did.buffered }

  pub told_typed : (t : ℕ) → t ≤ 3 → r ≡ plain d → Wrote w before d after → WrotePlain (typed t w) before r after
  unfolding typed
  told_typed t h e did = rw (le-ltb 3 t h) (told e did)

pub told_8 :
    {before : List ℕ} {r : RcWritten} (t : ℕ) (w : Writing) → 3 < t → r ≡ plain (Err 8) → WrotePlain (typed t w) before r before
unfolding typed answer buffer
told_8 t w h e = rw (lt-ltb 3 t h) (record { answered = e; buffered = refl })
