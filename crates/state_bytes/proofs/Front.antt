-- The state that bytes say lies in their first 3,520: what stands after them, and how much of it is lent, does not count.
-- Assumes nothing.
use Prim.Native.Nat.{ℕ, ◌≤◌, ◌<◌}
use mathlib.Core.Path.{◌≡◌, refl}
use mathlib.Core.Bool.{Bool, true, false}
use mathlib.Core.List.{List}
use native.Mathlib.Omega.{arith}
use borrow.Author.Tests.{le-leb, lt-leb, leb-true, leb-false}
use lib.Dec.{leb}
use lib.ListN.{length, take, length-take}
use lib.Seq.{take-take}
use Rattle.state_bytes.specs.Saved.{state_length}
use Rattle.state_bytes.specs.Loaded.{state_at, is_saved, loaded}
use Rattle.state_bytes.proofs.Described.{coordinator_lawful, coordinator-long}

-- n is how many bytes there are at least
module _ (n : ℕ) (s : List ℕ) where
  state_front : state_length ≤ n → state_at (take n s) ≡ state_at s
  unfolding state_at
  state_front l = coordinator_lawful.front n s 0 (omega (arith, coordinator-long))

  long_front : state_length ≤ n → leb state_length (length (take n s)) ≡ leb state_length (length s)
  long_front l = by (leb state_length (length s)) refl
    where
      by : (b : Bool) → leb state_length (length s) ≡ b → leb state_length (length (take n s)) ≡ b
      by true e = le-leb state_length (length (take n s)) (omega (arith, length-take n s, leb-true state_length (length s) e))
      by false e = lt-leb state_length (length (take n s)) (omega (arith, length-take n s, leb-false state_length (length s) e))

  pub saved_front : state_length ≤ n → is_saved (take n s) ≡ is_saved s
  unfolding is_saved
  saved_front l = rw (long_front l, state_front l, take-take state_length n s l)

  -- how much of the bytes is lent does not count, where it is enough for a state
  pub loaded_front : state_length ≤ n → loaded (take n s) ≡ loaded s
  unfolding loaded
  loaded_front l = rw (saved_front l, state_front l)

-- bytes that are too few for a state are none that a save left
pub short-unsaved : (b : List ℕ) → length b < state_length → is_saved b ≡ false
unfolding is_saved
short-unsaved b l = rw (lt-leb state_length (length b) l)
