-- Whether a save left bytes is told by their length, flags, codes and constants: nothing has to be saved again to see it.
-- Assumes nothing.
use Prim.Native.Nat.{ℕ, ◌+◌, ◌≤◌}
use mathlib.Core.Path.{◌≡◌, refl, sym, ◌∙◌}
use mathlib.Core.Bool.{Bool, true, false, ◌&&◌}
use mathlib.Core.List.{List}
use native.Mathlib.Omega.{arith}
use borrow.Author.Tests.{leb-true, leb-false, le-leb}
use lib.Dec.{leb}
use lib.ListN.{length, take}
use Rattle.wire.specs.Bytes.{Bytes, are_same_bytes}
use Rattle.wire.proofs.SameBytes.{same_is, same_self}
use Rattle.form.proofs.Standing.{Stands}
use Rattle.state_bytes.specs.Description.{coordinator_form}
use Rattle.state_bytes.specs.Saved.{state_length, saved, Saves}
use Rattle.state_bytes.specs.Loaded.{state_at, is_saved}
use Rattle.state_bytes.proofs.Described.{coordinator_lawful, coordinator-long}
use Rattle.state_bytes.proofs.Loads.{length-saved}
use Rattle.state_bytes.proofs.Front.{short-unsaved}

-- a test and a comparison that pass in the same cases
alike : (t u : Bool) → (t ≡ true → u ≡ true) → (u ≡ true → t ≡ true) → t ≡ u
alike true u f g = sym (f refl)
alike false true f g = g refl
alike false false f g = refl

-- bytes stand in front where the first ones are the same
module _ (xs b : List ℕ) (n : ℕ) (e : length xs ≡ n) where
  same_stand : are_same_bytes xs (take n b) ≡ true → Stands b 0 xs
  same_stand h = record { here = rw e (sym (same_is xs (take n b) h)) }

  stand_same : Stands b 0 xs → are_same_bytes xs (take n b) ≡ true
  stand_same h = let t : take n b ≡ xs = rw (← e) h.here in rw t (same_self xs)

module _ (b : List ℕ) (bytes : Bytes b) (l : state_length ≤ length b) where
  -- what bytes say fits, whatever they are
  said_saves : Saves (state_at b)
  unfolding Saves state_at
  said_saves = coordinator_lawful.fits b 0 bytes (omega (arith, l, coordinator-long))

  left_told : are_same_bytes (saved (state_at b)) (take state_length b) ≡ coordinator_form.left b 0
  unfolding saved state_at
  left_told =
      let n = length-saved (state_at b) said_saves in
      let all : 0 + coordinator_form.width ≤ length b = omega (arith, l, coordinator-long) in
      alike _ _
      (λ e. coordinator_lawful.left_yes b 0 bytes all (same_stand (saved (state_at b)) b state_length n e))
      (λ e. stand_same (saved (state_at b)) b state_length n (coordinator_lawful.yes_left b 0 bytes all e))

  -- bytes that are long enough for a state are a save's exactly where they pass the test
  pub left_saved : is_saved b ≡ coordinator_form.left b 0
  unfolding is_saved
  left_saved = rw (le-leb state_length (length b) l) left_told

-- a save left the bytes exactly where they are long enough and pass the test
pub saved-told : (b : List ℕ) → Bytes b → is_saved b ≡ (leb state_length (length b) && coordinator_form.left b 0)
saved-told b bytes = by (leb state_length (length b)) refl
  where
    by : (t : Bool) → leb state_length (length b) ≡ t → is_saved b ≡ (t && coordinator_form.left b 0)
    by true e = left_saved b bytes (leb-true state_length (length b) e)
    by false e = short-unsaved b (leb-false state_length (length b) e)
