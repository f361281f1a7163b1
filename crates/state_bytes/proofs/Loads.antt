-- What is saved is loaded as it was; and bytes that no save left count as the uncommissioned state.
-- Assumes nothing.
use Prim.Native.Nat.{ℕ, ◌+◌, ◌≤◌}
use mathlib.Core.Path.{◌≡◌, refl, sym, ◌∙◌}
use mathlib.Core.Bool.{true, false}
use mathlib.Core.List.{List, [], ◌++◌}
use native.Mathlib.Omega.{arith}
use borrow.Author.Tests.{le-leb}
use lib.Dec.{leb}
use lib.ListN.{length, take, drop, length-append}
use lib.Seq.{take_at}
use Rattle.wire.specs.Bytes.{le, put}
use Rattle.wire.proofs.Lists.{and_right}
use Rattle.wire.proofs.SameBytes.{same_is, same_self}
use Rattle.wire.proofs.Buffer.{put_inside}
use Rattle.state.specs.declared.fields.Coordinator.{Coordinator}
use Rattle.form.specs.Form.{pieces}
use Rattle.form.proofs.Standing.{Stands}
use Rattle.state_bytes.specs.Description.{coordinator_form}
use Rattle.state_bytes.specs.Saved.{state_length, saved, Saves}
use Rattle.state_bytes.specs.Loaded.{state_at, unsaved, is_saved, loaded}
use Rattle.state_bytes.proofs.Described.{coordinator_lawful, coordinator-long}

pub length-saved : (s : Coordinator) → Saves s → length (saved s) ≡ state_length
unfolding saved Saves
length-saved s f = coordinator_lawful.long s f ∙ coordinator-long

-- what is said of bytes where a saved state stands
pub state-said : (b : List ℕ) (s : Coordinator) → Saves s → Stands b 0 (saved s) → state_at b ≡ s
unfolding saved Saves state_at
state-said b s f h = coordinator_lawful.back s f h

-- a saved state, whatever stands after it, is known as one and loaded as it was
pub is_saved_law : (s : Coordinator) → Saves s → (rest : List ℕ) → is_saved (saved s ++ rest) ≡ true
unfolding is_saved
is_saved_law s f rest =
    let n = length-saved s f in
    let w = take_at (saved s) rest in
    let e = state-said (saved s ++ rest) s f (record { here = w (length (saved s)) refl }) in
    let l : state_length ≤ length (saved s ++ rest) = rw (length-append, n) (omega arith) in
    rw (e, w state_length n, same_self, le-leb state_length (length (saved s ++ rest)) l)

pub load-saved : (s : Coordinator) → Saves s → (rest : List ℕ) → loaded (saved s ++ rest) ≡ s
unfolding loaded
load-saved s f rest = rw (is_saved_law s f rest) (state-said (saved s ++ rest) s f (record { here = take_at (saved s) rest (length (saved s)) refl }))

-- a state that is saved over bytes of at least its length is loaded as it was
pub load-put : (b : List ℕ) (s : Coordinator) → Saves s → state_length ≤ length b → loaded (put b 0 (saved s)) ≡ s
load-put b s f l =
    let n = length-saved s f in
    let w : put b 0 (saved s) ≡ saved s ++ drop (0 + length (saved s)) b = put_inside b 0 (saved s) (rw n (omega arith)) in
    rw w (load-saved s f (drop (0 + length (saved s)) b))

-- bytes that no save left count as the uncommissioned state
pub unsaved-loaded : (b : List ℕ) → is_saved b ≡ false → loaded b ≡ unsaved
unfolding loaded
unsaved-loaded b e = rw e

-- bytes that count as a state are those that saving it gives
pub saved-bytes : (b : List ℕ) → is_saved b ≡ true → take state_length b ≡ saved (loaded b)
unfolding loaded is_saved
saved-bytes b y = rw y (sym (same_is (saved (state_at b)) (take state_length b) (and_right (leb state_length (length b)) _ y)))

pub unsaved-uncommissioned : unsaved.commissioned ≡ false
unfolding state_at coordinator_form pieces le
unsaved-uncommissioned = refl
