-- What C can say and 01's calls can't: which number it gets, and that it changes nothing.
-- Assumes nothing.
use Prim.Native.Nat.{ℕ, ◌≤◌, ◌<◌}
use mathlib.Core.Path.{◌≡◌, refl, ap, ◌∙◌}
use mathlib.Core.Bool.{Bool, true, false, cond}
use mathlib.Core.List.{List}
use Rattle.std.specs.Prelude.{Option, Some, None}
use native.Mathlib.Omega.{arith}
use borrow.Author.Tests.{lt-leb, leb-true, leb-false}
use lib.Dec.{leb}
use lib.ListN.{length}
use Rattle.state.specs.Turns.{Turn, error_turn}
use Rattle.state_bytes.specs.Saved.{state_length}
use Rattle.state_bytes.specs.Loaded.{is_saved, loaded, unsaved}
use Rattle.state_bytes.proofs.Loads.{unsaved-loaded, unsaved-uncommissioned}
use Rattle.state_bytes.proofs.Front.{short-unsaved}
use Rattle.interface.specs.Configs.{is_yes}
use Rattle.library_theorems.specs.Library.{LibraryRequest, commission, set_key, take_results, start_signing_round, receive}
use Rattle.library_theorems.specs.Library.{process_timeout, aggregated, reset, tell_arrivals, can_move_to}
use Rattle.library_theorems.specs.Library.{LibraryCall, request_of, is_said, commissions, library_turn, saves, outright}
use Rattle.library_theorems.proofs.Unsaved.{uncommissioned_turn}

-- the three cases
pub data Outright (k : LibraryCall) : Option ℕ → Type 0 where
  unsaid : is_said k.request ≡ false → Outright k (Some 8)
  short : is_said k.request ≡ true → k.state < state_length → Outright k (Some 4)
  long : is_said k.request ≡ true → state_length ≤ k.state → Outright k None

pub outright_case : (k : LibraryCall) → Outright k (outright k)
unfolding outright
outright_case k = by (is_said k.request) refl (leb state_length k.state) refl
  where
    by : (s : Bool) → is_said k.request ≡ s → (l : Bool) → leb state_length k.state ≡ l → Outright k (cond s (cond l None (Some 4)) (Some 8))
    by false e l f = unsaid e
    by true e false f = short e (leb-false state_length k.state f)
    by true e true f = long e (leb-true state_length k.state f)

-- commissioning says nothing that 01's can't
unsaid_other : (q : LibraryRequest) → is_said q ≡ false → commissions q ≡ false
unfolding is_said request_of
unsaid_other (commission g) e = let z : ◌≡◌ {A = ℕ} 0 1 = cc in let f : ⊥ = omega arith in absurd f
unsaid_other (set_key which held) e = refl
unsaid_other (take_results dkg ended) e = refl
unsaid_other (start_signing_round m t root given id) e = refl
unsaid_other (receive entry p) e = refl
unsaid_other process_timeout e = refl
unsaid_other (aggregated ok) e = refl
unsaid_other reset e = refl
unsaid_other tell_arrivals e = refl
unsaid_other (can_move_to next t root) e = refl

-- state: the bytes that are lent, as many as the call says
module _ (k : LibraryCall) (state store : List ℕ) (lent : length state ≡ k.state) where
  abbrev q : LibraryRequest
  q = k.request

  none_loaded : k.state < state_length → loaded state ≡ unsaved
  none_loaded l = unsaved-loaded state (short-unsaved state (omega arith))

  short-turn :
      (room : ℕ) → k.state < state_length → is_said q ≡ true → library_turn q k.clock k.verdict room state store ≡ error_turn 4 (loaded state) store
  unfolding library_turn
  short-turn room l said = by (commissions q) refl
    where
      by : (c : Bool) → commissions q ≡ c → library_turn q k.clock k.verdict room state store ≡ error_turn 4 (loaded state) store
      by true e = rw (said, e, lt-leb state_length (length state) (omega arith), none_loaded l)
      by false e =
          let None : (loaded state).commissioned ≡ false = ap (λ s. s.commissioned) (none_loaded l) ∙ unsaved-uncommissioned in
          rw (said, e) (uncommissioned_turn k.clock (is_yes k.verdict) room (loaded state) store None (request_of q) e)

  pub refused-turn :
      (room n : ℕ) {o : Option ℕ} → Outright k o → o ≡ Some n
      → library_turn q k.clock k.verdict room state store ≡ error_turn n (loaded state) store
  unfolding library_turn
  refused-turn room n (unsaid e) is = let eight : 8 ≡ n = cc in rw (e, eight)
  refused-turn room n (short said l) is = let four : 4 ≡ n = cc in rw (← four) (short-turn room l said)
  refused-turn room n (long said l) is = let z : ◌≡◌ {A = ℕ} 0 1 = cc in let f : ⊥ = omega arith in absurd f

  -- such a call saves where a save left the bytes, commissioning too
  pub refused_saves : (n : ℕ) {o : Option ℕ} → Outright k o → o ≡ Some n → saves q state ≡ is_saved state
  unfolding saves
  refused_saves n (unsaid e) is = rw (unsaid_other q e)
  refused_saves n (short said l) is = by (commissions q) refl
    where
      by : (c : Bool) → commissions q ≡ c → saves q state ≡ is_saved state
      by true e = rw (e, lt-leb state_length (length state) (omega arith), short-unsaved state (omega arith))
      by false e = rw e
  refused_saves n (long said l) is = let z : ◌≡◌ {A = ℕ} 0 1 = cc in let f : ⊥ = omega arith in absurd f
