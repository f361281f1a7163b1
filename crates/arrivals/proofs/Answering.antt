-- What the writer is given, and the result that was written.
-- Assumes nothing.
use Rattle.std.specs.Prelude.{Err, Ok}
use Prim.Native.Nat.{ℕ, ◌≤◌, ◌<◌}
use mathlib.Core.Path.{◌≡◌, refl}
use mathlib.Core.Bool.{true}
use mathlib.Core.List.{List, []}
use borrow.Author.Tests.{leb-true, le-leb, le-ltb, lt-ltb}
use lib.ListN.{length, get_or}
use Rattle.layout.specs.Limits.{signer_limit, answer_length}
use Rattle.layout.specs.Messages.{Arrival}
use Rattle.layout.specs.Encode.{encode_arrivals}
use Rattle.framing.specs.Writing.{Wrote, written, writing, Written}
use Rattle.pieces.specs.declared.places.Arrivals.{Arrivals}
use Rattle.pieces.specs.Places.{arrivals_of}
use Rattle.writer.specs.Results.{write_arrivals}
use Rattle.state.specs.declared.fields.Coordinator.{Coordinator}
use Rattle.state.specs.Counts.{is_within_limits}
use Rattle.state.specs.Slots.{collect}
use Rattle.state.specs.View.{no_row, slots_of, arrival_in}
use Rattle.state.specs.Turns.{asked, unless}
use Rattle.state.specs.Passed.{Passed}
use Rattle.state.proofs.Within.{within, config_few, records_few}
use Rattle.timeouts.specs.NonceTimeout.{current_place}
use Rattle.arrivals.specs.Query.{asking_query, QueryReady, current_arrivals, told_turn, arrivals_turn}

-- the writer takes a short list, and writes all of it
pub arrivals-written :
    (list : Arrivals) {told : List Arrival} {out out' : List ℕ} {w : Written} → answer_length ≤ length out
    → (arrivals_of list ≡ told) × (list.count ≤ signer_limit) → Wrote (write_arrivals (length out) list) out w out'
    → Wrote (written (encode_arrivals told)) out w out'
unfolding write_arrivals writing
arrivals-written list {out = out} wide listed wrote =
    rw (le-ltb (length out) answer_length wide, le-leb list.count signer_limit listed.1, listed.0) at wrote

-- what 4 has found
pub query-ready : (s : Coordinator) → is_within_limits s ≡ true → QueryReady s
query-ready s w =
    let t = within s w in
    record { signers = config_few s t; records = records_few s t; message = leb-true _ _ t.message }

module _ (s : Coordinator) (store : List ℕ) (p : ℕ) (at : p ≡ current_place s store) where
  pub none_current : s.records.count ≤ p → current_arrivals s store ≡ []
  unfolding current_arrivals
  none_current h = rw (← at, le-ltb p s.records.count h)

  pub some-current :
      p < s.records.count
      → current_arrivals s store ≡ collect (arrival_in (get_or s.records.rows p no_row).slots) (slots_of s.config)
  unfolding current_arrivals
  some-current h = rw (← at, lt-ltb p s.records.count h)

-- whatever the query answers, the struct stays
pub arrivals_still : (room : ℕ) (s : Coordinator) (store : List ℕ) → (arrivals_turn room s store).after ≡ s
unfolding arrivals_turn told_turn unless
arrivals_still room s store = by (asked asking_query (length store) room s)
  where
    by : (p : Passed) → (unless p s store (told_turn s store)).after ≡ s
    by (Ok tt) = refl
    by (Err n) = refl
