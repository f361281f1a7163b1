-- How a packet ends, by the state that it meets; and so every call.
-- Assumes nothing.
use Prim.Native.Nat.{ℕ}
use mathlib.Core.Path.{◌≡◌, refl}
use mathlib.Core.Bool.{Bool, false, ◌&&◌}
use mathlib.Core.List.{List}
use borrow.Author.Tests.{eqb-true}
use lib.Dec.{eqb}
use lib.ListN.{length}
use Rattle.layout.specs.declared.Header.{Header}
use Rattle.layout.specs.LaidOut.{header_in, is_laid_out}
use Rattle.layout.specs.Decode.{Decoded, taken, refused as unread, message_in, within, decode}
use Rattle.step_definition.specs.Phases.{Phase, idling, gathering_nonces, gathering_shares, resting, phase_of}
use Rattle.step_definition.proofs.Cases.{cond_both}
use Rattle.state.specs.declared.fields.Coordinator.{Coordinator}
use Rattle.state.specs.Turns.{asked}
use Rattle.process_timeout.specs.Due.{due_of}
use Rattle.messages.specs.Verified.{sender_known, verified_asked}
use Rattle.messages.specs.Messages.{in_nonces, in_shares, turn_in, message_turn}
use Rattle.packet_entry.specs.declared.Entry.{Entry}
use Rattle.packet_entry.specs.declared.Entry.TheVariants.{Process, ProcessMessage}
use Rattle.packet_entry.specs.Entries.{processed_turn, entry_turn}
use Rattle.process.specs.Process.{decoded_turn, asking_packet, receive_turn}
use Rattle.coordinator_theorems.specs.Host.{HostRequest, commission, set_key, take_results, can_move, start, receive, process_timeout}
use Rattle.coordinator_theorems.specs.Host.{aggregated, reset, tell_arrivals, turn_for}
use Rattle.coordinator_theorems.specs.Refusals.{changing, otherwise}
use Rattle.coordinator_theorems.proofs.Ends.{Ended, took, refused, as_before, Bare, ends_unless, ends_cond}
use Rattle.coordinator_theorems.proofs.EndsCalls.{asked_bare, commission_ends, set_key_ends, move_ends, aggregated_ends, the_reset_ends}
use Rattle.coordinator_theorems.proofs.EndsCalls.{results_ends, arrivals_ends}
use Rattle.coordinator_theorems.proofs.EndsRounds.{start_ends, idle_ends, due_ends, process_timeout_ends}
use Rattle.coordinator_theorems.proofs.EndsNonces.{gather_ends}
use Rattle.coordinator_theorems.proofs.EndsShares.{gather_shares_ends}

-- 13 and 14 change nothing, 8 and 9 change nothing
verified_bare : (h : Header) (verdict : Bool) (s : Coordinator) → Bare (verified_asked h verdict s)
unfolding verified_asked
verified_bare h verdict s =
    cond_both Bare s.config.verify_packet_sigs
    (cond_both Bare s.keys.coordinator (cond_both Bare (sender_known s.config h && verdict) tt refl) refl)
    tt

abbrev Unread : Decoded → Type 0
Unread (taken m) = Unit {0}
Unread (unread n) = changing n ≡ false

decode_bare : (p : List ℕ) → Unread (decode p)
unfolding decode
decode_bare p = cond_both Unread (is_laid_out p) (cond_both Unread (within (message_in p)) tt refl) refl

module _ (clock : ℕ) (verdict : Bool) (entry : Entry) (p : List ℕ) (s : Coordinator) (store : List ℕ) where
  phase_ends : (phase : Phase) → phase_of s.position.state ≡ phase → Ended clock (receive entry p) s store (turn_in clock p s store phase)
  unfolding turn_in in_nonces in_shares
  phase_ends idling e = idle_ends clock s store entry p e
  phase_ends (gathering_nonces t) e =
      ends_cond (eqb (header_in p).kind 2) (λ f. gather_ends clock t entry p s store e (eqb-true _ _ f)) (λ f. took refl as_before)
  phase_ends (gathering_shares t) e =
      ends_cond (eqb (header_in p).kind 4) (λ f. gather_shares_ends clock t entry p s store e (eqb-true _ _ f)) (λ f. took refl as_before)
  phase_ends resting e = took refl as_before

  message_ends : Ended clock (receive entry p) s store (message_turn clock verdict p s store)
  unfolding message_turn
  message_ends =
      ends_unless refl (verified_asked (header_in p) verdict s) (verified_bare (header_in p) verdict s)
      (phase_ends (phase_of s.position.state) refl)

  entry_ends : (by : Entry) → Ended clock (receive entry p) s store (entry_turn by clock verdict p s store)
  unfolding entry_turn processed_turn
  entry_ends Process = due_ends clock s store (receive entry p) refl (due_of clock s) (message_turn clock verdict p s store) message_ends
  entry_ends ProcessMessage = message_ends

  decoded_ends : (d : Decoded) → Unread d → Ended clock (receive entry p) s store (decoded_turn d entry clock verdict p s store)
  unfolding decoded_turn
  decoded_ends (taken m) u = entry_ends entry
  decoded_ends (unread n) u = refused (otherwise (receive entry p) n refl u)

  receive_ends : (room : ℕ) → Ended clock (receive entry p) s store (receive_turn entry clock verdict p room s store)
  unfolding receive_turn
  receive_ends room =
      ends_unless refl (asked asking_packet (length store) room s) (asked_bare asking_packet (length store) room s)
      (decoded_ends (decode p) (decode_bare p))

pub turn_ends :
    (q : HostRequest) (clock : ℕ) (verdict : Bool) (room : ℕ) (s : Coordinator) (store : List ℕ)
    → Ended clock q s store (turn_for q clock verdict room s store)
unfolding turn_for
turn_ends (commission g) clock verdict room s store = commission_ends clock g s store
turn_ends (set_key which held) clock verdict room s store = set_key_ends clock s store which held
turn_ends (take_results dkg ended) clock verdict room s store = results_ends clock s store dkg ended
turn_ends (can_move next root) clock verdict room s store = move_ends clock s store next root
turn_ends (start m by) clock verdict room s store = start_ends clock s store m by room
turn_ends (receive entry p) clock verdict room s store = receive_ends clock verdict entry p s store room
turn_ends process_timeout clock verdict room s store = process_timeout_ends clock s store room
turn_ends (aggregated ok) clock verdict room s store = aggregated_ends clock s store ok
turn_ends reset clock verdict room s store = the_reset_ends clock s store
turn_ends tell_arrivals clock verdict room s store = arrivals_ends clock s store room
