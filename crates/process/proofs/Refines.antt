-- `process` and `process_message` give what the step says of what the struct and the store stand for.
-- Assumes nothing.
use Rattle.std.specs.Prelude.{Ok}
use Prim.Native.Nat.{ℕ}
use mathlib.Core.Path.{◌≡◌, refl}
use mathlib.Core.Bool.{Bool, true, false, cond}
use mathlib.Core.List.{List}
use lib.ListN.{length}
use Rattle.layout.specs.Limits.{message_limit}
use Rattle.layout.specs.LaidOut.{is_laid_out}
use Rattle.layout.specs.Decode.{taken, refused, decode, message_in, within}
use Rattle.step_definition.specs.Calls as A
use Rattle.step_definition.specs.Questions.{asks}
use Rattle.step_definition.specs.Step.{on_packet, own, step_of, step}
use Rattle.state.specs.declared.fields.Coordinator.{Coordinator}
use Rattle.state.specs.Counts.{is_within_limits}
use Rattle.state.specs.View.{view, coordinator_of}
use Rattle.state.specs.Turns.{asked, Refines}
use Rattle.state.proofs.Shape.{Shaped}
use Rattle.state.proofs.Refines.{on-asked, error_refines, call_of}
use Rattle.packet_entry.specs.declared.Entry.{Entry}
use Rattle.packet_entry.specs.Entries.{entry_of}
use Rattle.packet_entry.proofs.Refines.{entry_refines}
use Rattle.process.specs.Process.{decoded_turn, read_turn, asking_packet, receive_turn}
use Rattle.process.proofs.Entering.{ready}

module _ (clock : ℕ) (verdict : Bool) (p : List ℕ) (s : Coordinator) (store : List ℕ) (shaped : Shaped s)
    (bytes : length s.message.bytes ≡ message_limit) (root : length s.position.root ≡ 32) where
  packet-refines :
      (entry : Entry) (room : ℕ) → asked asking_packet (length store) room s ≡ (Ok tt) → s.commissioned ≡ true → is_within_limits s ≡ true
      → Refines (read_turn entry clock verdict p s store) (on_packet (entry_of entry) clock verdict (decode p) (coordinator_of s store))
  unfolding decode decoded_turn on_packet
  packet-refines entry room y b w = by (is_laid_out p) refl (within (message_in p)) refl
    where
      by : (l : Bool) → is_laid_out p ≡ l → (x : Bool) → within (message_in p) ≡ x
          → Refines (decoded_turn (cond l (cond x (taken (message_in p)) (refused 9)) (refused 8)) entry clock verdict p s store)
          (on_packet (entry_of entry) clock verdict (cond l (cond x (taken (message_in p)) (refused 9)) (refused 8)) (coordinator_of s store))
      by true l true x =
          let r = ready s store room y in
          entry_refines clock verdict p s store shaped bytes root b (record { within = w; stored = r.stored; laid_out = l; short = x; header = refl; wide = r.wide }) entry
      by true l false x = error_refines 9 s store (coordinator_of s store) b w refl
      by false l x e = error_refines 8 s store (coordinator_of s store) b w refl

  pub receive-refines :
      (entry : Entry) (room : ℕ)
      → Refines (receive_turn entry clock verdict p room s store)
      (step (call_of (A.other (A.receive (entry_of entry) p)) clock verdict (length store) room) (view s store))
  unfolding step_of asks own receive_turn
  receive-refines entry room =
      let o = A.receive (entry_of entry) p in
      on-asked (call_of (A.other o) clock verdict (length store) room) o asking_packet refl s store _ refl (packet-refines entry room)
