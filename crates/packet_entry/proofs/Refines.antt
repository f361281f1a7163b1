-- A packet that is taken gives what the definition says of what the struct and the store stand for, by the call that brings it.
-- Assumes nothing.
use Prim.Native.Nat.{ℕ}
use mathlib.Core.Path.{◌≡◌}
use mathlib.Core.Bool.{Bool, true}
use mathlib.Core.List.{List}
use lib.ListN.{length}
use Rattle.layout.specs.Limits.{message_limit}
use Rattle.layout.specs.LaidOut.{header_in}
use Rattle.layout.specs.Decode.{message_in}
use Rattle.step_definition.specs.Step.{on_message, on_entry}
use Rattle.state.specs.declared.fields.Coordinator.{Coordinator}
use Rattle.state.specs.View.{coordinator_of}
use Rattle.state.specs.Turns.{Refines}
use Rattle.state.proofs.Shape.{Shaped}
use Rattle.process_timeout.proofs.Refines.{late_refines}
use Rattle.messages.specs.Messages.{Incoming, message_turn}
use Rattle.messages.proofs.Refines.{message_refines}
use Rattle.packet_entry.specs.declared.Entry.{Entry}
use Rattle.packet_entry.specs.declared.Entry.TheVariants.{Process, ProcessMessage}
use Rattle.packet_entry.specs.Entries.{processed_turn, entry_turn, entry_of}

module _ (clock : ℕ) (verdict : Bool) (p : List ℕ) (s : Coordinator) (store : List ℕ) (shaped : Shaped s)
    (bytes : length s.message.bytes ≡ message_limit) (root : length s.position.root ≡ 32) where
  module _ {room : ℕ} (b : s.commissioned ≡ true) (i : Incoming s store p (header_in p) room) where
    messaged : Refines (message_turn clock verdict p s store) (on_message clock verdict (message_in p) (coordinator_of s store))
    messaged = message_refines clock p s store shaped bytes root b i verdict

    pub entry_refines : (entry : Entry) → Refines (entry_turn entry clock verdict p s store) (on_entry (entry_of entry) clock verdict (message_in p) (coordinator_of s store))
    unfolding entry_turn processed_turn
    entry_refines Process = late_refines clock s store shaped b i.within (message_turn clock verdict p s store) _ messaged
    entry_refines ProcessMessage = messaged
