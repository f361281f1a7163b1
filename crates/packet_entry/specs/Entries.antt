-- A packet that is taken, by the call that brings it.
use Rattle.std.specs.Prelude.{ℕ, Bool, List}
use Rattle.step_definition.specs.Calls as A
use Rattle.state.specs.declared.fields.Coordinator.{Coordinator}
use Rattle.state.specs.Turns.{Turn}
use Rattle.process_timeout.specs.Due.{due_of, due_turn}
use Rattle.messages.specs.Messages.{message_turn}
use Rattle.packet_entry.specs.declared.Entry.{Entry}
use Rattle.packet_entry.specs.declared.Entry.TheVariants.{Process, ProcessMessage}

-- "When it yields a packet, a result or an error, `process` drops the inbound packet."
unfoldable pub processed_turn : ℕ → Bool → List ℕ → Coordinator → List ℕ → Turn
processed_turn clock verdict p s store = due_turn clock (due_of clock s) s store (message_turn clock verdict p s store)

unfoldable pub entry_turn : Entry → ℕ → Bool → List ℕ → Coordinator → List ℕ → Turn
entry_turn Process clock verdict p s store = processed_turn clock verdict p s store
entry_turn ProcessMessage clock verdict p s store = message_turn clock verdict p s store

-- the definition's name of the call
abbrev pub entry_of : Entry → A.Entry
entry_of Process = A.process
entry_of ProcessMessage = A.process_message
