-- What was done with a packet, by the timeout that was due and the call that brought it.
-- Assumes nothing.
use Prim.Native.Nat.{ℕ}
use mathlib.Core.Path.{◌≡◌}
use mathlib.Core.Bool.{Bool}
use mathlib.Core.List.{List}
use Rattle.layout.specs.declared.SignatureType.{SignatureType}
use Rattle.state.specs.declared.answers.Done.{Done}
use Rattle.state.specs.declared.fields.Coordinator.{Coordinator}
use Rattle.state.specs.Turns.{Did}
use Rattle.timeouts.specs.NonceTimeout.{nonce_timeout_turn}
use Rattle.share_timeout.specs.ShareTimeout.{share_timeout_turn}
use Rattle.process_timeout.specs.declared.dues.Due.{Due}
use Rattle.process_timeout.specs.declared.dues.Due.TheVariants.{Nothing, Nonces, Shares}
use Rattle.process_timeout.specs.Due.{due_of, due_turn}
use Rattle.messages.specs.Messages.{message_turn}
use Rattle.packet_entry.specs.declared.Entry.{Entry}
use Rattle.packet_entry.specs.declared.Entry.TheVariants.{Process, ProcessMessage}
use Rattle.packet_entry.specs.Entries.{processed_turn, entry_turn}

module _ (clock : ℕ) (verdict : Bool) (p : List ℕ) (s : Coordinator) (store : List ℕ) {d : Done} {out store' out' : List ℕ} where
  module _ (due : Due) (e : due ≡ due_of clock s) where
    pub on_time_did : due ≡ Nothing → Did (message_turn clock verdict p s store) out d store' out' → Did (processed_turn clock verdict p s store) out d store' out'
    unfolding processed_turn due_turn
    on_time_did n f = rw (← e, n) f

    pub nonces_late_did : due ≡ Nonces → Did (nonce_timeout_turn s store) out d store' out' → Did (processed_turn clock verdict p s store) out d store' out'
    unfolding processed_turn due_turn
    nonces_late_did n f = rw (← e, n) f

    pub shares-late-did :
        (t : SignatureType) → due ≡ Shares t → Did (share_timeout_turn clock t s store) out d store' out' → Did (processed_turn clock verdict p s store) out d store' out'
    unfolding processed_turn due_turn
    shares-late-did t n f = rw (← e, n) f

  pub process_did : (entry : Entry) → entry ≡ Process → Did (processed_turn clock verdict p s store) out d store' out' → Did (entry_turn entry clock verdict p s store) out d store' out'
  unfolding entry_turn
  process_did entry e f = rw e f

  pub message_did : (entry : Entry) → entry ≡ ProcessMessage → Did (message_turn clock verdict p s store) out d store' out' → Did (entry_turn entry clock verdict p s store) out d store' out'
  unfolding entry_turn
  message_did entry e f = rw e f
