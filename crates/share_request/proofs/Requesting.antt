-- What `request_sig_shares` asks of the writer, and what it did.
-- Assumes nothing.
use Rattle.std.specs.Prelude.{Ok}
use Prim.Native.Nat.{ℕ}
use mathlib.Core.Path.{◌≡◌}
use mathlib.Core.List.{List}
use Rattle.layout.specs.declared.SignatureType.{SignatureType}
use Rattle.framing.specs.Writing.{Wrote, written, Written}
use Rattle.state.specs.declared.answers.Class.TheVariants.{Packet}
use Rattle.state.specs.declared.answers.Done.{Done}
use Rattle.state.specs.declared.fields.Coordinator.{Coordinator}
use Rattle.state.specs.Turns.{Did, sending_answer}
use Rattle.state.proofs.Turns.{sent_did, written_length, written_bytes}
use Rattle.state.proofs.Within.{within, config_few}
use Rattle.share_request.specs.ShareRequest.{Sendable, request_bytes}
use Rattle.share_request.specs.Asking.{shares_requested, Known, share_request_turn}

module _ (clock : ℕ) (t : SignatureType) (m : List ℕ) (r : ℕ) (s after : Coordinator) (requested : after ≡ shares_requested clock t m s) where
  pub sendable : {store message room : ℕ} → Known s r store message room → Sendable after r store message room
  unfolding shares_requested
  sendable k =
      rw requested
      (record { signers = config_few s (within s k.within); row = k.row; within = k.row_within; stored = k.stored; short = k.short; wide = k.wide })

  pub request_did :
      {d : Done} {n : ℕ} {out out' : List ℕ} {w : Written} (id : ℕ) (store : List ℕ) → d ≡ record { answer = sending_answer Packet n; after = after }
      → Wrote (written (request_bytes after store r m t)) out w out' → w ≡ Ok n → Did (share_request_turn clock t id m r s store) out d store out'
  unfolding share_request_turn
  request_did id store d wrote e = rw (← requested) (sent_did _ store d (written_length wrote e) (written_bytes wrote))
