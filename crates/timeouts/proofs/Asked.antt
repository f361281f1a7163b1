-- 12 by the place of the current message's record, and the result that was written.
-- Assumes nothing.
use Rattle.std.specs.Prelude.{Ok}
use Prim.Native.Nat.{ℕ, ◌≤◌, ◌<◌}
use mathlib.Core.Path.{◌≡◌, refl}
use mathlib.Core.List.{List, []}
use borrow.Author.Tests.{lt-ltb, le-ltb}
use lib.ListN.{length, get_or}
use Rattle.layout.specs.Encode.{encode_nonce_timeout}
use Rattle.framing.specs.Writing.{Wrote, written, answer, buffer, Written}
use Rattle.state.specs.declared.answers.Class.TheVariants.{Result}
use Rattle.state.specs.declared.answers.Done.{Done}
use Rattle.state.specs.declared.fields.Coordinator.{Coordinator}
use Rattle.state.specs.View.{no_row}
use Rattle.state.specs.Turns.{Did, unless, refused_answer, sending_answer}
use Rattle.state.proofs.Turns.{refused_did, sent_did}
use Rattle.timeouts.specs.Named.{waiters_in, flagged_signers}
use Rattle.timeouts.specs.NonceTimeout.{current_place, record_asked, nonce_timeout_bytes, nonce_timeout_turn}

module _ (s : Coordinator) (store : List ℕ) (p : ℕ) (at : p ≡ current_place s store) where
  pub no_record_did : {r : Done} (out : List ℕ) → s.records.count ≤ p → r ≡ record { answer = refused_answer 12; after = s } → Did (nonce_timeout_turn s store) out r store out
  unfolding nonce_timeout_turn record_asked
  no_record_did out h d = refused_did store out _ (rw (← at, le-ltb p s.records.count h) refl) d

  abbrev bytes : List ℕ
  bytes = encode_nonce_timeout (waiters_in s.config (get_or s.records.rows p no_row)) (flagged_signers s.config s.marks.malicious)

  pub bytes_written : {out out' : List ℕ} {w : Written} → Wrote (written bytes) out w out' → w ≡ Ok (length bytes)
  unfolding answer
  bytes_written w = w.answered

  pub timeout-did :
      {r : Done} {n : ℕ} {out out' : List ℕ} {w : Written} → p < s.records.count → r ≡ record { answer = sending_answer Result n; after = s } → n ≡ length bytes
      → Wrote (written bytes) out w out' → Did (nonce_timeout_turn s store) out r store out'
  unfolding nonce_timeout_turn nonce_timeout_bytes record_asked unless buffer
  timeout-did h d e w = rw (← at, lt-ltb p s.records.count h) (sent_did [] store d e w.buffered)
