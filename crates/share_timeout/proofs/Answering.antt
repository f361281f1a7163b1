-- What a share timeout did: 12, too few keys, or a retry.
-- Assumes nothing.
use Prim.Native.Nat.{ℕ, ◌<◌, ◌≤◌}
use mathlib.Core.Path.{◌≡◌, refl}
use mathlib.Core.Bool.{Bool, true, false}
use mathlib.Core.List.{List, map}
use borrow.Author.Tests.{lt-ltb, le-ltb}
use lib.ListN.{get_or}
use Rattle.layout.specs.declared.SignatureType.{SignatureType}
use Rattle.state.specs.declared.answers.Done.{Done}
use Rattle.state.specs.declared.fields.Coordinator.{Coordinator}
use Rattle.state.specs.Counts.{is_within_limits}
use Rattle.state.specs.View.{no_row}
use Rattle.state.specs.Turns.{Did, unless, refused_answer}
use Rattle.state.proofs.Turns.{refused_did}
use Rattle.signer_ids.specs.Flags.{is_waiting}
use Rattle.timeouts.specs.Named.{flagged_signers}
use Rattle.starts.specs.Starts.{request_turn}
use Rattle.timeouts.specs.NonceTimeout.{current_place, record_asked}
use Rattle.share_timeout.specs.Exclusion.{excluded_in, too_few_keys}
use Rattle.share_timeout.specs.ShareTimeout.{insufficient_turn, retry_turn, excluded_turn, new_malicious, row_turn, share_timeout_turn}

-- marks are nothing that 4 counts
pub excluded_within : (waits : List Bool) (s : Coordinator) → is_within_limits s ≡ true → is_within_limits (excluded_in waits s) ≡ true
unfolding excluded_in is_within_limits
excluded_within waits s w = w

module _ (clock : ℕ) (t : SignatureType) (s : Coordinator) (store : List ℕ) (p : ℕ) (at : p ≡ current_place s store) {d : Done} {out : List ℕ} where
  pub no_record_did : s.records.count ≤ p → d ≡ record { answer = refused_answer 12; after = s } → Did (share_timeout_turn clock t s store) out d store out
  unfolding share_timeout_turn record_asked
  no_record_did h e = refused_did store out _ (rw (← at, le-ltb p s.records.count h) refl) e

  module _
      (h : p < s.records.count) (waits : List Bool) (waiting : waits ≡ map is_waiting (get_or s.records.rows p no_row).slots)
      (u : Coordinator) (excluded : u ≡ excluded_in waits s) (few : Bool) (counted : few ≡ too_few_keys u.marks.malicious u)
    where
      pub insufficient-did :
          few ≡ true → (out' : List ℕ) → Did (insufficient_turn (flagged_signers u.config u.marks.malicious) (new_malicious (get_or s.records.rows p no_row) s) u store) out d store out'
          → Did (share_timeout_turn clock t s store) out d store out'
      unfolding share_timeout_turn record_asked unless row_turn excluded_turn
      insufficient-did y out' e = rw (← at, lt-ltb p s.records.count h, ← waiting, ← excluded, ← counted, y) e

      pub retry-did :
          few ≡ false → (out' : List ℕ) → Did (request_turn clock t u.position.root u store) out d store out'
          → Did (share_timeout_turn clock t s store) out d store out'
      unfolding share_timeout_turn record_asked unless row_turn excluded_turn retry_turn
      retry-did n out' e =
          rw (← at, lt-ltb p s.records.count h, ← waiting, ← excluded, ← counted, n)
          (record { exact = e.exact; answered = e.answered; after = e.after; stored = e.stored; buffered = e.buffered })
