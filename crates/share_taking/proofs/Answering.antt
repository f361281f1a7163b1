-- What taking shares asks, and what it did.
-- Assumes nothing.
use Rattle.std.specs.Prelude.{Ok}
use Prim.Native.Nat.{ℕ, ◌≤◌}
use mathlib.Core.Path.{◌≡◌}
use mathlib.Core.Bool.{Bool, true, false}
use mathlib.Core.List.{List, []}
use native.Mathlib.Omega.{arith}
use borrow.Author.Tests.{leb-true}
use lib.ListN.{length, take, get_or}
use Rattle.layout.specs.Limits.{message_limit}
use Rattle.layout.specs.declared.Header.{Header}
use Rattle.layout.specs.declared.SignatureType.{SignatureType}
use Rattle.layout.specs.LaidOut.{parts_from}
use Rattle.framing.specs.Writing.{Wrote, written, Written}
use Rattle.step_definition.specs.SigShareGather.{any_waits}
use Rattle.state.specs.declared.answers.Done.{Done}
use Rattle.state.specs.declared.fields.Coordinator.{Coordinator}
use Rattle.state.specs.Counts.{is_within_limits}
use Rattle.state.specs.Setters.{set_shares, set_job}
use Rattle.state.specs.View.{slots_of, row_of, no_row, no_shares}
use Rattle.state.specs.Turns.{Did, plain_answer, handing_answer}
use Rattle.state.proofs.Turns.{plain_did, handed_did, written_length, written_bytes, answered_yes}
use Rattle.state.proofs.Within.{within}
use Rattle.state.proofs.Shape.{Shaped}
use Rattle.shares.specs.Shares.{kept_store, kept_shares}
use Rattle.shares.proofs.Recorded.{kept_within, kept_length}
use Rattle.signing_job.specs.SigningJob.{job_bytes, job_mark}
use Rattle.share_taking.specs.Taking.{SharesRecorded, job_turn, Taking, take_turn}

pub message_short : (s : Coordinator) → is_within_limits s ≡ true → s.message.len ≤ message_limit
message_short s w = leb-true s.message.len message_limit (within s w).message

-- the job, with the mark beside it
pub job_did :
    (t : SignatureType) (id r : ℕ) (s : Coordinator) (store : List ℕ) (mark : Bool) {d : Done} {n : ℕ} {out out' : List ℕ} {w : Written}
    → mark ≡ job_mark s store r
    → d ≡ record { answer = handing_answer mark n; after = set_job true s }
    → Wrote (written (job_bytes s store r (take s.message.len s.message.bytes) t)) out w out' → w ≡ Ok n → Did (job_turn t id r s store) out d store out'
unfolding job_turn
job_did t id r s store mark m d wrote e = rw (← m) (handed_did _ store d (written_length wrote e) (written_bytes wrote))

-- a freed waiter's good shares
module _ (t : SignatureType) (p : List ℕ) (h : Header) (r i : ℕ) (s : Coordinator) (store : List ℕ) where
  abbrev parts : List (List ℕ)
  parts = parts_from p 32 h.pairs

  abbrev kept : Coordinator
  kept = set_shares (kept_shares i parts s.shares) s

  module _ {d : Done} {out : List ℕ} where
    pub held_did : (get_or s.shares.slots i no_shares).held ≡ true → d ≡ record { answer = plain_answer; after = s } → Did (take_turn t p h r i s store) out d store out
    unfolding take_turn
    held_did e f = answered_yes (get_or s.shares.slots i no_shares).held _ _ e (plain_did [] store out f)

    module _ (free : (get_or s.shares.slots i no_shares).held ≡ false) (waits : Bool) (asked : waits ≡ any_waits (row_of (slots_of s.config) store r (get_or s.records.rows r no_row)).sign_wait_signer_ids) where
      pub others_did : (u : Coordinator) (store' : List ℕ) → waits ≡ true → u ≡ kept → store' ≡ kept_store i parts store → d ≡ record { answer = plain_answer; after = u }
          → Did (take_turn t p h r i s store) out d store' out
      unfolding take_turn
      others_did u store' e k z f = rw (free, ← asked, e, ← k, ← z) (plain_did _ store' out f)

      pub last_did : (u : Coordinator) (store' out' : List ℕ) → waits ≡ false → u ≡ kept → store' ≡ kept_store i parts store → Did (job_turn t h.signer_id r u store') out d store' out'
          → Did (take_turn t p h r i s store) out d store' out'
      unfolding take_turn
      last_did u store' out' e k z f = rw (free, ← asked, e, ← k, ← z) f

  -- once they are kept, what the job asks holds
  pub taken : {room : ℕ} → Shaped s → (get_or s.shares.slots i no_shares).held ≡ false → Taking s store p h r i room → SharesRecorded kept r (length (kept_store i parts store)) room
  taken shaped free g =
      record {
        within = kept_within s store shaped g.within g.stored h.signer_id i g.found free parts g.shares;
        known = g.known;
        stored = omega (arith, kept_length s store shaped g.within g.stored h.signer_id i g.found free parts g.shares, g.stored);
        wide = g.wide;
      }
