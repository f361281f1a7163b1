-- What was done once a response was recorded, by its message's keys and the group key; and what each verdict came to.
-- Assumes nothing.
use Prim.Native.Nat.{ℕ, ◌≤◌, ◌<◌}
use mathlib.Core.Path.{◌≡◌}
use mathlib.Core.Bool.{true, false}
use mathlib.Core.List.{List}
use borrow.Author.Tests.{le-leb, lt-leb}
use lib.ListN.{length, get_or}
use Rattle.layout.specs.declared.Ids.{Ids}
use Rattle.layout.specs.declared.SignatureType.{SignatureType}
use Rattle.step_definition.specs.Effects.{recv_key_ids}
use Rattle.state.specs.declared.answers.Class.TheVariants.{Error}
use Rattle.state.specs.declared.answers.Done.{Done}
use Rattle.state.specs.declared.fields.Coordinator.{Coordinator}
use Rattle.state.specs.Slots.{collect}
use Rattle.state.specs.View.{slots_of, config_of, row_of, held_in, no_row}
use Rattle.state.specs.Turns.{Did, plain_answer, refused_answer, mismatched_answer}
use Rattle.state.proofs.Turns.{plain_did, failing_did, error_did, mismatched_did, answered_no, answered_yes}
use Rattle.records.specs.declared.verdicts.Verdict.{Verdict}
use Rattle.records.specs.declared.verdicts.Verdict.TheVariants.{Wrong, Full, Nothing, Record}
use Rattle.records.specs.Records.{record_place}
use Rattle.records.specs.Verdicts.{verdict_of}
use Rattle.share_request.specs.Asking.{with_current, share_request_turn}
use Rattle.nonce_gather.specs.NonceGather.{alike_in, record_turn, recorded_turn, verdict_turn, gather_turn}

module _ (clock : ℕ) (t : SignatureType) (id : ℕ) (m : List ℕ) (s : Coordinator) (store : List ℕ) (r : ℕ) (at : r ≡ record_place m s.records store)
    (n : ℕ) (counted : n ≡ length (recv_key_ids (config_of s.config) (collect (held_in r (get_or s.records.rows r no_row).message store (get_or s.records.rows r no_row).slots) (slots_of s.config))))
    {d : Done} {out : List ℕ} where
  pub too_few_did : n < s.config.sign_threshold → d ≡ record { answer = plain_answer; after = s } → Did (record_turn clock t id m s store) out d store out
  unfolding record_turn alike_in row_of
  too_few_did l e = rw (← at, ← counted, lt-leb _ _ l) (plain_did _ store out e)

  module _ (enough : s.config.sign_threshold ≤ n) where
    pub no-key-did :
        (u : Coordinator) → s.keys.aggregate ≡ false → u ≡ with_current m s → d ≡ record { answer = refused_answer 10; after = u }
        → Did (record_turn clock t id m s store) out d store out
    unfolding record_turn alike_in row_of
    no-key-did u k e f = rw (← at, ← counted, le-leb _ _ enough, ← e) (answered_no s.keys.aggregate _ _ k (failing_did _ store out f))

    pub asked-did :
        (out' : List ℕ) → s.keys.aggregate ≡ true → Did (share_request_turn clock t id m r s store) out d store out'
        → Did (record_turn clock t id m s store) out d store out'
    unfolding record_turn alike_in row_of
    asked-did out' k e = rw (← at, ← counted, le-leb _ _ enough) (answered_yes s.keys.aggregate _ _ k e)

module _ (clock : ℕ) (t : SignatureType) (ids : Ids) (id : ℕ) (m keys nonces : List ℕ) (s : Coordinator) (store : List ℕ)
    (v : Verdict) (decided : v ≡ verdict_of s ids id store m keys nonces) {d : Done} {out : List ℕ} where
  pub wrong-did :
      (n got expected : ℕ) → v ≡ Wrong n got expected → d ≡ record { answer = mismatched_answer Error n got expected; after = s }
      → Did (gather_turn clock t ids id m keys nonces s store) out d store out
  unfolding gather_turn verdict_turn
  wrong-did n got expected e f = rw (← decided, e) (mismatched_did store out f)

  pub full_did : v ≡ Full → d ≡ record { answer = refused_answer 19; after = s } → Did (gather_turn clock t ids id m keys nonces s store) out d store out
  unfolding gather_turn verdict_turn
  full_did e f = rw (← decided, e) (error_did store out f)

  pub nothing_did : v ≡ Nothing → d ≡ record { answer = plain_answer; after = s } → Did (gather_turn clock t ids id m keys nonces s store) out d store out
  unfolding gather_turn verdict_turn
  nothing_did e f = rw (← decided, e) (plain_did _ store out f)

  pub record-did :
      (r i : ℕ) (store' out' : List ℕ) → v ≡ Record r i → Did (recorded_turn clock t r i ids id m keys nonces s store) out d store' out'
      → Did (gather_turn clock t ids id m keys nonces s store) out d store' out'
  unfolding gather_turn verdict_turn
  record-did r i store' out' e f = rw (← decided, e) f
