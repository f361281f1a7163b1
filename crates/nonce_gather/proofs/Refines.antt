-- NonceGather on a response gives what the definition says of what the struct and the store stand for.
-- Assumes nothing.
use Rattle.std.specs.Prelude.{Some}
use Prim.Native.Nat.{ℕ}
use mathlib.Core.Path.{◌≡◌, refl, subst, ◌∙◌}
use mathlib.Core.Bool.{Bool, true, false, cond}
use mathlib.Core.List.{List}
use borrow.Author.Tests.{le-leb}
use lib.Dec.{leb}
use lib.ListN.{length}
use Rattle.layout.specs.declared.Ids.{Ids}
use Rattle.layout.specs.declared.SignatureType.{SignatureType}
use Rattle.layout.specs.Limits.{message_limit}
use Rattle.layout.specs.Messages.{NonceResponse}
use Rattle.state_table.specs.States.{type_in}
use Rattle.step_definition.specs.Coordinator.{Coordinator as Defined}
use Rattle.step_definition.specs.Coordinator.{commissioned, with_message}
use Rattle.step_definition.specs.Calls as A
use Rattle.step_definition.specs.Effects.{recv_key_ids, request_shares, share_request_of}
use Rattle.step_definition.specs.Questions.{question10}
use Rattle.step_definition.specs.NonceGather.{too_few, no_group_key, suffices, alike, record_verdict, on_record, on_nonces, gather_nonces}
use Rattle.state.specs.declared.fields.Coordinator.{Coordinator}
use Rattle.state.specs.Counts.{is_within_limits}
use Rattle.state.specs.View.{slots_of, view, root_bytes, position_of, reading, coordinator_of, standing_of, round_of, config_of}
use Rattle.state.specs.Setters.{set_records}
use Rattle.state.specs.Turns.{Refines}
use Rattle.state.proofs.Shape.{Shaped}
use Rattle.state.proofs.Within.{within, is_within}
use Rattle.state.proofs.Refines.{view_held, ask_refines}
use Rattle.state.proofs.Viewed.{message_read, message_viewed, no_shares_law, no_shares-within}
use Rattle.records.specs.declared.verdicts.Verdict.{Verdict}
use Rattle.records.specs.declared.verdicts.Verdict.TheVariants.{Wrong, Full, Nothing, Record}
use Rattle.records.specs.Records.{response_for, record_place, added_records, added_store}
use Rattle.records.specs.Verdicts.{verdict_of, meaning}
use Rattle.records.proofs.Decided.{found_record, decided}
use Rattle.share_request.specs.ShareRequest.{request_for}
use Rattle.share_request.specs.Asking.{with_current, shares_requested, share_request_turn}
use Rattle.nonce_gather.specs.NonceGather.{alike_in, received_keys, NoncesGathering, ResponseRecorded, record_turn, recorded_turn, verdict_turn, gather_turn}
use Rattle.nonce_gather.proofs.Recording.{seen, recorded, added_shaped, placed}

-- once a response to m is recorded
module _ (clock : ℕ) (t : SignatureType) (q : NonceResponse) (s : Coordinator) (store : List ℕ) {room : ℕ} (shaped : Shaped s)
    (long : length s.message.bytes ≡ message_limit) (b : s.commissioned ≡ true) (typed : type_in s.position.state ≡ Some t)
    (k : ResponseRecorded s store q.message room) where
  abbrev m : List ℕ
  m = q.message

  abbrev c : Defined
  c = coordinator_of s store

  abbrev r : ℕ
  r = record_place m s.records store

  abbrev root : List ℕ
  root = c.position.root

  alike_seen : alike q c ≡ alike_in m s store
  unfolding alike_in
  alike_seen = rw (found_record s store shaped k.within m k.known)

  current_within : is_within_limits (with_current m s) ≡ true
  current_within =
      let held = within s k.within in
      is_within (with_current m s) (record { config = held.config; message = le-leb _ _ k.short; records = held.records; shares = held.shares })

  requested-within : is_within_limits (shares_requested clock t m s) ≡ true
  unfolding shares_requested
  requested-within =
      let held = within (with_current m s) current_within in
      is_within (shares_requested clock t m s)
      (record { config = held.config; message = held.message; records = held.records; shares = no_shares-within s.config.count })

  requested_seen : coordinator_of (shares_requested clock t m s) store ≡ request_shares clock t root (with_message m c)
  unfolding shares_requested coordinator_of standing_of round_of position_of root_bytes
  requested_seen = rw (typed, message_read m k.short s long, no_shares_law (slots_of s.config) store)

  request_same : request_for (shares_requested clock t m s) store r m t ≡ share_request_of t root (alike q c) (request_shares clock t root (with_message m c))
  unfolding shares_requested coordinator_of position_of root_bytes alike_in
  request_same = rw (alike_seen, typed)

  requested_held : (shares_requested clock t m s).commissioned ≡ true
  unfolding shares_requested
  requested_held = b

  requested_viewed : view (shares_requested clock t m s) store ≡ commissioned (request_shares clock t root (with_message m c))
  requested_viewed = view_held (shares_requested clock t m s) store requested_held requested-within ∙ rw requested_seen

  request_refines : Refines (share_request_turn clock t q.signer_id m r s store) (on_record clock t root q c suffices)
  unfolding share_request_turn on_record
  request_refines =
      record {
        answer = rw request_same;
        events = rw request_same;
        after = requested_viewed;
      }

  verdicts : (enough held : Bool) → on_record clock t root q c (cond enough (cond held suffices no_group_key) too_few)
      ≡ cond enough (cond held (on_record clock t root q c suffices) (on_record clock t root q c no_group_key)) (on_record clock t root q c too_few)
  verdicts true true = refl
  verdicts true false = refl
  verdicts false held = refl

  pub record_refines : Refines (record_turn clock t q.signer_id m s store) (on_record clock t root q c (record_verdict q c))
  unfolding record_turn record_verdict on_record question10 coordinator_of standing_of config_of
  record_refines =
      rw (verdicts (leb c.standing.config.sign_threshold (length (recv_key_ids c.standing.config (alike q c)))) (question10 c))
      (ask_refines (leb s.config.sign_threshold (received_keys m s store)) (leb c.standing.config.sign_threshold (length (recv_key_ids c.standing.config (alike q c))))
      (rw alike_seen refl)
      (λ y. ask_refines s.keys.aggregate (question10 c) refl
      (λ z. request_refines)
      (λ z. record { answer = refl; events = refl; after = view_held (with_current m s) store b current_within ∙ rw (message_viewed m k.short s long store) }))
      (λ y. record { answer = refl; events = refl; after = view_held s store b k.within }))

module _ (clock : ℕ) (t : SignatureType) (ids : Ids) (id : ℕ) (m keys nonces : List ℕ) (s : Coordinator) (store : List ℕ) {room : ℕ} (shaped : Shaped s)
    (long : length s.message.bytes ≡ message_limit) (b : s.commissioned ≡ true) (typed : type_in s.position.state ≡ Some t)
    (g : NoncesGathering s store m keys nonces room) where
  abbrev q : NonceResponse
  q = response_for ids id m keys nonces

  by_verdict : (v : Verdict) → verdict_of s ids id store m keys nonces ≡ v
      → Refines (verdict_turn clock t ids id m keys nonces s store v)
      (on_nonces clock t (coordinator_of s store).position.root q (coordinator_of s store) (meaning v))
  unfolding verdict_turn on_nonces meaning recorded_turn coordinator_of
  by_verdict (Wrong n got expected) e = record { answer = refl; events = refl; after = view_held s store b g.within }
  by_verdict Full e = record { answer = refl; events = refl; after = view_held s store b g.within }
  by_verdict Nothing e = record { answer = refl; events = refl; after = view_held s store b g.within }
  by_verdict (Record r i) e =
      let after = set_records (added_records clock r i ids m keys nonces s.records) s in
      let store' = added_store r i m keys nonces s.records store in
      subst
      (λ (c : Defined). Refines (recorded_turn clock t r i ids id m keys nonces s store) (on_record clock t c.position.root q c (record_verdict q c)))
      (seen g clock ids id r i shaped e)
      (record_refines clock t q after store' (added_shaped s shaped r i (placed g clock ids id r i shaped e).row clock ids m keys nonces) long b typed
      (recorded g clock ids id r i shaped e))

  pub gather-refines :
      Refines (gather_turn clock t ids id m keys nonces s store) (gather_nonces clock t (coordinator_of s store).position.root q (coordinator_of s store))
  unfolding gather_turn
  gather-refines = rw (decided s store shaped g.within m ids id keys nonces) (by_verdict (verdict_of s ids id store m keys nonces) refl)
