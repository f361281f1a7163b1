-- Taking a waiter's good shares gives what the definition says of what the struct and the store stand for.
-- Assumes nothing.
use Rattle.std.specs.Prelude.{Some}
use Prim.Native.Nat.{ℕ, ◌<◌}
use mathlib.Core.Path.{◌≡◌, refl, sym, ap, ◌∙◌}
use mathlib.Core.Bool.{Bool, true, false, cond}
use mathlib.Core.List.{List, [], ◌∷◌}
use native.Mathlib.Omega.{arith}
use lib.ListN.{length, take, get_or}
use Rattle.layout.specs.Limits.{signer_limit}
use Rattle.layout.specs.declared.SignatureType.{SignatureType}
use Rattle.layout.specs.LaidOut.{header_in, parts_from}
use Rattle.layout.specs.Messages.{NonceResponse, SignatureShareResponse}
use Rattle.layout.specs.Decode.{share_response_in}
use Rattle.pieces.proofs.Given.{live_at}
use Rattle.state_table.specs.States.{type_in}
use Rattle.step_definition.specs.Lists.{is_some}
use Rattle.step_definition.specs.Coordinator as C
use Rattle.step_definition.specs.Calls as A
use Rattle.step_definition.specs.Effects.{keeping, job_of, whole}
use Rattle.step_definition.specs.SigShareGather.{already_held, others, last, any_waits, take_verdict, responders, on_take}
use Rattle.state.specs.declared.fields.SignRoundInfo.{SignRoundInfo}
use Rattle.state.specs.declared.fields.Coordinator.{Coordinator}
use Rattle.state.specs.Slots.{signer_slot}
use Rattle.state.specs.Counts.{is_within_limits, row_within_limits}
use Rattle.state.specs.Setters.{set_shares, set_job}
use Rattle.state.specs.View.{message_at, record_bytes, shares_start, shares_at_place, share_keys_at, ids_of, slots_of, no_row, no_shares, shares_of, row_of, view, coordinator_of, round_of, standing_of}
use Rattle.state.specs.Turns.{Refines}
use Rattle.state.proofs.SignerSlots.{slots-live, slot_in, in_all}
use Rattle.state.proofs.Collect.{when_is}
use Rattle.state.proofs.Store.{Same, same_part}
use Rattle.state.proofs.Within.{Good, within, config_few, records_few, rows_within}
use Rattle.state.proofs.Arrays.{all_get}
use Rattle.state.proofs.Shape.{Shaped}
use Rattle.state.proofs.Refines.{view_held, ask_refines}
use Rattle.records.specs.Records.{record_place}
use Rattle.records.proofs.AddResponse.{row_same}
use Rattle.records.proofs.Decided.{found_record}
use Rattle.shares.specs.Shares.{kept_store, kept_shares}
use Rattle.shares.proofs.Parts.{all_whole}
use Rattle.shares.proofs.Apart.{below, shares-apart}
use Rattle.shares.proofs.Recorded.{kept_within, shares_recorded}
use Rattle.signing_job.specs.SigningJob.{responses, shares_held, job_for, job_mark}
use Rattle.signing_job.proofs.Found.{Found, found}
use Rattle.signing_job.proofs.Viewed.{shares_viewed, job_viewed}
use Rattle.share_taking.specs.Taking.{Taking, job_turn, take_turn}

abbrev Ten : SignRoundInfo → Type 0
Ten row = length row.slots ≡ signer_limit

-- a record that counts has ten slots and short lists
pub row-good : (s : Coordinator) (r : ℕ) → Shaped s → is_within_limits s ≡ true → r < s.records.count → Good s.config.count (get_or s.records.rows r no_row)
row-good s r shaped w h =
    let few = records_few s (within s w) in
    let four = shaped.rows in
    record {
      ten = all_get Ten s.records.rows r no_row (omega arith) shaped.slots;
      within = live_at (row_within_limits s.config.count) s.records.rows s.records.count r no_row h (omega arith) (rows_within s (within s w));
    }

-- good shares of a waiter that is freed
module _ (t : SignatureType) (p : List ℕ) (r i : ℕ) (s : Coordinator) (store : List ℕ) {room : ℕ} (shaped : Shaped s) (b : s.commissioned ≡ true)
    (typed : type_in s.position.state ≡ Some t) (at : r ≡ record_place (take s.message.len s.message.bytes) s.records store) (g : Taking s store p (header_in p) r i room) where
  abbrev c : C.Coordinator
  c = coordinator_of s store

  abbrev q : SignatureShareResponse
  q = share_response_in p

  abbrev id : ℕ
  id = (header_in p).signer_id

  abbrev parts : List (List ℕ)
  parts = parts_from p 32 (header_in p).pairs

  abbrev row : SignRoundInfo
  row = get_or s.records.rows r no_row

  abbrev kept : Coordinator
  kept = set_shares (kept_shares i parts s.shares) s

  abbrev store' : List ℕ
  store' = kept_store i parts store

  -- the current message's record
  record_seen : C.current_record c ≡ Some (row_of (slots_of s.config) store r row)
  unfolding coordinator_of round_of
  record_seen = rw at (found_record s store shaped g.within _ (rw (← at) g.known))

  -- held already?
  held_seen : is_some (C.shares_by id c.round.signature_shares) ≡ (get_or s.shares.slots i no_shares).held
  held_seen =
      let slot = get_or s.shares.slots i no_shares in
      let by_id = in_all (Found store s.shares (shares_held (slots_of s.config) store s.shares)) (slot_in id 0 (ids_of s.config) i g.found) (found store s.shares s.config) in
      rw (← shares_viewed s store r) (ap is_some by_id ∙ when_is slot.held (shares_of store (signer_slot id i) slot))

  -- the record, beside the shares that are written
  row_kept : row_of (slots_of s.config) store r row ≡ row_of (slots_of s.config) store' r row
  row_kept =
      let in_limits = within s g.within in
      let few = records_few s in_limits in
      let known = g.known in
      let apart : Same 0 shares_start store store' = shares-apart (shares_at_place i) (share_keys_at i) parts store (all_whole parts g.shares.whole) (below (omega arith)) (below (omega arith)) in
      row_same (slots_of s.config) s.config.count (config_few s in_limits) (slots-live s.config) store store' r row (row-good s r shaped g.within known)
      (same_part (message_at r) record_bytes apart (omega arith) (omega arith))

  module _ (free : (get_or s.shares.slots i no_shares).held ≡ false) where
    keeps : coordinator_of kept store' ≡ keeping q c
    unfolding share_response_in
    keeps = shares_recorded s store shaped g.within g.stored id i g.found free parts g.shares q refl refl

    keeps_within : is_within_limits kept ≡ true
    keeps_within = kept_within s store shaped g.within g.stored id i g.found free parts g.shares

    others_refine : Refines (record { answer = A.plain; events = A.shares_taken id ∷ []; after = kept; store = store' }) (on_take t c.position.root q c others)
    unfolding on_take share_response_in
    others_refine = record { answer = refl; events = refl; after = view_held kept store' b keeps_within ∙ rw keeps }

    responders_seen : responses (slots_of s.config) store' r row ≡ responders c
    responders_seen = rw (record_seen, row_kept)

    job_same : job_for kept store' r (take s.message.len s.message.bytes) t ≡ job_of t c.position.root (responders c) (keeping q c)
    job_same =
        job_viewed kept store' r t typed
        ∙ ap (λ (qs : List NonceResponse). job_of t (coordinator_of kept store').position.root qs (coordinator_of kept store')) responders_seen
        ∙ ap (λ (x : C.Coordinator). job_of t x.position.root (responders c) x) keeps

    mark_same : job_mark kept store' r ≡ whole (responders c) (keeping q c).round.signature_shares
    mark_same = rw (responders_seen, shares_viewed kept store' r, keeps)

    -- a job is out then
    job_within : is_within_limits (set_job true kept) ≡ true
    unfolding is_within_limits
    job_within = keeps_within

    job_out : coordinator_of (set_job true kept) store' ≡ C.with_job true (coordinator_of kept store')
    unfolding coordinator_of standing_of round_of
    job_out = refl

    out_seen : view (set_job true kept) store' ≡ C.commissioned (C.with_job true (keeping q c))
    out_seen = view_held (set_job true kept) store' b job_within ∙ ap C.commissioned (job_out ∙ ap (C.with_job true) keeps)

    last_refines : Refines (job_turn t id r kept store') (on_take t c.position.root q c last)
    unfolding job_turn on_take share_response_in
    last_refines = record { answer = rw (mark_same, job_same); events = rw job_same; after = out_seen }

  verdicts : (held waits : Bool) → on_take t c.position.root q c (cond held already_held (cond waits others last))
      ≡ cond held (on_take t c.position.root q c already_held) (cond waits (on_take t c.position.root q c others) (on_take t c.position.root q c last))
  verdicts true waits = refl
  verdicts false true = refl
  verdicts false false = refl

  pub take_refines : Refines (take_turn t p (header_in p) r i s store) (on_take t c.position.root q c (take_verdict q c))
  unfolding take_turn take_verdict on_take share_response_in
  take_refines =
      rw (verdicts (is_some (C.shares_by id c.round.signature_shares)) (any_waits (C.waiters_of (C.current_record c))))
      (ask_refines (get_or s.shares.slots i no_shares).held (is_some (C.shares_by id c.round.signature_shares)) (sym held_seen)
      (λ h. record { answer = refl; events = refl; after = view_held s store b g.within })
      (λ free. ask_refines (any_waits (row_of (slots_of s.config) store r row).sign_wait_signer_ids) (any_waits (C.waiters_of (C.current_record c))) (rw record_seen refl)
      (λ y. others_refine free)
      (λ y. last_refines free)))
