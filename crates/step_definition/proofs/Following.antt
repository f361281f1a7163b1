-- The step follows the log: after an opening call, over a list without start, reset or commissioning, the group key held throughout.
-- Assumes nothing.
use Rattle.std.proofs.lemmas.Option.{none-some}
use Prim.Native.Nat.{ℕ}
use mathlib.Core.Path.{◌≡◌, refl, sym, ap, subst}
use mathlib.Core.Bool.{Bool, true, false, cond, not, ◌&&◌, ◌||◌, false≢true, and_assoc}
use mathlib.Core.List.{List, [], ◌∷◌}
use Rattle.std.specs.Prelude.{Option, Some, None}
use lib.Dec.{ltb, leb}
use lib.ListN.{length, length-map}
use Rattle.wire.proofs.Lists.{and_left, and_right}
use Rattle.layout.specs.Limits.{record_limit, store_length, answer_length}
use Rattle.layout.specs.Messages.{NonceRequest, NonceResponse, SignatureShareRequest, Message}
use Rattle.layout.specs.Messages.{nonce_request, nonce_response, signature_share_request, signature_share_response, dkg_begin, dkg_signer, dkg_coordinator}
use Rattle.layout.specs.Encode.{header}
use Rattle.layout.specs.Decode.{Decoded, taken, refused, decode}
use Rattle.step_definition.specs.Lists.{given, first}
use Rattle.step_definition.specs.Configuration.{configured}
use Rattle.step_definition.specs.Coordinator.{Coordinator, Standing, SignRoundInfo, SignerShares, Keys, Held, commissioned, responded}
use Rattle.step_definition.specs.Calls.{Entry, process, process_message, coordinator_key, aggregate_key, Request, commission, other, Call, Brought, brings, brought, failing, quiet}
use Rattle.step_definition.specs.Calls.{Operation, set_key, take_results, can_move, start_signing, receive, process_timeout, aggregated}
use Rattle.step_definition.specs.Calls.{reset, tell_arrivals}
use Rattle.step_definition.specs.Calls.{Answer, Event, share_request_in, Outcome, outcome}
use Rattle.step_definition.specs.Demand3.{Opens, opened_by, plain_operation, plain_request, group_key_in, Plain, first_share_request}
use Rattle.step_definition.specs.Effects.{recording, recv_key_ids}
use Rattle.step_definition.specs.Phases.{gathering_nonces}
use Rattle.step_definition.specs.Phases.{content_of, nonce_response_in}
use Rattle.step_definition.specs.Questions.{before, asks, question4, question5, question6, question7, question10, question13, question14, question19, question24, admitted, fires}
use Rattle.step_definition.specs.ResponseLog.{Opened, ResponseLog, entries_for, has_page, same_ids, late, enters, response_in, when, entry_of, keys_after, entered, logged, empty, share_request_for, completes, Place, or_later, log_after, first_named}
use Rattle.step_definition.specs.Run.{final}
use Rattle.step_definition.specs.Timeouts.{nonce_timeout, timeout, timeout_in}
use Rattle.step_definition.specs.NonceGather.{NonceVerdict, wrong_id, ignored, no_room, records, nonce_verdict, RecordVerdict, too_few, no_group_key, suffices, record_verdict, on_record, on_nonces}
use Rattle.step_definition.specs.Step.{message_in, on_message, on_entry, on_packet, on_results, on_arrivals, own, on_held, step_of}
use Rattle.step_definition.proofs.Cases.{cond_case, cond_both, given_both}
use Rattle.step_definition.proofs.Entries.{Signed, signed, GoodPages, logged_good, pages_of, has_page_law, entries_for_law, entered_record, keys-entered}
use Rattle.step_definition.proofs.Gathering.{GatheringCoordinator, gathering, from_before, freshly_gathers}
use Rattle.step_definition.proofs.Leaves.{opening}

-- the four things with other held keys
abbrev holding : Keys → Standing → Standing
holding keys s =
    record { config = s.config; dkg_end_messages = s.dkg_end_messages; keys = keys; malicious_signer_ids = s.malicious_signer_ids }

-- the round that o opened, as it gathers
abbrev pub round : Opened → List SignRoundInfo → Keys → GatheringCoordinator
round o rs keys =
    let r = o.request in
    record {
      standing = holding keys o.standing;
      ids = r.ids;
      signature_type = r.signature_type;
      root = r.root;
      message = r.message;
      records = rs;
      nonce_start = Some o.clock;
    }

-- whether a verdict is that the response is recorded
data Takes : NonceVerdict → Bool → Type 0 where
  not_current : {n got expected : ℕ} → Takes (wrong_id n got expected) false
  not_taken : Takes ignored false
  no_place : Takes no_room false
  is_taken : Takes records true

takes_and : {t x : Bool} {a b : NonceVerdict} → (t ≡ true → Takes a x) → (t ≡ false → Takes b false) → Takes (cond t a b) (t && x)
takes_and {t = true} p q = p refl
takes_and {t = false} p q = q refl

takes_not : {t : Bool} {a b : NonceVerdict} → (t ≡ true → Takes a false) → (t ≡ false → Takes b true) → Takes (cond t a b) (not t)
takes_not {t = true} p q = p refl
takes_not {t = false} p q = q refl

module _ (o : Opened) (ss : List SignerShares) (start : Option ℕ) where
  -- an outcome against the log: the share request that it names is sent, or it names none and the records are logged
  data Follows : Outcome → Option SignatureShareRequest → ResponseLog → Type 0 where
    sends :
        {a : Answer} {es : List Event} {h : Held} {r : SignatureShareRequest} {l : ResponseLog} → share_request_in es ≡ Some r
        → Follows (outcome a es h) (Some r) l
    gathers :
        {a : Answer} {es : List Event} {rs : List SignRoundInfo} {keys : Keys} → share_request_in es ≡ None
        → Follows (outcome a es (commissioned (gathering (round o rs keys) ss start))) None (record { keys = keys; pages = pages_of rs })

  module _ (rs : List SignRoundInfo) (keys : Keys) where
    abbrev pub gathered : Coordinator
    gathered = gathering (round o rs keys) ss start

    abbrev pub log : ResponseLog
    log = record { keys = keys; pages = pages_of rs }

    -- the tests from 16 on, in the log
    abbrev passes : NonceResponse → Bool
    passes q =
        same_ids q.ids o.request.ids
        && admitted o.standing.config o.standing.dkg_end_messages o.standing.malicious_signer_ids q
        && (has_page q.message (pages_of rs) || ltb (length (pages_of rs)) record_limit)
        && not (responded q.signer_id (entries_for q.message (pages_of rs)))

    -- 13 and 14 before them
    abbrev seals : Call → NonceResponse → Bool
    seals k q =
        let verify = o.standing.config.verify_packet_sigs in
        (not verify || keys.coordinator_public_key)
        && ((not verify || (configured o.standing.config q.signer_id && k.verdict)) && passes q)

    verdict_passes : (q : NonceResponse) → Takes (nonce_verdict q gathered) (passes q)
    unfolding nonce_verdict same_ids question19
    verdict_passes q =
        rw (and_assoc, and_assoc, and_assoc, and_assoc, has_page_law, entries_for_law, length-map)
        (search (takes_and, takes_not, not_current, not_taken, no_place, is_taken) depth 10)

    passes_signed : (q : NonceResponse) → passes q ≡ true → Signed o q
    passes_signed q h = signed o q (search (and_left, and_right)) (search (and_left, and_right))

    -- 4 to 7: the number of the one that is answered no, else what follows; 4 and 7 by their tests
    abbrev refused_or : Option ℕ → Outcome → Outcome
    refused_or n s = given n (λ (n : ℕ). failing n [] gathered) s

    abbrev four_or_seven : Bool → Bool → Option ℕ
    four_or_seven t4 t7 = cond t4 (cond t7 None (Some 7)) (Some 4)

    -- an outcome of which the log has nothing
    abbrev Unlogged : Outcome → Type 0
    Unlogged s = Follows s None log

    still : {a : Answer} → Unlogged (outcome a [] (commissioned gathered))
    unfolding first
    still = gathers refl

    unlogged_branch : {t : Bool} {a b : Outcome} → (t ≡ true → Unlogged a) → (t ≡ false → Unlogged b) → Unlogged (cond t a b)
    unlogged_branch {t = t} = cond_case Unlogged t

    the_nonces_late : Unlogged (nonce_timeout gathered)
    unfolding nonce_timeout
    the_nonces_late = search (unlogged_branch, still)

    -- an outcome by which an entry is made, or none
    abbrev Enters : Outcome → Option NonceResponse → Type 0
    Enters s e = Follows s (completes o (pages_of rs) e) (record { keys = keys; pages = entered e (pages_of rs) })

    -- an outcome for which q is entered exactly where x passes
    record Ends (q : NonceResponse) (s : Outcome) (x : Bool) : Type 0 where
      followed : Enters s (cond x (Some q) None)

    -- Each test of the step against its test in the log.
    module _ (q : NonceResponse) where
      left : {s : Outcome} → Unlogged s → Ends q s false
      unfolding completes
      left p = record { followed = p }

      out : {a : Answer} → Ends q (outcome a [] (commissioned gathered)) false
      out = left still

      ask_on : {t x : Bool} {a b : Outcome} → (t ≡ true → Ends q b x) → (t ≡ false → Ends q a false) → Ends q (cond t b a) (t && x)
      ask_on {t = true} f p = f refl
      ask_on {t = false} f p = p refl

      -- 4 and 7
      asked_on : (t4 t7 x : Bool) {s : Outcome} → Ends q s x → Ends q (refused_or (four_or_seven t4 t7) s) (t4 && (t7 && x))
      asked_on false t7 x p = out
      asked_on true false x p = out
      asked_on true true x p = p

      timed :
          (t x : Bool) {a b : Outcome} → Ends q a false → Ends q b x
          → Ends q (given (cond t (Some a) None) (λ (o : Outcome). o) b) (not t && x)
      timed true x p f = p
      timed false x p f = f

      module _ (held : keys.aggregate_public_key ≡ true) (good : GoodPages o (pages_of rs)) (k : Call) where
        abbrev recorded : RecordVerdict → Outcome
        recorded v = on_record k.clock o.request.signature_type o.request.root q (recording k.clock q gathered) v

        -- sent where the keys suffice, the group key being held
        chosen :
            (t u : Bool) {r : SignatureShareRequest} {l : ResponseLog} → u ≡ true → Follows (recorded suffices) (Some r) l
            → Follows (recorded too_few) None l → Follows (recorded (cond t (cond u suffices no_group_key) too_few)) (cond t (Some r) None) l
        chosen true true e p q = p
        chosen true false e p q = absurd (false≢true e)
        chosen false u e p q = q

        -- a response that passed is recorded and entered, and sent where the keys suffice
        recorded_on : Signed o q → Ends q (recorded (record_verdict q (recording k.clock q gathered))) true
        unfolding record_verdict on_record completes share_request_for question10 first
        recorded_on g =
            record
            { followed = rw (entered_record k.clock, entries_for_law, keys-entered o k.clock q rs g good) (chosen (leb o.standing.config.sign_threshold (length (recv_key_ids _ _))) keys.aggregate_public_key held (sends refl) (gathers refl)) }

        abbrev decided : NonceVerdict → Outcome
        decided v = on_nonces k.clock o.request.signature_type o.request.root q gathered v

        gathers_on : {v : NonceVerdict} {x : Bool} → Takes v x → (x ≡ true → Signed o q) → Ends q (decided v) x
        unfolding on_nonces
        gathers_on not_current g = out
        gathers_on not_taken g = out
        gathers_on no_place g = out
        gathers_on is_taken g = recorded_on (g refl)

        -- 13 and 14
        seals_on : Ends q (on_message k.clock k.verdict (nonce_response q) gathered) (seals k q)
        unfolding on_message message_in question13 question14 header
        seals_on =
            let rest : Ends q (decided (nonce_verdict q gathered)) (passes q) = gathers_on (verdict_passes q) (passes_signed q) in
            search (ask_on, out)

        -- the timeout fires where the log calls the call late
        fires_late : (t : Option ℕ) → fires k.clock (Some o.clock) t ≡ late process t o.clock k.clock
        unfolding fires late
        fires_late None = refl
        fires_late (Some t) = refl

        the_on_entry :
            (entry : Entry)
            → Ends q (on_entry entry k.clock k.verdict (nonce_response q) gathered) (not (late entry o.standing.config.timeouts.nonce o.clock k.clock) && (seals k q))
        unfolding timeout_in late
        the_on_entry process = rw (← fires_late) (timed (fires _ _ _) _ (left the_nonces_late) seals_on)
        the_on_entry process_message = seals_on

        -- the whole chain of tests
        hears :
            (entry : Entry)
            → Ends q (refused_or (four_or_seven (leb store_length k.store) (leb answer_length k.room)) (on_entry entry k.clock k.verdict (nonce_response q) gathered)) (enters o log k entry q)
        unfolding enters
        hears entry =
            simp (enters, and_assoc)
            (asked_on (leb store_length k.store) (leb answer_length k.room) _ (simp and_assoc at (the_on_entry entry)))

    -- Each call against the log.
    module _ (k : Call) where
      -- a call that sets keys
      sets :
          (t : Bool) (new : Keys)
          → Follows (refused_or (cond t None (Some 4)) (quiet (gathering (round o rs new) ss start))) None (record { keys = cond t new keys; pages = pages_of rs })
      unfolding first
      sets true new = gathers refl
      sets false new = gathers refl

      -- the aggregator's answer, with no job out
      jobless : (t : Bool) (s : Outcome) → Unlogged (refused_or (cond t (Some 6) (Some 4)) s)
      jobless true s = still
      jobless false s = still

      unless : (n : Option ℕ) {s : Outcome} → Unlogged s → Unlogged (refused_or n s)
      unless n p = given_both Unlogged n (λ n. still) p

      unless_own : (p : Operation) → Unlogged (own k p gathered) → Unlogged (on_held k p (commissioned gathered))
      unfolding on_held
      unless_own p l = unless (before k p gathered) l

      late_or : {s : Outcome} → Unlogged s → Unlogged (given (timeout k.clock gathered) (λ (o : Outcome). o) s)
      unfolding timeout_in
      late_or {s = s} p = cond_both (λ (x : Option Outcome). Unlogged (given x (λ (o : Outcome). o) s)) (fires _ _ _) the_nonces_late p

      -- a message that is no response
      unheard_message : (m : Message) → nonce_response_in (content_of m) ≡ None → Unlogged (on_message k.clock k.verdict m gathered)
      unfolding on_message message_in
      unheard_message m e =
          let rest : Unlogged (message_in k.clock (gathering_nonces o.request.signature_type) (content_of m) gathered) = rw e still in
          search (unlogged_branch, still)

      unheard-on :
          (entry : Entry) (m : Message) → nonce_response_in (content_of m) ≡ None
          → Unlogged (on_entry entry k.clock k.verdict m gathered)
      unheard-on process m e = late_or (unheard_message m e)
      unheard-on process_message m e = unheard_message m e

      module _ (held : keys.aggregate_public_key ≡ true) (good : GoodPages o (pages_of rs)) where
        -- a packet, by the response that its message is
        hears-packet :
            (entry : Entry) (m : Message) (n : Option ℕ) → n ≡ four_or_seven (leb store_length k.store) (leb answer_length k.room)
            → Enters (refused_or n (on_entry entry k.clock k.verdict m gathered)) (when (enters o log k entry) (nonce_response_in (content_of m)))
        unfolding completes
        hears-packet entry (nonce_request r) n e = unless n (unheard-on entry (nonce_request r) refl)
        hears-packet entry (nonce_response q) n e = rw e (hears q held good k entry).followed
        hears-packet entry (signature_share_request r) n e = unless n (unheard-on entry (signature_share_request r) refl)
        hears-packet entry (signature_share_response r) n e = unless n (unheard-on entry (signature_share_response r) refl)
        hears-packet entry (dkg_begin dkg) n e = unless n (unheard-on entry (dkg_begin dkg) refl)
        hears-packet entry (dkg_signer signer dkg) n e = unless n (unheard-on entry (dkg_signer signer dkg) refl)
        hears-packet entry (dkg_coordinator dkg) n e = unless n (unheard-on entry (dkg_coordinator dkg) refl)

        unpacks :
            (entry : Entry) (d : Decoded) (n : Option ℕ) → n ≡ four_or_seven (leb store_length k.store) (leb answer_length k.room)
            → Enters (refused_or n (on_packet entry k.clock k.verdict d gathered)) (when (enters o log k entry) (response_in d))
        unfolding on_packet response_in completes
        unpacks entry (taken m) n e = hears-packet entry m n e
        unpacks entry (refused x) n e = unless n still

        -- what the log says after a call
        abbrev Logging : Brought → Outcome → Type 0
        Logging b s =
            Follows s (completes o (pages_of rs) (entry_of o log k b))
            (record { keys = keys_after k b keys; pages = entered (entry_of o log k b) (pages_of rs) })

        follows : (p : Operation) → plain_operation p ≡ true → Logging (brings p) (on_held k p (commissioned gathered))
        unfolding on_held own before asks question4 question5 question6 question7 plain_operation entry_of keys_after completes on_results on_arrivals question24
        follows (set_key coordinator_key new) e = sets (leb store_length k.store) _
        follows (set_key aggregate_key new) e = sets (leb store_length k.store) _
        follows (take_results dkg ended) e = unless_own (take_results dkg ended) still
        follows (can_move to) e = unless_own (can_move to) still
        follows (start_signing s) e = absurd (false≢true e)
        follows (receive entry bytes) e = unpacks entry (decode bytes) _ refl
        follows process_timeout e = unless_own process_timeout (late_or still)
        follows (aggregated ok) e = jobless (leb store_length k.store) _
        follows reset e = absurd (false≢true e)
        follows tell_arrivals e = unless_own tell_arrivals still

        follows_request : (r : Request) → plain_request r ≡ true → Logging (brought r) (step_of k r (commissioned gathered))
        unfolding step_of plain_request
        follows_request (commission g) e = absurd (false≢true e)
        follows_request (other p) e = follows p e

  -- what is held has its records and keys in the log
  abbrev pub RecordsFollow : Held → ResponseLog → Type 0
  RecordsFollow h l = (rs : List SignRoundInfo) × (keys : Keys) × (h ≡ commissioned (gathered rs keys)) × (l ≡ log rs keys)

  -- over a list of calls: the first share request is the one that the log names; while there is none, the records are logged
  abbrev pub Logs : List Call → Held → ResponseLog → Type 0
  Logs ks h l =
      (first_share_request ks h ≡ first_named o l ks) × (first_share_request ks h ≡ None → RecordsFollow (final ks h) (log_after o l ks))

  not_later : (x : Option Place) → or_later None x ≡ None → x ≡ None
  unfolding or_later
  not_later None e = refl
  not_later (Some x) e = absurd (none-some _ (sym e))

  -- after a call that follows the log
  joins :
      {s : Outcome} {n : Option SignatureShareRequest} {l : ResponseLog} (ks : List Call) → Follows s n l → GoodPages o l.pages
      → Plain ks s.after
      → ((rs : List SignRoundInfo) (keys : Keys) → GoodPages o (pages_of rs) → Plain ks (commissioned (gathered rs keys)) → Logs ks (commissioned (gathered rs keys)) (log rs keys))
      → (or_later (share_request_in s.events) (first_share_request ks s.after) ≡ or_later n (first_named o l ks)) × (or_later (share_request_in s.events) (first_share_request ks s.after) ≡ None → RecordsFollow (final ks s.after) (log_after o l ks))
  unfolding or_later
  joins ks (sends e) good p ih = (rw e, λ z. absurd (none-some _ (sym (rw e at z))))
  joins ks (gathers {rs = rs} {keys = keys} e) good p ih =
      (rw e (ap (or_later None) (ih rs keys good p).0), λ z. (ih rs keys good p).1 (not_later _ (rw e at z)))

  logs :
      (ks : List Call) (rs : List SignRoundInfo) (keys : Keys) → GoodPages o (pages_of rs) → Plain ks (commissioned (gathered rs keys))
      → Logs ks (commissioned (gathered rs keys)) (log rs keys)
  unfolding first_share_request first_named final log_after logged group_key_in
  logs [] rs keys good p = (refl, λ e. (rs, keys, refl, refl))
  logs (k ∷ ks) rs keys good p =
      joins ks (follows_request rs keys k p.1 good k.request p.0) (logged_good o (log rs keys) k good) p.2 (logs ks)

-- from an opening call on
pub from-opening :
    (k : Call) (h : Held) (r : NonceRequest) (c : Coordinator) → Opens k h r c → (ks : List Call) → Plain ks (commissioned c)
    → Logs (opened_by k r c) c.round.signature_shares c.round.clocks.sign_start ks (commissioned c) (empty (opened_by k r c))
unfolding opened_by empty
from-opening k h r c o ks p =
    let l : Opened = opened_by k r c in
    let e : c ≡ from_before (round l [] c.standing.keys) c = freshly_gathers (opening k h r c o) in
    subst (λ (d : Coordinator). Logs l c.round.signature_shares c.round.clocks.sign_start ks (commissioned d) (empty l)) (sym e)
    (logs l c.round.signature_shares c.round.clocks.sign_start ks [] c.standing.keys tt (subst (λ (d : Coordinator). Plain ks (commissioned d)) e p))
