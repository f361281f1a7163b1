-- How starts, Idle's packets and timeouts end.
-- Assumes nothing.
use Prim.Native.Nat.{ℕ}
use mathlib.Core.Path.{◌≡◌, refl, sym}
use mathlib.Core.Bool.{Bool, false, false≢true}
use mathlib.Core.List.{List, map}
use borrow.Author.Tests.{eqb-true}
use lib.Dec.{eqb, leb, ltb}
use lib.ListN.{length, get_or}
use Rattle.layout.specs.declared.SignatureType.{SignatureType}
use Rattle.layout.specs.Limits.{message_limit}
use Rattle.layout.specs.LaidOut.{header_in, part_at}
use Rattle.state_table.specs.declared.State.TheVariants.{Idle, NonceRequest}
use Rattle.state_table.specs.States.{position, types_agree, same}
use Rattle.state_table.specs.Moves.{accepted, can_move_to}
use Rattle.step_definition.specs.Phases.{idling, phase_of}
use Rattle.step_definition.proofs.Cases.{cond_both}
use Rattle.step_definition.proofs.Phases.{in_idle}
use Rattle.state.specs.declared.fields.SignRoundInfo.{SignRoundInfo}
use Rattle.state.specs.declared.fields.Coordinator.{Coordinator}
use Rattle.state.specs.View.{no_row}
use Rattle.state.specs.Turns.{Turn, asked}
use Rattle.starts.specs.declared.naming.Start.{Start}
use Rattle.starts.specs.Starts.{start_named, start_requested, request_turn, named_turn, round_turn, asking_start, start_turn}
use Rattle.signer_ids.specs.Flags.{is_waiting}
use Rattle.timeouts.specs.NonceTimeout.{current_place, record_asked, nonce_timeout_turn}
use Rattle.share_timeout.specs.Exclusion.{excluded_in, too_few_keys}
use Rattle.share_timeout.specs.ShareTimeout.{insufficient_turn, retry_turn, excluded_turn, row_turn, share_timeout_turn}
use Rattle.process_timeout.specs.declared.dues.Due.{Due}
use Rattle.process_timeout.specs.declared.dues.Due.TheVariants.{Nothing, Nonces, Shares}
use Rattle.process_timeout.specs.Due.{due_of, due_turn, quiet_turn}
use Rattle.process_timeout.specs.ProcessTimeout.{asking_timeout, process_timeout_turn}
use Rattle.idle.specs.Idle.{start_in, iterated, idle_request_turn, idle_turn}
use Rattle.packet_entry.specs.declared.Entry.{Entry}
use Rattle.coordinator_theorems.specs.Host.{HostRequest, start, receive, process_timeout}
use Rattle.coordinator_theorems.specs.Refusals.{commissions, RefusalLeaves, idle, unheld, unmoved, otherwise}
use Rattle.coordinator_theorems.proofs.Ends.{Taken, Ended, took, refused, as_before, started, started_idle, excluded, retried, Bare, ends_unless, ends_cond}
use Rattle.coordinator_theorems.proofs.EndsCalls.{asked_bare}

-- whether the nonces may be asked for
abbrev moves_on : Start → Coordinator → Bool
moves_on by s = can_move_to (position s.position.state s.position.root) (position (NonceRequest by.signature_type) by.root)

-- From Idle a nonce request may always be made: 11 is never answered no there
idle_moves : (by : Start) (s : Coordinator) {A : Type 0} → s.position.state ≡ Idle → moves_on by s ≡ false → A
unfolding can_move_to accepted same types_agree
idle_moves by s e q = absurd (false≢true (sym (rw e at q)))

module _ (clock : ℕ) (s : Coordinator) (store : List ℕ) where
  -- a round of a struct s' that is s, or s with Idle's iteration
  round-ends :
      {q : HostRequest} (m : List ℕ) (by : Start) (s' : Coordinator) → RefusalLeaves clock s store q 10 s' store
      → (moves_on by (start_named m by.sign_id s') ≡ false → RefusalLeaves clock s store q 11 (start_named m by.sign_id s') store)
      → Taken s store q (start_requested clock by.signature_type by.root (start_named m by.sign_id s')) store
      → Ended clock q s store (round_turn clock m by s' store)
  unfolding round_turn named_turn request_turn
  round-ends m by s' ten eleven taken =
      ends_cond s'.keys.aggregate
      (λ e. ends_cond (moves_on by (start_named m by.sign_id s')) (λ f. took refl taken) (λ f. refused (eleven f)))
      (λ e. refused ten)

  pub start_ends : (m : List ℕ) (by : Start) (room : ℕ) → Ended clock (start m by) s store (start_turn clock m by room s store)
  unfolding start_turn start_named
  start_ends m by room =
      ends_unless refl (asked asking_start (length store) room s) (asked_bare asking_start (length store) room s)
      (ends_cond (leb (length m) message_limit)
      (λ e. round-ends m by s (unheld m by) (λ f. unmoved m by) (started clock))
      (λ e. refused (otherwise (start m by) 9 refl refl)))

  module _ (entry : Entry) (p : List ℕ) where
    idle-request-ends :
        phase_of s.position.state ≡ idling → (header_in p).kind ≡ 1
        → Ended clock (receive entry p) s store (idle_request_turn clock p s store)
    unfolding idle_request_turn iterated start_named
    idle-request-ends e one =
        let n = (header_in p).ids.sign_iter_id in
        ends_cond (eqb (header_in p).ids.sign_id s.ids.sign_id) (λ f. took refl as_before)
        (λ f. round-ends (part_at p 32) (start_in p) (iterated n s) (idle entry p e one)
        (λ g. idle_moves (start_in p) (start_named (part_at p 32) (start_in p).sign_id (iterated n s)) (in_idle e) g)
        (started_idle clock n))

    pub idle_ends : phase_of s.position.state ≡ idling → Ended clock (receive entry p) s store (idle_turn clock p s store)
    unfolding idle_turn
    idle_ends e =
        ends_cond (eqb (header_in p).kind 1) (λ f. idle-request-ends e (eqb-true _ _ f))
        (λ f. ends_cond (eqb (header_in p).kind 5)
        (λ g. ends_cond (eqb (header_in p).ids.dkg_id s.ids.dkg_id) (λ h. took refl as_before)
        (λ h. refused (otherwise (receive entry p) 15 refl refl)))
        (λ g. took refl as_before))

  -- timeouts, of any call that tests them
  module _ (q : HostRequest) (other : commissions q ≡ false) where
    record_bare : Bare (record_asked s store)
    unfolding record_asked
    record_bare = cond_both Bare (ltb (current_place s store) s.records.count) tt refl

    nonce_timeout_ends : Ended clock q s store (nonce_timeout_turn s store)
    unfolding nonce_timeout_turn
    nonce_timeout_ends = ends_unless other (record_asked s store) record_bare (took refl as_before)

    row_ends : (t : SignatureType) (row : SignRoundInfo) → Ended clock q s store (row_turn clock t row s store)
    unfolding row_turn excluded_turn insufficient_turn retry_turn request_turn
    row_ends t row =
        let waits = map is_waiting row.slots in
        let s' = excluded_in waits s in
        ends_cond (too_few_keys s'.marks.malicious s') (λ e. took refl (excluded waits)) (λ e. took refl (retried clock t waits))

    share_timeout_ends : (t : SignatureType) → Ended clock q s store (share_timeout_turn clock t s store)
    unfolding share_timeout_turn
    share_timeout_ends t = ends_unless other (record_asked s store) record_bare (row_ends t (get_or s.records.rows (current_place s store) no_row))

    pub due_ends : (due : Due) (rest : Turn) → Ended clock q s store rest → Ended clock q s store (due_turn clock due s store rest)
    unfolding due_turn
    due_ends Nothing rest k = k
    due_ends Nonces rest k = nonce_timeout_ends
    due_ends (Shares t) rest k = share_timeout_ends t

  pub process_timeout_ends : (room : ℕ) → Ended clock process_timeout s store (process_timeout_turn clock room s store)
  unfolding process_timeout_turn
  process_timeout_ends room =
      ends_unless refl (asked asking_timeout (length store) room s) (asked_bare asking_timeout (length store) room s)
      (due_ends process_timeout refl (due_of clock s) (quiet_turn s store) (took refl as_before))
