-- How a share response ends.
-- Assumes nothing.
use Prim.Native.Nat.{ℕ, ◌≤◌}
use mathlib.Core.Path.{◌≡◌, refl}
use mathlib.Core.Bool.{false}
use mathlib.Core.List.{List}
use Rattle.std.specs.Prelude.{Some}
use native.Mathlib.Omega.{arith}
use lib.Dec.{eqb}
use lib.ListN.{get_or}
use Rattle.layout.specs.declared.SignatureType.{SignatureType}
use Rattle.layout.specs.LaidOut.{header_in, parts_from}
use Rattle.layout.specs.Messages.{SignatureShareResponse}
use Rattle.layout.specs.Decode.{share_response_in}
use Rattle.validity.specs.Keys.{listed, same_set}
use Rattle.step_definition.specs.Effects.{share_key_ids}
use Rattle.step_definition.specs.Phases.{gathering_shares, phase_of}
use Rattle.step_definition.specs.SigShareGather.{any_waits}
use Rattle.step_definition.proofs.Cases.{cond_both, given_case}
use Rattle.state.specs.declared.fields.Coordinator.{Coordinator}
use Rattle.state.specs.View.{no_entry, no_row, no_shares, slots_of, row_of}
use Rattle.records.specs.Admits.{slot_of}
use Rattle.timeouts.specs.NonceTimeout.{current_place}
use Rattle.share_verdicts.specs.declared.Verdict.{Verdict}
use Rattle.share_verdicts.specs.declared.Verdict.TheVariants.{Unawaited, Wrong, Refused, Unended, Good}
use Rattle.share_verdicts.specs.Verdicts.{awaited_at, shares_verdict, waiter_verdict, verdict_of}
use Rattle.share_taking.specs.Taking.{job_turn, take_turn}
use Rattle.share_gather.specs.ShareGather.{freed, verdict_turn, gather_shares_turn}
use Rattle.packet_entry.specs.declared.Entry.{Entry}
use Rattle.coordinator_theorems.specs.Host.{receive}
use Rattle.coordinator_theorems.specs.Refusals.{changing, waiter, otherwise}
use Rattle.coordinator_theorems.proofs.Ends.{Ended, took, refused, as_before, waiter_freed, shares_taken, job_out, ends_cond}

-- what a verdict says: a number that changes nothing, or one of 20 to 22 with the places of record and signer
module _ (q : SignatureShareResponse) (s : Coordinator) (store : List ℕ) where
  abbrev Says : Verdict → Type 0
  Says Unawaited = Unit {0}
  Says (Wrong n got expected) = changing n ≡ false
  Says (Refused n r i) = (20 ≤ n) × (n ≤ 22) × (r ≡ current_place s store) × (slot_of q.signer_id s.config ≡ Some i)
  Says (Unended r i) = Unit {0}
  Says (Good r i) = Unit {0}

  waiter_says : (i : ℕ) → slot_of q.signer_id s.config ≡ Some i → Says (waiter_verdict s q (current_place s store) i)
  unfolding waiter_verdict shares_verdict
  waiter_says i e =
      let entry = get_or s.config.signers i no_entry in
      cond_both Says (awaited_at s.records (current_place s store) i)
      (cond_both Says (eqb q.ids.dkg_id s.ids.dkg_id)
      (cond_both Says (eqb q.ids.sign_id s.ids.sign_id)
      (cond_both Says (get_or s.marks.ended i false)
      (cond_both Says entry.has_keys
      (cond_both Says (same_set (share_key_ids q.signature_shares) (listed entry.keys)) tt (omega arith, omega arith, refl, e))
      (omega arith, omega arith, refl, e))
      tt)
      refl)
      refl)
      tt

  verdict_says : Says (verdict_of s store q)
  unfolding verdict_of
  verdict_says = given_case Says (slot_of q.signer_id s.config) waiter_says (λ e. tt)

module _ (clock : ℕ) (t : SignatureType) (entry : Entry) (p : List ℕ) (s : Coordinator) (store : List ℕ)
    (here : phase_of s.position.state ≡ gathering_shares t) (four : (header_in p).kind ≡ 4) where
  take_ends : (r i : ℕ) → Ended clock (receive entry p) s store (take_turn t p (header_in p) r i (freed r i s) store)
  unfolding take_turn job_turn
  take_ends r i =
      let s' = freed r i s in
      let parts = parts_from p 32 (header_in p).pairs in
      ends_cond (get_or s.shares.slots i no_shares).held (λ e. took refl (waiter_freed r i))
      (λ e. ends_cond (any_waits (row_of (slots_of s.config) store r (get_or s'.records.rows r no_row)).sign_wait_signer_ids)
      (λ f. took refl (shares_taken parts r i)) (λ f. took refl (job_out parts r i)))

  verdict-ends :
      (v : Verdict) → Says (share_response_in p) s store v → Ended clock (receive entry p) s store (verdict_turn t p (header_in p) s store v)
  unfolding verdict_turn share_response_in
  verdict-ends Unawaited says = took refl as_before
  verdict-ends (Wrong n got expected) says = refused (otherwise (receive entry p) n refl says)
  verdict-ends (Refused n r i) says = refused (waiter entry p t n r i here four says.0 says.1 says.2 says.3)
  verdict-ends (Unended r i) says = took refl (waiter_freed r i)
  verdict-ends (Good r i) says = take_ends r i

  pub gather_shares_ends : Ended clock (receive entry p) s store (gather_shares_turn t p s store)
  unfolding gather_shares_turn
  gather_shares_ends = verdict-ends (verdict_of s store (share_response_in p)) (verdict_says (share_response_in p) s store)
