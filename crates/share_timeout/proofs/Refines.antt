-- A share timeout that fires gives what the definition says of what the struct and the store stand for.
-- Assumes nothing.
use Prim.Native.Nat.{ℕ, ◌-◌}
use mathlib.Core.Path.{◌≡◌, refl, sym, ap, subst}
use mathlib.Core.Bool.{Bool, true, false, cond}
use mathlib.Core.List.{List, [], ◌∷◌, ◌++◌, map}
use borrow.Author.Tests.{ltb-true, ltb-false}
use lib.Dec.{ltb}
use lib.ListN.{take, get_or}
use Rattle.layout.specs.declared.SignatureType.{SignatureType}
use Rattle.layout.specs.Encode.{encode_insufficient_signers}
use Rattle.state_table.specs.declared.State.{State}
use Rattle.state_table.specs.declared.State.TheVariants.{SigShareGather}
use Rattle.state_table.specs.States.{type_in}
use Rattle.step_definition.specs.Lists.{find}
use Rattle.step_definition.specs.Ids.{insert_all}
use Rattle.step_definition.specs.Configuration.{num_key_ids}
use Rattle.step_definition.specs.Coordinator.{commissioned, with_malicious}
use Rattle.step_definition.specs.Coordinator.{Coordinator as Defined}
use Rattle.step_definition.specs.Calls as A
use Rattle.step_definition.specs.Effects.{root_for, request_nonces, nonce_request_of}
use Rattle.step_definition.specs.Questions.{question12}
use Rattle.step_definition.specs.Starts.{sends_nonce_request}
use Rattle.step_definition.specs.Timeouts.{share_timeout}
use Rattle.state.specs.declared.fields.SignRoundInfo.{SignRoundInfo}
use Rattle.state.specs.declared.fields.Coordinator.{Coordinator}
use Rattle.state.specs.Counts.{is_within_limits}
use Rattle.state.specs.View.{no_row, ids_of, slots_of, config_of, coordinator_of, standing_of, round_of, row_of, position_of, root_bytes}
use Rattle.state.specs.Turns.{unless, Refines}
use Rattle.state.proofs.Shape.{Shaped}
use Rattle.state.proofs.SignerSlots.{slots_rise}
use Rattle.state.proofs.Refines.{view_held, ask_refines}
use Rattle.records.proofs.Decided.{found_record, no_record}
use Rattle.signer_ids.specs.Flags.{is_waiting}
use Rattle.signer_ids.proofs.Listing.{waiters_flagged}
use Rattle.starts.specs.Starts.{request_turn}
use Rattle.starts.proofs.Refines.{request_refines}
use Rattle.timeouts.specs.Named.{waiters_in, flagged_signers}
use Rattle.timeouts.specs.NonceTimeout.{current_place, record_asked}
use Rattle.share_timeout.specs.Exclusion.{excluded_in, too_few_keys}
use Rattle.share_timeout.specs.ShareTimeout.{insufficient_turn, retry_turn, excluded_turn, new_malicious, row_turn, share_timeout_turn}
use Rattle.share_timeout.proofs.Flags.{joined-flagged}
use Rattle.share_timeout.proofs.Answering.{excluded_within}

-- the waiters are put among the malicious signers
excluded_viewed :
    (row : SignRoundInfo) (s : Coordinator) (store : List ℕ)
    → coordinator_of (excluded_in (map is_waiting row.slots) s) store
    ≡ with_malicious (insert_all (waiters_in s.config row) (flagged_signers s.config s.marks.malicious)) (coordinator_of s store)
unfolding excluded_in coordinator_of standing_of round_of
excluded_viewed row s store =
    rw (joined-flagged (map is_waiting row.slots) s.marks.malicious (slots_of s.config) (slots_rise 0 (ids_of s.config)), waiters_flagged row.slots (slots_of s.config))

-- what the definition does with a coordinator whose waiters are malicious
abbrev retries : ℕ → SignatureType → List ℕ → List ℕ → Defined → A.Outcome
retries clock t root new c =
    let after = request_nonces clock t root c in
    sends_nonce_request t root after (A.newly_malicious new ∷ (A.requested (nonce_request_of t root after) ∷ (A.retried ∷ [])))

abbrev excludes : ℕ → SignatureType → List ℕ → List ℕ → Defined → A.Outcome
excludes clock t root new c =
    let g = c.standing.config in
    let malicious = c.standing.malicious_signer_ids in
    cond (ltb (g.num_keys - num_key_ids g malicious) g.threshold)
    (A.outcome (A.sending A.result (encode_insufficient_signers malicious)) (A.newly_malicious new ∷ []) (commissioned c))
    (retries clock t root new c)

module _ (clock : ℕ) (t : SignatureType) (new : List ℕ) (s : Coordinator) (store : List ℕ) (b : s.commissioned ≡ true) (w : is_within_limits s ≡ true) where
  -- the root that is held is the one that is asked with
  root_held : s.position.state ≡ SigShareGather t → (coordinator_of s store).position.root ≡ root_for t s.position.root
  unfolding coordinator_of position_of root_bytes root_for
  root_held e = ap (λ (x : State). root_bytes (type_in x) s.position.root) e

  retry_refines : Refines (retry_turn clock t new s store) (retries clock t (root_for t s.position.root) new (coordinator_of s store))
  unfolding retry_turn request_turn
  retry_refines =
      let sent = request_refines clock t s.position.root s store b w in
      record { answer = sent.answer; events = ap (λ (es : List A.Event). A.newly_malicious new ∷ (es ++ (A.retried ∷ []))) sent.events; after = sent.after }

  excluded-refines :
      Refines (excluded_turn clock t new s store) (excludes clock t (root_for t s.position.root) new (coordinator_of s store))
  unfolding excluded_turn insufficient_turn too_few_keys coordinator_of standing_of config_of
  excluded-refines =
      ask_refines (too_few_keys s.marks.malicious s) (too_few_keys s.marks.malicious s) refl
      (λ y. record { answer = refl; events = refl; after = view_held s store b w })
      (λ n. retry_refines)

-- the current message's record is there
row_refines :
    (clock : ℕ) (t : SignatureType) (row : SignRoundInfo) (s : Coordinator) (store : List ℕ) → s.commissioned ≡ true → is_within_limits s ≡ true
    → s.position.state ≡ SigShareGather t
    → Refines (row_turn clock t row s store)
    (excludes clock t (coordinator_of s store).position.root (new_malicious row s)
    (with_malicious (insert_all (waiters_in s.config row) (flagged_signers s.config s.marks.malicious)) (coordinator_of s store)))
unfolding row_turn excluded_in
row_refines clock t row s store b w gathers =
    let new = new_malicious row s in
    let after = with_malicious (insert_all (waiters_in s.config row) (flagged_signers s.config s.marks.malicious)) (coordinator_of s store) in
    let root = root_for t s.position.root in
    subst (λ (r : List ℕ). Refines (row_turn clock t row s store) (excludes clock t r new after)) (sym (root_held clock t new s store b w gathers))
    (subst (λ (c : Defined). Refines (row_turn clock t row s store) (excludes clock t root new c)) (excluded_viewed row s store)
    (excluded-refines clock t new (excluded_in (map is_waiting row.slots) s) store b (excluded_within (map is_waiting row.slots) s w)))

pub share_timeout_refines :
    (clock : ℕ) (t : SignatureType) (s : Coordinator) (store : List ℕ) → Shaped s → s.commissioned ≡ true → is_within_limits s ≡ true
    → s.position.state ≡ SigShareGather t
    → Refines (share_timeout_turn clock t s store) (share_timeout clock t (coordinator_of s store).position.root (coordinator_of s store))
unfolding share_timeout_turn share_timeout record_asked current_place question12 unless new_malicious coordinator_of round_of row_of standing_of
share_timeout_refines clock t s store shaped b w gathers = by (ltb (current_place s store) s.records.count) refl
  where
    m : List ℕ
    m = take s.message.len s.message.bytes

    row : SignRoundInfo
    row = get_or s.records.rows (current_place s store) no_row

    by : (x : Bool) → ltb (current_place s store) s.records.count ≡ x
        → Refines (share_timeout_turn clock t s store) (share_timeout clock t (coordinator_of s store).position.root (coordinator_of s store))
    by true e =
        rw (e, found_record s store shaped w m (ltb-true _ _ e)) (row_refines clock t row s store b w gathers)
    by false e = rw (e, no_record s store shaped w m (ltb-false _ _ e)) (record { answer = refl; events = refl; after = view_held s store b w })
