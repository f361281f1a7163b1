-- Every call keeps the lengths of the struct's arrays and of the store that it is lent.
-- Assumes nothing.
use Prim.Native.Nat.{ℕ, ◌≤◌}
use mathlib.Core.Path.{◌≡◌, refl, ◌∙◌}
use mathlib.Core.Bool.{Bool, true, false}
use mathlib.Core.List.{List}
use native.Mathlib.Omega.{arith}
use lib.Dec.{ltb}
use lib.ListN.{length, get_or, replicate, length-append, length-map, length-set, length-replicate}
use lib.Seq.{length-take-le}
use Rattle.wire.specs.Bytes.{put}
use Rattle.wire.proofs.Buffer.{length-put}
use Rattle.layout.specs.Limits.{message_limit, signer_limit, record_limit}
use Rattle.layout.specs.LaidOut.{header_in, part_at}
use Rattle.layout.specs.declared.Ids.{Ids}
use Rattle.layout.specs.declared.SignatureType.{SignatureType}
use Rattle.step_definition.proofs.Cases.{cond_both}
use Rattle.state.specs.declared.fields.Config.{Config}
use Rattle.state.specs.declared.fields.Records.{Records}
use Rattle.state.specs.declared.fields.Coordinator.{Coordinator}
use Rattle.state.specs.Setters.{set_slot}
use Rattle.state.specs.View.{message_at, keys_at, nonces_at, no_slot, no_row}
use Rattle.state.specs.Turns.{Turn}
use Rattle.configuration.specs.declared.new_config.NewConfig.{NewConfig}
use Rattle.configuration.specs.Made.{config_from, blank_config, blank_entry}
use Rattle.configuration.proofs.Asked.{accepted}
use Rattle.commission.specs.Commission.{no_responses, no_records, no_message, at_idle, fresh_with, uncommissioned_struct, fresh_of}
use Rattle.calls.specs.Resets.{abandoned, forgotten}
use Rattle.results.specs.Results.{with_results}
use Rattle.starts.specs.Starts.{start_named, start_requested, SignId}
use Rattle.share_timeout.specs.Exclusion.{excluded_in}
use Rattle.idle.specs.Idle.{root_in, iterated}
use Rattle.records.specs.Records.{empty_row, opened, opened_store, held_slot, added_records, added_store}
use Rattle.share_request.specs.Asking.{shares_requested}
use Rattle.shares.specs.Shares.{kept_slot}
use Rattle.shares.proofs.Apart.{length-shares}
use Rattle.share_gather.specs.ShareGather.{freed_slot, freed}
use Rattle.coordinator_theorems.specs.Host.{HostRequest, turn_for, Formed, GivenArrays}
use Rattle.coordinator_theorems.specs.Refusals.{RefusalLeaves, commissioning, idle, unheld, gathering, unmoved, waiter, failed, otherwise}
use Rattle.coordinator_theorems.proofs.Arrays.{Ten, Rows, arrays_of, formed_of, with_rows, the_with_shares, with_bytes, with_root, none_held_law, all_replicate, set-row}
use Rattle.coordinator_theorems.proofs.Ends.{with_record, with_shares, Taken, as_before, fresh, key_set, results_taken, signature, all_reset, started, started_idle}
use Rattle.coordinator_theorems.proofs.Ends.{excluded, retried, recorded, shares_asked, waiter_freed, shares_taken, job_out, Ended, took, refused}
use Rattle.coordinator_theorems.proofs.EndsPackets.{turn_ends}

-- the fresh structs. "at most 10 signers": the signers given and what stands past them fill the places
config_10 : (g : NewConfig) → length g.signers ≡ 11 → g.count ≤ signer_limit → length (config_from g).signers ≡ signer_limit
unfolding config_from
config_10 g l few = rw (length-append, length-map, length-take-le g.count g.signers (omega arith), length-replicate) (omega arith)

fresh-formed : (held : Bool) (g : Config) → length g.signers ≡ signer_limit → Formed (fresh_with held g)
unfolding no_records no_message at_idle
fresh-formed held g ten =
    record {
      signers = ten;
      rows = length-replicate record_limit no_responses;
      slots = all_replicate Ten record_limit no_responses (length-replicate signer_limit no_slot);
      shares = none_held_law;
      bytes = length-replicate {A = ℕ} message_limit 0;
      root = length-replicate {A = ℕ} 32 0;
    }

pub blank_formed : Formed uncommissioned_struct
unfolding uncommissioned_struct blank_config
blank_formed = fresh-formed false blank_config (length-replicate signer_limit blank_entry)

-- a response recorded: rows and store
module _ (r i : ℕ) (m keys nonces : List ℕ) (rs : Records) where
  opened_rows : Rows rs.rows → Rows (opened r (length m) rs).rows
  unfolding opened
  opened_rows h =
      cond_both (λ (o : Records). Rows o.rows) (ltb r rs.count) h
      (set-row rs.rows r (empty_row (length m)) (λ t. length-replicate signer_limit no_slot) h)

  the_added_rows : (clock : ℕ) (ids : Ids) → Rows rs.rows → Rows (added_records clock r i ids m keys nonces rs).rows
  unfolding added_records
  the_added_rows clock ids h =
      let o = opened r (length m) rs in
      let row = get_or o.rows r no_row in
      let x = held_slot clock ids keys nonces in
      set-row o.rows r (set_slot i x row) (λ t. length-set row.slots i x ∙ t) (opened_rows h)

  opened_length : (store : List ℕ) → length (opened_store r m rs store) ≡ length store
  unfolding opened_store
  opened_length store = cond_both (λ (l : List ℕ). length l ≡ length store) (ltb r rs.count) refl (length-put store (message_at r) m)

  pub added_length : (store : List ℕ) → length (added_store r i m keys nonces rs store) ≡ length store
  unfolding added_store
  added_length store =
      length-put (put (opened_store r m rs store) (keys_at r i) keys) (nonces_at r i) nonces
      ∙ length-put (opened_store r m rs store) (keys_at r i) keys ∙ opened_length store

-- the fields that calls replace
module _ {s : Coordinator} (f : Formed s) where
  named_formed : (m : List ℕ) (id : SignId) → Formed (start_named m id s)
  unfolding start_named
  named_formed m id = formed_of (with_bytes (arrays_of f) (length-put s.message.bytes 0 m ∙ f.bytes))

  requested_formed : (clock : ℕ) (t : SignatureType) (root : List ℕ) → length root ≡ 32 → Formed (start_requested clock t root s)
  unfolding start_requested
  requested_formed clock t root l = formed_of (with_root (arrays_of f) l)

  iterated_formed : (n : ℕ) → Formed (iterated n s)
  unfolding iterated
  iterated_formed n = formed_of (arrays_of f)

  excluded_formed : (waits : List Bool) → Formed (excluded_in waits s)
  unfolding excluded_in
  excluded_formed waits = formed_of (arrays_of f)

  record_formed : (clock : ℕ) (p : List ℕ) (r i : ℕ) → Formed (with_record clock p r i s)
  record_formed clock p r i =
      formed_of (with_rows (arrays_of f)
      (the_added_rows r i (part_at p 32) (part_at p 40) (part_at p 48) s.records clock (header_in p).ids (arrays_of f).rows))

  shares_asked_formed : (clock : ℕ) (t : SignatureType) (m : List ℕ) → Formed (shares_requested clock t m s)
  unfolding shares_requested
  shares_asked_formed clock t m =
      formed_of (the_with_shares (with_bytes (arrays_of f) (length-put s.message.bytes 0 m ∙ f.bytes)) none_held_law)

  freed_formed : (r i : ℕ) → Formed (freed r i s)
  freed_formed r i =
      let row = get_or s.records.rows r no_row in
      let x = freed_slot (get_or row.slots i no_slot) in
      formed_of (with_rows (arrays_of f)
      (set-row s.records.rows r (set_slot i x row) (λ t. length-set row.slots i x ∙ t) (arrays_of f).rows))

shares-formed : {s : Coordinator} → Formed s → (parts : List (List ℕ)) (r i : ℕ) → Formed (with_shares parts r i s)
shares-formed {s} f parts r i =
    formed_of (the_with_shares (arrays_of (freed_formed f r i)) (length-set s.shares.slots i (kept_slot parts) ∙ f.shares))

-- a packet's root is put before zeros
root_32 : (p : List ℕ) → length (root_in p) ≡ 32
root_32 p = length-put (replicate 32 0) 0 (part_at p 40) ∙ length-replicate {A = ℕ} 32 0

-- what a call keeps that is lent this store
pub record Keeps (store : List ℕ) (t : Turn) : Type 0 where
  pub formed : Formed t.after
  pub stored : length t.store ≡ length store

module _ {s : Coordinator} {store : List ℕ} (f : Formed s) where
  refusal_formed : {clock : ℕ} {q : HostRequest} {n : ℕ} {s' : Coordinator} {store' : List ℕ} → RefusalLeaves clock s store q n s' store' → Formed s'
  refusal_formed (commissioning g n l h) = blank_formed
  refusal_formed (idle entry p e k) = formed_of (arrays_of f)
  refusal_formed (unheld m by) = f
  refusal_formed {clock} (gathering entry p t r i e k place slot) =
      formed_of (with_bytes (arrays_of (record_formed f clock p r i)) (length-put s.message.bytes 0 (part_at p 32) ∙ f.bytes))
  refusal_formed (unmoved m by) = formed_of (with_bytes (arrays_of f) (length-put s.message.bytes 0 m ∙ f.bytes))
  refusal_formed (waiter entry p t n r i e k l h place slot) = freed_formed f r i
  refusal_formed failed = formed_of (arrays_of f)
  refusal_formed (otherwise q n o c) = f

  taken_formed : {q : HostRequest} {s' : Coordinator} {store' : List ℕ} → Taken s store q s' store' → GivenArrays q → Formed s'
  unfolding fresh_of with_results abandoned forgotten
  taken_formed as_before a = f
  taken_formed (fresh {g = g} e) a = fresh-formed true (config_from g) (config_10 g a (accepted g a e).few)
  taken_formed key_set a = formed_of (arrays_of f)
  taken_formed results_taken a = formed_of (arrays_of f)
  taken_formed signature a = formed_of (arrays_of f)
  taken_formed all_reset a = formed_of (the_with_shares (arrays_of f) none_held_law)
  taken_formed (started {m = m} {by = by} clock) a =
      requested_formed (named_formed f m by.sign_id) clock by.signature_type by.root a
  taken_formed (started_idle {p = p} clock n) a = requested_formed (named_formed (iterated_formed f n) _ _) clock _ (root_in p) (root_32 p)
  taken_formed (excluded waits) a = excluded_formed f waits
  taken_formed (retried clock t waits) a = requested_formed (excluded_formed f waits) clock t _ (excluded_formed f waits).root
  taken_formed (recorded {p = p} clock r i) a = record_formed f clock p r i
  taken_formed (shares_asked {p = p} clock t r i) a = shares_asked_formed (record_formed f clock p r i) clock t (part_at p 32)
  taken_formed (waiter_freed r i) a = freed_formed f r i
  taken_formed (shares_taken parts r i) a = shares-formed f parts r i
  taken_formed (job_out parts r i) a = formed_of (arrays_of (shares-formed f parts r i))

module _ {s : Coordinator} {store : List ℕ} where
  pub refusal-stored :
      {clock : ℕ} {q : HostRequest} {n : ℕ} {s' : Coordinator} {store' : List ℕ}
      → RefusalLeaves clock s store q n s' store' → length store' ≡ length store
  refusal-stored (commissioning g n l h) = refl
  refusal-stored (idle entry p e k) = refl
  refusal-stored (unheld m by) = refl
  refusal-stored (gathering entry p t r i e k place slot) = added_length r i (part_at p 32) (part_at p 40) (part_at p 48) s.records store
  refusal-stored (unmoved m by) = refl
  refusal-stored (waiter entry p t n r i e k l h place slot) = refl
  refusal-stored failed = refl
  refusal-stored (otherwise q n o c) = refl

  taken_stored : {q : HostRequest} {s' : Coordinator} {store' : List ℕ} → Taken s store q s' store' → length store' ≡ length store
  taken_stored as_before = refl
  taken_stored (fresh e) = length-replicate (length store) 0
  taken_stored key_set = refl
  taken_stored results_taken = refl
  taken_stored signature = refl
  taken_stored all_reset = refl
  taken_stored (started clock) = refl
  taken_stored (started_idle clock n) = refl
  taken_stored (excluded waits) = refl
  taken_stored (retried clock t waits) = refl
  taken_stored (recorded {p = p} clock r i) = added_length r i (part_at p 32) (part_at p 40) (part_at p 48) s.records store
  taken_stored (shares_asked {p = p} clock t r i) = added_length r i (part_at p 32) (part_at p 40) (part_at p 48) s.records store
  taken_stored (waiter_freed r i) = refl
  taken_stored (shares_taken parts r i) = length-shares _ _ parts store
  taken_stored (job_out parts r i) = length-shares _ _ parts store

ended_keeps : {clock : ℕ} {q : HostRequest} {s : Coordinator} {store : List ℕ} {t : Turn} → Formed s → GivenArrays q → Ended clock q s store t → Keeps store t
ended_keeps f a (took z k) = record { formed = taken_formed f k a; stored = taken_stored k }
ended_keeps f a (refused r) = record { formed = refusal_formed f r; stored = refusal-stored r }

pub turn_keeps :
    (q : HostRequest) (clock : ℕ) (verdict : Bool) (room : ℕ) (s : Coordinator) (store : List ℕ) → Formed s → GivenArrays q
    → Keeps store (turn_for q clock verdict room s store)
turn_keeps q clock verdict room s store f a = ended_keeps f a (turn_ends q clock verdict room s store)
