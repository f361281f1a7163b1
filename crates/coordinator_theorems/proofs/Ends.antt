-- Every way in which a call ends: what it leaves of struct and store where it is taken, and where it is refused. What is said of all
-- calls goes by these cases.
-- Assumes nothing.
use Rattle.std.specs.Prelude.{Err, Ok}
use Prim.Native.Nat.{ℕ}
use mathlib.Core.Path.{◌≡◌, refl}
use mathlib.Core.Bool.{Bool, true, false, cond}
use mathlib.Core.List.{List}
use lib.ListN.{length, replicate}
use Rattle.layout.specs.declared.SignatureType.{SignatureType}
use Rattle.layout.specs.LaidOut.{header_in, part_at}
use Rattle.state.specs.declared.fields.Coordinator.{Coordinator}
use Rattle.state.specs.Setters.{set_keys, set_records, set_shares, set_job}
use Rattle.state.specs.Turns.{Turn, unless}
use Rattle.state.specs.Passed.{Passed}
use Rattle.configuration.specs.declared.new_config.NewConfig.{NewConfig}
use Rattle.configuration.specs.NewConfig.{new_config_of, new_asked}
use Rattle.commission.specs.Commission.{fresh_of}
use Rattle.calls.specs.declared.held_keys.HeldKey.{HeldKey}
use Rattle.calls.specs.Calls.{keys_with, signed}
use Rattle.calls.specs.Resets.{abandoned, forgotten}
use Rattle.results.specs.Results.{with_results}
use Rattle.starts.specs.declared.naming.Start.{Start}
use Rattle.starts.specs.Starts.{start_named, start_requested}
use Rattle.share_timeout.specs.Exclusion.{excluded_in}
use Rattle.idle.specs.Idle.{start_in, iterated}
use Rattle.records.specs.Records.{added_records, added_store}
use Rattle.share_request.specs.Asking.{shares_requested}
use Rattle.shares.specs.Shares.{kept_shares, kept_store}
use Rattle.share_gather.specs.ShareGather.{freed}
use Rattle.packet_entry.specs.declared.Entry.{Entry}
use Rattle.coordinator_theorems.specs.Host.{HostRequest, commission, set_key, take_results, start, receive, aggregated, reset}
use Rattle.coordinator_theorems.specs.Refusals.{changing, commissions, RefusalLeaves, otherwise}

-- the response of a packet recorded at a clock reading, in row r and slot i
abbrev pub with_record : ℕ → List ℕ → ℕ → ℕ → Coordinator → Coordinator
with_record clock p r i s = set_records (added_records clock r i (header_in p).ids (part_at p 32) (part_at p 40) (part_at p 48) s.records) s

abbrev pub record_stored : List ℕ → ℕ → ℕ → Coordinator → List ℕ → List ℕ
record_stored p r i s store = added_store r i (part_at p 32) (part_at p 40) (part_at p 48) s.records store

-- a waiter removed and its shares held
abbrev pub with_shares : List (List ℕ) → ℕ → ℕ → Coordinator → Coordinator
with_shares parts r i s = set_shares (kept_shares i parts s.shares) (freed r i s)

-- struct and lent store after a call that is answered with no number
pub data Taken (s : Coordinator) (store : List ℕ) : HostRequest → Coordinator → List ℕ → Type 0 where
  as_before : {q : HostRequest} → Taken s store q s store
  fresh : {g : NewConfig} → new_asked (new_config_of g) ≡ (Ok tt) → Taken s store (commission g) (fresh_of g) (replicate (length store) 0)
  key_set : {which : HeldKey} {held : Bool} → Taken s store (set_key which held) (set_keys (keys_with which held s.keys) s) store
  results_taken : {dkg : ℕ} {ended : List ℕ} → Taken s store (take_results dkg ended) (with_results dkg ended s) store
  signature : {ok : Bool} → Taken s store (aggregated ok) (signed s) store
  all_reset : Taken s store reset (forgotten (abandoned s)) store
  started :
      {m : List ℕ} {by : Start} (clock : ℕ)
      → Taken s store (start m by) (start_requested clock by.signature_type by.root (start_named m by.sign_id s)) store
  started_idle :
      {entry : Entry} {p : List ℕ} (clock n : ℕ)
      → Taken s store (receive entry p)
      (start_requested clock (start_in p).signature_type (start_in p).root
      (start_named (part_at p 32) (start_in p).sign_id (iterated n s)))
      store
  excluded : {q : HostRequest} (waits : List Bool) → Taken s store q (excluded_in waits s) store
  retried :
      {q : HostRequest} (clock : ℕ) (t : SignatureType) (waits : List Bool)
      → Taken s store q (start_requested clock t (excluded_in waits s).position.root (excluded_in waits s)) store
  recorded :
      {entry : Entry} {p : List ℕ} (clock r i : ℕ)
      → Taken s store (receive entry p) (with_record clock p r i s) (record_stored p r i s store)
  shares_asked :
      {entry : Entry} {p : List ℕ} (clock : ℕ) (t : SignatureType) (r i : ℕ)
      → Taken s store (receive entry p) (shares_requested clock t (part_at p 32) (with_record clock p r i s)) (record_stored p r i s store)
  waiter_freed : {entry : Entry} {p : List ℕ} (r i : ℕ) → Taken s store (receive entry p) (freed r i s) store
  shares_taken :
      {entry : Entry} {p : List ℕ} (parts : List (List ℕ)) (r i : ℕ)
      → Taken s store (receive entry p) (with_shares parts r i s) (kept_store i parts store)
  job_out :
      {entry : Entry} {p : List ℕ} (parts : List (List ℕ)) (r i : ℕ)
      → Taken s store (receive entry p) (set_job true (with_shares parts r i s)) (kept_store i parts store)

pub data Ended (clock : ℕ) (q : HostRequest) (s : Coordinator) (store : List ℕ) (t : Turn) : Type 0 where
  took : t.answer.number ≡ 0 → Taken s store q t.after t.store → Ended clock q s store t
  refused : RefusalLeaves clock s store q t.answer.number t.after t.store → Ended clock q s store t

-- a question that changes nothing where it is answered no
abbrev pub Bare : Passed → Type 0
Bare (Ok tt) = Unit {0}
Bare (Err n) = changing n ≡ false

module _ {clock : ℕ} {q : HostRequest} {s : Coordinator} {store : List ℕ} where
  pub ends_unless : commissions q ≡ false → (p : Passed) {rest : Turn} → Bare p → Ended clock q s store rest → Ended clock q s store (unless p s store rest)
  unfolding unless
  ends_unless other (Ok tt) b k = k
  ends_unless other (Err n) b k = refused (otherwise q n other b)

  pub ends_cond : (b : Bool) {x y : Turn} → (b ≡ true → Ended clock q s store x) → (b ≡ false → Ended clock q s store y) → Ended clock q s store (cond b x y)
  ends_cond true k l = k refl
  ends_cond false k l = l refl
