-- What a refusal, a commissioning and the calls that bring no packet leave of a host's struct and store: all fields and all bytes.
-- Assumes nothing.
use Prim.Native.Nat.{ℕ, zero, suc, ◌<◌}
use mathlib.Core.Path.{◌≡◌, refl, sym, ap, subst, ◌∙◌}
use mathlib.Core.Bool.{true, false, false≢true}
use mathlib.Core.List.{List, [], ◌∷◌, ◌++◌}
use mathlib.Core.Logic.{◌⊎◌, ◌≢◌, ⊎_elim}
use native.Mathlib.Omega.{arith}
use borrow.Author.Tests.{le-leb, lt-leb, lt-ltb, ne_eqb}
use lib.Dec.{eqb, leb, ltb}
use lib.ListN.{length, get_or, set, take, drop, replicate, length-replicate, take-append-drop}
use lib.Seq.{length-take-le, take_at, drop_at, get_or-set_other}
use Rattle.wire.specs.Bytes.{put}
use Rattle.layout.specs.declared.Ids.{Ids}
use Rattle.step_definition.proofs.Cases.{cond_case}
use Rattle.state.specs.declared.fields.Records.{Records}
use Rattle.state.specs.declared.fields.ResponseSlot.{ResponseSlot}
use Rattle.state.specs.declared.fields.SignRoundInfo.{SignRoundInfo}
use Rattle.state.specs.declared.fields.Coordinator.{Coordinator}
use Rattle.state.specs.Setters.{set_slot}
use Rattle.state.specs.View.{message_at, keys_at, nonces_at, no_row, no_slot}
use Rattle.state.specs.Turns.{Turn}
use Rattle.state.proofs.Store.{Same, same_all, same_then, put-after, put-before}
use Rattle.configuration.specs.declared.new_config.NewConfig.{NewConfig}
use Rattle.commission.specs.Commission.{fresh_of, commission_turn}
use Rattle.records.specs.Records.{empty_row, opened, opened_store, held_slot, added_records, added_store}
use Rattle.coordinator_theorems.specs.Host.{HostRequest, commission}
use Rattle.coordinator_theorems.specs.Host.{HostCall, Host, turn_for, turn_of, host_step, Makeable}
use Rattle.coordinator_theorems.specs.Refusals.{changing, commissions, RefusalLeaves, commissioning, idle, unheld, gathering, unmoved, waiter, failed, otherwise}
use Rattle.coordinator_theorems.specs.Refusals.{Apart, RecordMade, stores}
use Rattle.coordinator_theorems.proofs.Ends.{Taken, as_before, fresh, key_set, results_taken, signature, all_reset, started, started_idle}
use Rattle.coordinator_theorems.proofs.Ends.{excluded, retried, recorded, shares_asked, waiter_freed, shares_taken, job_out, Ended, took, refused}
use Rattle.coordinator_theorems.proofs.EndsCalls.{commission_took}
use Rattle.coordinator_theorems.proofs.EndsPackets.{turn_ends}
use Rattle.coordinator_theorems.proofs.Keeps.{added_length, refusal-stored}

-- Refusals

-- a turn's answer has a number: the call was not taken
refusal : {clock : ℕ} {q : HostRequest} {s : Coordinator} {store : List ℕ} {t : Turn} {n : ℕ} → Ended clock q s store t → t.answer.number ≡ suc n
    → RefusalLeaves clock s store q (suc n) t.after t.store
refusal (took z k) e = absurd (omega arith)
refusal {clock} {q} {s} {store} {t} (refused r) e = subst (λ (n : ℕ). RefusalLeaves clock s store q n t.after t.store) e r

module _ (k : HostCall) (x : Host) where
  abbrev front : List ℕ
  front = take k.lent x.store

  abbrev ended : Ended k.clock k.request x.struct front (turn_of k x)
  ended = turn_ends k.request k.clock k.verdict k.room x.struct front

  -- the lent bytes of what a call leaves are the turn's, and the bytes beyond stay
  lent-after :
      (n : ℕ) → n ≡ k.lent → length (turn_of k x).store ≡ n
      → (take k.lent (host_step k x).store ≡ (turn_of k x).store) × (drop k.lent (host_step k x).store ≡ drop k.lent x.store)
  unfolding host_step
  lent-after n e l =
      let stored = (turn_of k x).store in
      let back = drop k.lent x.store in
      (take_at stored back k.lent (l ∙ e), drop_at stored back k.lent (l ∙ e))

  pub host-refusal-leaves :
      Makeable (length x.store) k → (n : ℕ) → (turn_of k x).answer.number ≡ suc n
      → RefusalLeaves k.clock x.struct (take k.lent x.store) k.request (suc n)
      (host_step k x).struct (take k.lent (host_step k x).store)
      × (drop k.lent (host_step k x).store ≡ drop k.lent x.store)
  unfolding host_step
  host-refusal-leaves m n e =
      let r = refusal ended e in
      let kept = lent-after (length front) (length-take-le k.lent x.store m.lent) (refusal-stored r) in
      (rw kept.0 r, kept.1)

-- "Otherwise nothing": struct and store are equal after
pub unchanged :
    {clock : ℕ} {q : HostRequest} {n : ℕ} {s s' : Coordinator} {store store' : List ℕ} → RefusalLeaves clock s store q n s' store' → changing n ≡ false
    → (s' ≡ s) × (store' ≡ store)
unchanged (commissioning g n l h) c = absurd (false≢true (sym (rw (le-leb 1 n l, le-leb n 3 h) at c)))
unchanged (idle entry p e k) c = absurd (false≢true (sym c))
unchanged (unheld m by) c = (refl, refl)
unchanged (gathering entry p t r i e k place slot) c = absurd (false≢true (sym c))
unchanged (unmoved m by) c = absurd (false≢true (sym c))
unchanged (waiter entry p t n r i e k l h place slot) c =
    let past : (leb 1 n ≡ true) × (leb n 3 ≡ false) = (le-leb 1 n (omega arith), lt-leb n 3 (omega arith)) in
    let other : (eqb n 10 ≡ false) × (eqb n 11 ≡ false) = (ne_eqb n 10 (λ e. omega arith), ne_eqb n 11 (λ e. omega arith)) in
    let high : (leb 20 n ≡ true) × (leb n 23 ≡ true) = (le-leb 20 n l, le-leb n 23 (omega arith)) in
    absurd (false≢true (sym (rw (past.0, past.1, other.0, other.1, high.0, high.1) at c)))
unchanged failed c = absurd (false≢true (sym c))
unchanged (otherwise q n o e) c = (refl, refl)

-- commissioning is refused with 1 to 3, and then something differs
uncommissioning : {clock : ℕ} {q : HostRequest} {n : ℕ} {s s' : Coordinator} {store store' : List ℕ} → RefusalLeaves clock s store q n s' store' → changing n ≡ false → commissions q ≡ false
uncommissioning (commissioning g n l h) c = absurd (false≢true (sym (rw (le-leb 1 n l, le-leb n 3 h) at c)))
uncommissioning (idle entry p e k) c = refl
uncommissioning (unheld m by) c = refl
uncommissioning (gathering entry p t r i e k place slot) c = refl
uncommissioning (unmoved m by) c = refl
uncommissioning (waiter entry p t n r i e k l h place slot) c = refl
uncommissioning failed c = refl
uncommissioning (otherwise q n o e) c = o

-- a turn that is refused so is not commissioning's, and leaves the struct and the lent bytes
pub turn_unchanged :
    (k : HostCall) (x : Host) (n : ℕ) → (turn_of k x).answer.number ≡ suc n → changing (suc n) ≡ false
    → (commissions k.request ≡ false) × (((turn_of k x).after ≡ x.struct) × ((turn_of k x).store ≡ take k.lent x.store))
turn_unchanged k x n e c =
    let r = refusal (ended k x) e in
    (uncommissioning r c, unchanged r c)

pub host_refusal_nothing :
    (k : HostCall) (x : Host) (n : ℕ) → (turn_of k x).answer.number ≡ suc n → changing (suc n) ≡ false → host_step k x ≡ x
unfolding host_step
host_refusal_nothing k x n e c =
    let same = unchanged (refusal (ended k x) e) c in
    rw (same.0, same.1, take-append-drop k.lent x.store)

-- the record that 10 leaves in NonceGather

put-apart : (l : List ℕ) (b : ℕ) (bs : List ℕ) {at n : ℕ} → Apart at n b (length bs) → Same at n l (put l b bs)
put-apart l b bs {at} {n} = ⊎_elim (λ h. put-after l b bs at n h) (λ h. put-before l b bs at n h)

other_slot :
    (rows : List SignRoundInfo) (r i j : ℕ) (x : ResponseSlot) → j ≢ i
    → get_or (get_or (set rows r (set_slot i x (get_or rows r no_row))) r no_row).slots j no_slot ≡ get_or (get_or rows r no_row).slots j no_slot
other_slot [] r i j x h = refl
other_slot (row ∷ rows) zero i j x h = get_or-set_other row.slots i j x no_slot h
other_slot (row ∷ rows) (suc r) i j x h = other_slot rows r i j x h

row-message :
    (rows : List SignRoundInfo) (r i : ℕ) (x : ResponseSlot)
    → (get_or (set rows r (set_slot i x (get_or rows r no_row))) r no_row).message ≡ (get_or rows r no_row).message
row-message [] r i x = refl
row-message (row ∷ rows) zero i x = refl
row-message (row ∷ rows) (suc r) i x = row-message rows r i x

module _ (clock r i : ℕ) (ids : Ids) (m keys nonces : List ℕ) (rs : Records) (store : List ℕ) where
  opened_rows : (j : ℕ) → j ≢ r → get_or (opened r (length m) rs).rows j no_row ≡ get_or rs.rows j no_row
  unfolding opened
  opened_rows j h =
      cond_case (λ (o : Records). get_or o.rows j no_row ≡ get_or rs.rows j no_row) (ltb r rs.count) (λ e. refl)
      (λ e. get_or-set_other rs.rows r j (empty_row (length m)) no_row h)

  opened_known : r < rs.count → opened r (length m) rs ≡ rs
  unfolding opened
  opened_known h = rw (lt-ltb r rs.count h)

  opened-bytes : (at n : ℕ) → (r < rs.count) ⊎ Apart at n (message_at r) (length m) → Same at n store (opened_store r m rs store)
  unfolding opened_store
  opened-bytes at n =
      ⊎_elim (λ h. rw (lt-ltb r rs.count h) (same_all at n store))
      (λ a. cond_case (λ (l : List ℕ). Same at n store l) (ltb r rs.count) (λ e. same_all at n store)
      (λ e. put-apart store (message_at r) m a))

  pub record_made : RecordMade r i m keys nonces rs (added_records clock r i ids m keys nonces rs) store (added_store r i m keys nonces rs store)
  unfolding added_records added_store
  record_made =
      let o = opened r (length m) rs in
      let x = held_slot clock ids keys nonces in
      let row = get_or o.rows r no_row in
      record {
        rows = λ j h. get_or-set_other o.rows r j (set_slot i x row) no_row h ∙ opened_rows j h;
        count = λ l. ap (λ (o : Records). o.count) (opened_known l);
        message = λ l. row-message o.rows r i x ∙ ap (λ (o : Records). (get_or o.rows r no_row).message) (opened_known l);
        slots = λ l j h. other_slot o.rows r i j x h
            ∙ ap (λ (o : Records). get_or (get_or o.rows r no_row).slots j no_slot) (opened_known l);
        long = added_length r i m keys nonces rs store;
        bytes = λ at n a b c.
            let first = opened_store r m rs store in
            let keyed = same_then (opened-bytes at n a) (put-apart first (keys_at r i) keys b) in
            let same = same_then keyed (put-apart (put first (keys_at r i) keys) (nonces_at r i) nonces c) in
            sym same.bytes;
      }

-- Commissioning

-- "Otherwise the whole lent store, however long, is zeroed", and the bytes beyond stay
pub host_commission_zeros :
    (k : HostCall) (x : Host) (g : NewConfig) → k.request ≡ commission g → Makeable (length x.store) k → (turn_of k x).answer.number ≡ 0
    → ((host_step k x).struct ≡ fresh_of g) × (take k.lent (host_step k x).store ≡ replicate k.lent 0)
    × (drop k.lent (host_step k x).store ≡ drop k.lent x.store)
unfolding host_step turn_for
host_commission_zeros k x g e m z =
    let front = take k.lent x.store in
    let long : length front ≡ k.lent = length-take-le k.lent x.store m.lent in
    let same : turn_of k x ≡ commission_turn g front =
    ap (λ (q : HostRequest). turn_for q k.clock k.verdict k.room x.struct front) e in
    let done = commission_took g front (sym (ap (λ (t : Turn). t.answer.number) same) ∙ z) in
    let stored : (turn_of k x).store ≡ replicate k.lent 0 =
    ap (λ (t : Turn). t.store) same ∙ done.1 ∙ ap (λ (n : ℕ). replicate n 0) long in
    let after = lent-after k x k.lent refl (ap length stored ∙ length-replicate k.lent 0) in
    (ap (λ (t : Turn). t.after) same ∙ done.0, after.0 ∙ stored, after.1)

-- The calls that bring no packet

refusal-stores :
    {clock : ℕ} {q : HostRequest} {n : ℕ} {s s' : Coordinator} {store store' : List ℕ}
    → RefusalLeaves clock s store q n s' store' → stores q ≡ false → store' ≡ store
refusal-stores (commissioning g n l h) e = refl
refusal-stores (idle entry p e k) c = refl
refusal-stores (unheld m by) c = refl
refusal-stores (gathering entry p t r i e k place slot) c = absurd (false≢true (sym c))
refusal-stores (unmoved m by) c = refl
refusal-stores (waiter entry p t n r i e k l h place slot) c = refl
refusal-stores failed c = refl
refusal-stores (otherwise q n o e) c = refl

taken-stores :
    {q : HostRequest} {s s' : Coordinator} {store store' : List ℕ} → Taken s store q s' store' → stores q ≡ false → store' ≡ store
taken-stores as_before c = refl
taken-stores (fresh e) c = absurd (false≢true (sym c))
taken-stores key_set c = refl
taken-stores results_taken c = refl
taken-stores signature c = refl
taken-stores all_reset c = refl
taken-stores (started clock) c = refl
taken-stores (started_idle clock n) c = refl
taken-stores (excluded waits) c = refl
taken-stores (retried clock t waits) c = refl
taken-stores (recorded clock r i) c = absurd (false≢true (sym c))
taken-stores (shares_asked clock t r i) c = absurd (false≢true (sym c))
taken-stores (waiter_freed r i) c = refl
taken-stores (shares_taken parts r i) c = absurd (false≢true (sym c))
taken-stores (job_out parts r i) c = absurd (false≢true (sym c))

ended-stores : {clock : ℕ} {q : HostRequest} {s : Coordinator} {store : List ℕ} {t : Turn} → Ended clock q s store t → stores q ≡ false → t.store ≡ store
ended-stores (took z k) c = taken-stores k c
ended-stores (refused r) c = refusal-stores r c

pub host_store_kept : (k : HostCall) (x : Host) → stores k.request ≡ false → (host_step k x).store ≡ x.store
unfolding host_step
host_store_kept k x c =
    ap (λ (l : List ℕ). l ++ drop k.lent x.store) (ended-stores (ended k x) c) ∙ take-append-drop k.lent x.store
