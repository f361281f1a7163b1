-- The records as a list: the one of the message gets the response, or a new one is opened for it.
-- Assumes nothing.
use Prim.Native.Nat.{ℕ, zero, suc, ◌+◌, ◌<◌, ◌≤◌}
use mathlib.Core.Path.{◌≡◌, refl, sym, ap, ap₂}
use mathlib.Core.Bool.{Bool, true, false, cond}
use mathlib.Core.List.{List, [], ◌∷◌}
use native.Mathlib.Nat.{add-zero}
use native.Mathlib.Omega.{arith}
use lib.ListN.{length, get_or, set, take, length-take}
use Rattle.wire.specs.Bytes.{are_same_bytes, All}
use Rattle.wire.proofs.SameBytes.{same_is}
use Rattle.layout.specs.Limits.{signer_limit, record_limit}
use Rattle.layout.specs.declared.Ids.{Ids}
use Rattle.layout.specs.Messages.{NonceResponse}
use Rattle.step_definition.specs.Lists.{change}
use Rattle.step_definition.specs.Coordinator as C
use Rattle.state.specs.declared.fields.ResponseSlot.{ResponseSlot}
use Rattle.state.specs.declared.fields.SignRoundInfo.{SignRoundInfo}
use Rattle.state.specs.declared.fields.Records.{Records}
use Rattle.state.specs.declared.fields.SignerSlot.{SignerSlot}
use Rattle.state.specs.Setters.{set_slot}
use Rattle.state.specs.View.{record_bytes, message_at, no_row, row_of, rows_from}
use Rattle.state.proofs.Within.{Good}
use Rattle.state.proofs.Store.{Same}
use Rattle.records.specs.Records.{response_for, row_message, record_from, record_place, empty_row}
use Rattle.records.proofs.AddResponse.{row_same, rows_same}

-- how many records stand before the one of the message
unfoldable pub index : List ℕ → List ℕ → ℕ → List SignRoundInfo → ℕ
index m store k [] = 0
index m store k (row ∷ rows) = cond (are_same_bytes m (row_message k row store)) 0 (suc (index m store (k + 1) rows))

pub place_index : (m store : List ℕ) (k : ℕ) (rows : List SignRoundInfo) → record_from m store k rows ≡ k + index m store k rows
unfolding record_from index
place_index m store k [] = sym (add-zero k)
place_index m store k (row ∷ rows) = by (are_same_bytes m (row_message k row store)) (place_index m store (k + 1) rows)
  where
    by : (b : Bool) → record_from m store (k + 1) rows ≡ k + 1 + index m store (k + 1) rows
        → cond b k (record_from m store (k + 1) rows) ≡ k + cond b 0 (suc (index m store (k + 1) rows))
    by true e = sym (add-zero k)
    by false e = omega arith

pub index_le : (m store : List ℕ) (k : ℕ) (rows : List SignRoundInfo) → index m store k rows ≤ length rows
unfolding index
index_le m store k [] = omega arith
index_le m store k (row ∷ rows) = by (are_same_bytes m (row_message k row store)) (index_le m store (k + 1) rows)
  where
    by : (b : Bool) → index m store (k + 1) rows ≤ length rows → cond b 0 (suc (index m store (k + 1) rows)) ≤ suc (length rows)
    by true h = omega arith
    by false h = omega arith

-- the place is among the records, or the next
pub place-le : (m store : List ℕ) (rs : Records) → record_place m rs store ≤ rs.count
unfolding record_place
place-le m store rs =
    let rows = take rs.count rs.rows in
    let short : length rows ≤ rs.count = rw length-take (omega arith) in
    omega (arith, place_index m store 0 rows, index_le m store 0 rows)

-- the list after, by the same search
unfoldable pub added_rows : List ℕ → List ℕ → ℕ → ResponseSlot → ℕ → List SignRoundInfo → List SignRoundInfo
added_rows m store i x k [] = set_slot i x (empty_row (length m)) ∷ []
added_rows m store i x k (row ∷ rows) = cond (are_same_bytes m (row_message k row store)) (set_slot i x row ∷ rows) (row ∷ added_rows m store i x (k + 1) rows)

module _ (m store : List ℕ) (i : ℕ) (x : ResponseSlot) where
  -- the array after, where the record is known
  pub set_known :
      (k : ℕ) (rows : List SignRoundInfo) (c : ℕ) → c ≤ length rows → index m store k (take c rows) < c
      → take c (set rows (index m store k (take c rows)) (set_slot i x (get_or rows (index m store k (take c rows)) no_row))) ≡ added_rows m store i x k (take c rows)
  unfolding index added_rows
  set_known k rows zero l h = let z : ⊥ = omega arith in absurd z
  set_known k [] (suc c) l h = let z : ⊥ = omega arith in absurd z
  set_known k (row ∷ rows) (suc c) l h = by (are_same_bytes m (row_message k row store)) h (set_known (k + 1) rows c (omega arith))
    where
      by : (b : Bool) → cond b 0 (suc (index m store (k + 1) (take c rows))) < suc c
          → (index m store (k + 1) (take c rows) < c → take c (set rows (index m store (k + 1) (take c rows)) (set_slot i x (get_or rows (index m store (k + 1) (take c rows)) no_row))) ≡ added_rows m store i x (k + 1) (take c rows))
          → take (suc c) (set (row ∷ rows) (cond b 0 (suc (index m store (k + 1) (take c rows)))) (set_slot i x (get_or (row ∷ rows) (cond b 0 (suc (index m store (k + 1) (take c rows)))) no_row)))
          ≡ cond b (set_slot i x row ∷ take c rows) (row ∷ added_rows m store i x (k + 1) (take c rows))
      by true h r = refl
      by false h r = ap (λ (l : List SignRoundInfo). row ∷ l) (r (omega arith))

  -- and where it is opened
  pub set_new :
      (k : ℕ) (rows : List SignRoundInfo) (c : ℕ) → c < length rows → index m store k (take c rows) ≡ c
      → take (suc c) (set rows c (set_slot i x (empty_row (length m)))) ≡ added_rows m store i x k (take c rows)
  unfolding index added_rows
  set_new k [] c l h = let z : ⊥ = omega arith in absurd z
  set_new k (row ∷ rows) zero l h = refl
  set_new k (row ∷ rows) (suc c) l h = by (are_same_bytes m (row_message k row store)) h (set_new (k + 1) rows c (omega arith))
    where
      by : (b : Bool) → cond b 0 (suc (index m store (k + 1) (take c rows))) ≡ suc c
          → (index m store (k + 1) (take c rows) ≡ c → take (suc c) (set rows c (set_slot i x (empty_row (length m)))) ≡ added_rows m store i x (k + 1) (take c rows))
          → row ∷ take (suc c) (set rows c (set_slot i x (empty_row (length m)))) ≡ cond b (set_slot i x row ∷ take c rows) (row ∷ added_rows m store i x (k + 1) (take c rows))
      by true h r = let z : ⊥ = omega arith in absurd z
      by false h r = ap (λ (l : List SignRoundInfo). row ∷ l) (r (omega arith))

-- the records from k on, at any store after that differs in the record r alone
module _ (es : List SignerSlot) (n : ℕ) (n≤10 : n ≤ signer_limit) (low : All (λ (e : SignerSlot). e.slot < n) es)
    (m keys nonces store store' : List ℕ) (clock : ℕ) (ids : Ids) (id i r : ℕ) (x : ResponseSlot)
    (rest : (j : ℕ) → (j ≡ r → ⊥) → j < record_limit → Same (message_at j) record_bytes store store') where
  abbrev q : NonceResponse
  q = response_for ids id m keys nonces

  abbrev Known : SignRoundInfo → Type 0
  Known row = row_of es store' r (set_slot i x row) ≡ C.with_response clock q (row_of es store r row)

  abbrev New : Type 0
  New = row_of es store' r (set_slot i x (empty_row (length m))) ≡ C.opened clock q

  pub rows-added :
      (k : ℕ) (rows : List SignRoundInfo) → r ≡ k + index m store k rows → k + length rows ≤ record_limit → All (Good n) rows
      → (index m store k rows < length rows → row_message r (get_or rows (index m store k rows) no_row) store ≡ m → Known (get_or rows (index m store k rows) no_row))
      → (index m store k rows ≡ length rows → New)
      → rows_from es store' k (added_rows m store i x k rows) ≡ C.add_response clock q (rows_from es store k rows)
  unfolding index added_rows rows_from change row_of row_message
  rows-added k [] e l g old new = rw (e, add-zero k) at (ap (λ (y : C.SignRoundInfo). y ∷ []) (new refl))
  rows-added k (row ∷ rows) e l g old new =
      by (are_same_bytes m (row_message k row store)) refl e old new
      (λ e' old' new'. rows-added (k + 1) rows e' (omega arith) g.1 old' new')
    where
      by : (b : Bool) → are_same_bytes m (row_message k row store) ≡ b → r ≡ k + cond b 0 (suc (index m store (k + 1) rows))
          → (cond b 0 (suc (index m store (k + 1) rows)) < suc (length rows)
          → row_message r (get_or (row ∷ rows) (cond b 0 (suc (index m store (k + 1) rows))) no_row) store ≡ m → Known (get_or (row ∷ rows) (cond b 0 (suc (index m store (k + 1) rows))) no_row))
          → (cond b 0 (suc (index m store (k + 1) rows)) ≡ suc (length rows) → New)
          → (r ≡ k + 1 + index m store (k + 1) rows
          → (index m store (k + 1) rows < length rows → row_message r (get_or rows (index m store (k + 1) rows) no_row) store ≡ m → Known (get_or rows (index m store (k + 1) rows) no_row))
          → (index m store (k + 1) rows ≡ length rows → New)
          → rows_from es store' (k + 1) (added_rows m store i x (k + 1) rows) ≡ C.add_response clock q (rows_from es store (k + 1) rows))
          → rows_from es store' k (cond b (set_slot i x row ∷ rows) (row ∷ added_rows m store i x (k + 1) rows))
          ≡ cond b
          (C.with_response clock q (row_of es store k row) ∷ rows_from es store (k + 1) rows)
          (row_of es store k row ∷ C.add_response clock q (rows_from es store (k + 1) rows))
      by true same e old new rec =
          let er : r ≡ k = omega arith in
          let msg : row_message r row store ≡ m = rw er (sym (same_is m (row_message k row store) same)) in
          ap₂ {C = List C.SignRoundInfo} (λ y ys. y ∷ ys) (rw er at (old (omega arith) msg)) (sym (rows_same es n n≤10 low store store' (k + 1) rows (λ j h m. rest j (λ p. omega arith) m) (omega arith) g.1))
      by false same e old new rec =
          ap₂ {C = List C.SignRoundInfo} (λ y ys. y ∷ ys)
          (sym (row_same es n n≤10 low store store' k row g.0 (rest k (λ p. omega arith) (omega arith))))
          (rec (omega arith) (λ h. old (omega arith)) (λ h. new (omega arith)))
