-- The arrays' lengths, as a fact of a struct; and reading shares beside bytes written elsewhere.
-- Assumes nothing.
use Prim.Native.Nat.{ℕ, ◌+◌, ◌*◌, ◌<◌, ◌≤◌}
use mathlib.Core.Path.{◌≡◌, refl}
use mathlib.Core.Bool.{true, ◌&&◌}
use mathlib.Core.List.{List, [], ◌∷◌}
use native.Mathlib.Omega.{arith}
use borrow.Author.Tests.{leb-true}
use lib.Dec.{leb}
use lib.ListN.{length, get_or, take, drop, length-take}
use mir.Val.{Val}
use denote.Laws.{Is}
use Rattle.wire.specs.Bytes.{every, All}
use Rattle.wire.proofs.Lists.{and_left, and_right, all_imp, all_both, every_all}
use Rattle.layout.specs.Limits.{list_limit, signer_limit, record_limit}
use Rattle.job.specs.Job.{shares_from}
use Rattle.pieces.proofs.Given.{live_at}
use Rattle.state.specs.declared.fields.SignRoundInfo.{SignRoundInfo}
use Rattle.state.specs.declared.fields.ShareSlot.{ShareSlot}
use Rattle.state.specs.declared.fields.Coordinator.{Coordinator}
use Rattle.state.specs.declared.fields.SignerSlot.{SignerSlot}
use Rattle.state.specs.Slots.{collect}
use Rattle.state.specs.Counts.{sum, row_within_limits, shares_within, is_within_limits}
use Rattle.state.specs.View.{shares_start, share_bytes, shares_at_place, share_keys_at, no_shares, shares_in}
use Rattle.state.specs.contracts.fields.Coordinator as Coordinator-row
use Rattle.state.proofs.Given.{signers_10, rows_4, records-slots, shares_10}
use Rattle.state.proofs.Arrays.{all_take}
use Rattle.state.proofs.Collect.{when_same, collect_same}
use Rattle.state.proofs.Within.{Good, within, rows_within}
use Rattle.state.proofs.Store.{Same, same_part, same_bytes}

pub record Shaped (s : Coordinator) : Type 0 where
  pub signers : length s.config.signers ≡ signer_limit
  pub rows : length s.records.rows ≡ record_limit
  pub slots : All (λ (row : SignRoundInfo). length row.slots ≡ signer_limit) s.records.rows
  pub shares : length s.shares.slots ≡ signer_limit

-- every struct's arrays have these lengths
pub shape : (s : Coordinator) (vs : List Val) → Is Coordinator-row.the_row s vs → Shaped s
shape s vs g =
    record {
      signers = signers_10 s.config _ g.1.1.1.0;
      rows = rows_4 s.records _ g.1.1.1.1.1.1.1.0;
      slots = records-slots s.records _ g.1.1.1.1.1.1.1.0;
      shares = shares_10 s.shares _ g.1.1.1.1.1.1.1.1.0;
    }

-- the records that count have ten slots and short lists
pub rows-good : (s : Coordinator) → Shaped s → is_within_limits s ≡ true → All (Good s.config.count) (take s.records.count s.records.rows)
rows-good s shaped w =
    let n = s.config.count in
    let live = take s.records.count s.records.rows in
    all_imp {Q = Good n} live (λ (row : SignRoundInfo) (p : (length row.slots ≡ signer_limit) × (row_within_limits n row ≡ true)). record { ten = p.0; within = p.1 })
    (all_both (λ (row : SignRoundInfo). length row.slots ≡ signer_limit) (λ (row : SignRoundInfo). row_within_limits n row ≡ true) live
    (all_take (λ (row : SignRoundInfo). length row.slots ≡ signer_limit) s.records.count s.records.rows shaped.slots)
    (every_all (row_within_limits n) live (rows_within s (within s w))))

shares_same : (store store' : List ℕ) (at keys : ℕ) (ns : List ℕ) → Same at (36 * length ns) store store' → Same keys (4 * sum ns) store store' → shares_from store at keys ns ≡ shares_from store' at keys ns
unfolding shares_from sum
shares_same store store' at keys [] s k = refl
shares_same store store' at keys (n ∷ ns) s k =
    let a : take 4 (drop at store) ≡ take 4 (drop at store') = same_bytes (same_part at 4 s (omega arith) (omega arith)) in
    let b : take 32 (drop (at + 4) store) ≡ take 32 (drop (at + 4) store') = same_bytes (same_part (at + 4) 32 s (omega arith) (omega arith)) in
    let d : take (n * 4) (drop keys store) ≡ take (n * 4) (drop keys store') = same_bytes (same_part keys (n * 4) k (omega arith) (omega arith)) in
    rw (a, b, d, shares_same store store' (at + 36) (keys + n * 4) ns (same_part (at + 36) (36 * length ns) s (omega arith) (omega arith)) (same_part (keys + n * 4) (4 * sum ns) k (omega arith) (omega arith)))

-- one slot's shares, where nothing is written in its place
pub slot_kept :
    (n : ℕ) (store store' : List ℕ) (slots : List ShareSlot) → n ≤ signer_limit → length slots ≡ signer_limit → every shares_within (take n slots) ≡ true
    → (e : SignerSlot) → e.slot < n → Same (shares_at_place e.slot) share_bytes store store' → shares_in store slots e ≡ shares_in store' slots e
unfolding shares_within
slot_kept n store store' slots few ten w e l same =
    let s = get_or slots e.slot no_shares in
    let ok : shares_within s ≡ true = live_at shares_within slots n e.slot no_shares l (omega arith) w in
    when_same s.held _ _
    (λ h. let both : leb s.count list_limit && leb (sum (take s.count s.key_counts)) list_limit ≡ true = rw h at ok in
    let c : s.count ≤ list_limit = leb-true _ _ (and_left (leb s.count list_limit) (leb (sum (take s.count s.key_counts)) list_limit) both) in
    let k : sum (take s.count s.key_counts) ≤ list_limit = leb-true _ _ (and_right (leb s.count list_limit) (leb (sum (take s.count s.key_counts)) list_limit) both) in
    let t : length (take s.count s.key_counts) ≤ list_limit = rw length-take (omega arith) in
    rw (shares_same store store' (shares_at_place e.slot) (share_keys_at e.slot) (take s.count s.key_counts)
    (same_part (shares_at_place e.slot) (36 * length (take s.count s.key_counts)) same (omega arith) (omega arith))
    (same_part (share_keys_at e.slot) (4 * sum (take s.count s.key_counts)) same (omega arith) (omega arith))))

-- the shares that are held, where nothing is written past the records
pub shares_kept :
    (es : List SignerSlot) (n : ℕ) (store store' : List ℕ) (slots : List ShareSlot) → n ≤ signer_limit → length slots ≡ signer_limit → All (λ (e : SignerSlot). e.slot < n) es
    → every shares_within (take n slots) ≡ true → Same shares_start (signer_limit * share_bytes) store store' → collect (shares_in store slots) es ≡ collect (shares_in store' slots) es
shares_kept es n store store' slots few ten low w same =
    collect_same (shares_in store slots) (shares_in store' slots) es
    (all_imp es (λ (e : SignerSlot) (l : e.slot < n). slot_kept n store store' slots few ten w e l (same_part (shares_at_place e.slot) share_bytes same (omega arith) (omega arith))) low)
