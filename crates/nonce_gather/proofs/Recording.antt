-- A response that was recorded: its message has a record, within the limits, in the arrays' places.
-- Assumes nothing.
use Prim.Native.Nat.{ℕ, ◌+◌, ◌<◌}
use mathlib.Core.Path.{◌≡◌, refl, ◌∙◌}
use mathlib.Core.Bool.{Bool, true, false, cond}
use mathlib.Core.List.{List, [], ◌∷◌}
use Rattle.std.specs.Prelude.{Some, None}
use native.Mathlib.Omega.{arith}
use borrow.Author.Tests.{ltb-true, ltb-false}
use lib.Dec.{ltb}
use lib.ListN.{length, set, get_or, length-set, length-replicate}
use Rattle.wire.specs.Bytes.{put, All}
use Rattle.wire.proofs.Buffer.{length-put}
use Rattle.wire.proofs.SameBytes.{same_self}
use Rattle.layout.specs.Limits.{signer_limit, record_limit}
use Rattle.layout.specs.declared.Ids.{Ids}
use Rattle.layout.specs.Messages.{NonceResponse}
use Rattle.pieces.proofs.Given.{live_at}
use Rattle.step_definition.specs.Lists.{find, change}
use Rattle.step_definition.specs.Coordinator as C
use Rattle.step_definition.specs.Effects.{recording}
use Rattle.state.specs.declared.fields.SignRoundInfo.{SignRoundInfo}
use Rattle.state.specs.declared.fields.Coordinator.{Coordinator}
use Rattle.state.specs.Setters.{set_slot, set_records}
use Rattle.state.specs.Counts.{is_within_limits, row_within_limits}
use Rattle.state.specs.View.{message_at, keys_at, nonces_at, no_row, no_slot, coordinator_of}
use Rattle.state.proofs.Arrays.{all_set, all_get}
use Rattle.state.proofs.Within.{within, config_few, records_few, rows_within}
use Rattle.state.proofs.Shape.{Shaped}
use Rattle.records.specs.declared.verdicts.Verdict.TheVariants.{Record}
use Rattle.records.specs.Records.{response_for, record_place, empty_row, opened, opened_store, held_slot, added_records, added_store, Placed}
use Rattle.records.specs.Verdicts.{verdict_of, VerdictReady}
use Rattle.records.proofs.AddResponse.{Sent}
use Rattle.records.proofs.Asking.{slot_low}
use Rattle.records.proofs.Recordable.{Recordable, recordable}
use Rattle.records.proofs.Decided.{no_record}
use Rattle.records.proofs.Effect.{after_within, recorded_seen}
use Rattle.share_request.specs.Asking.{Known}
use Rattle.nonce_gather.specs.NonceGather.{NoncesGathering, ResponseRecorded}

-- after a response was put in, its message has a record
never : {A B : Type 0} {a : A} → Some a ≡ None → B
never e = let z : ◌≡◌ {A = ℕ} 0 1 = cc in let f : ⊥ = omega arith in absurd f

pub has_record : {A : Type 0} (clock : ℕ) (q : NonceResponse) (rs : List C.SignRoundInfo) → C.record_of q.message (C.add_response clock q rs) ≡ None → A
unfolding change
has_record clock q [] e = never (rw (same_self q.message) at e)
has_record {A} clock q (x ∷ xs) e = by (C.is_for q.message x) refl e (has_record clock q xs)
  where
    by : (b : Bool) → C.is_for q.message x ≡ b
        → find (C.is_for q.message) (cond b (C.with_response clock q x ∷ xs) (x ∷ C.add_response clock q xs)) ≡ None
        → (C.record_of q.message (C.add_response clock q xs) ≡ None → A) → A
    by true t e f = never (rw t at e)
    by false t e f = f (rw t at e)

-- the arrays keep their lengths
abbrev Ten : SignRoundInfo → Type 0
Ten row = length row.slots ≡ signer_limit

module _ (s : Coordinator) (shaped : Shaped s) (r i : ℕ) (r<4 : r < record_limit) (clock : ℕ) (ids : Ids) (m keys nonces : List ℕ) where
  opened_shaped : (length (opened r (length m) s.records).rows ≡ record_limit) × All Ten (opened r (length m) s.records).rows
  unfolding opened
  opened_shaped = by (ltb r s.records.count)
    where
      by : (b : Bool)
          → (length (cond b s.records (record { rows = set s.records.rows r (empty_row (length m)); count = s.records.count + 1 })).rows ≡ record_limit)
          × All Ten (cond b s.records (record { rows = set s.records.rows r (empty_row (length m)); count = s.records.count + 1 })).rows
      by true = (shaped.rows, shaped.slots)
      by false = (
        length-set s.records.rows r (empty_row (length m)) ∙ shaped.rows,
        all_set Ten s.records.rows r (empty_row (length m)) (length-replicate signer_limit no_slot) shaped.slots,
      )

  pub added_shaped : Shaped (set_records (added_records clock r i ids m keys nonces s.records) s)
  unfolding added_records
  added_shaped =
      let o = opened r (length m) s.records in
      let row = get_or o.rows r no_row in
      let x = held_slot clock ids keys nonces in
      let l = opened_shaped.0 in
      let ten : Ten row = all_get Ten o.rows r no_row (omega arith) opened_shaped.1 in
      record {
        signers = shaped.signers;
        rows = length-set o.rows r (set_slot i x row) ∙ l;
        slots = all_set Ten o.rows r (set_slot i x row) (length-set row.slots i x ∙ ten) opened_shaped.1;
        shares = shaped.shares;
      }

-- what a response is known to be
module _ {s : Coordinator} {store m keys nonces : List ℕ} {room : ℕ} (g : NoncesGathering s store m keys nonces room) where
  pub sent : Sent m keys nonces
  sent =
      record { short = g.short; whole_keys = g.whole_keys; whole_nonces = g.whole_nonces; few_keys = g.few_keys; few_nonces = g.few_nonces }

  pub ready : VerdictReady s keys
  ready = record { signers = config_few s (within s g.within); records = records_few s (within s g.within); keys_few = g.few_keys }

  -- the verdict is to record it
  module _ (clock : ℕ) (ids : Ids) (id r i : ℕ) (shaped : Shaped s) (v : verdict_of s ids id store m keys nonces ≡ Record r i) where
    abbrev at : (r ≡ record_place m s.records store) × Recordable s store m id i
    at = recordable s ids id store m keys nonces r i v

    abbrev after : Coordinator
    after = set_records (added_records clock r i ids m keys nonces s.records) s

    abbrev store' : List ℕ
    store' = added_store r i m keys nonces s.records store

    row_low : r < record_limit
    row_low = omega (arith, at.0, at.1.room)

    pub placed : Placed s.records r i
    placed =
        record {
          few = records_few s (within s g.within);
          row = row_low;
          slot = omega (arith, slot_low s.config id i at.1.found, config_few s (within s g.within));
        }

    pub kept_length : length store' ≡ length store
    unfolding added_store opened_store
    kept_length = by (ltb r s.records.count)
      where
        by : (b : Bool) → length (put (put (cond b store (put store (message_at r) m)) (keys_at r i) keys) (nonces_at r i) nonces) ≡ length store
        by true = length-put _ (nonces_at r i) nonces ∙ length-put store (keys_at r i) keys
        by false = length-put _ (nonces_at r i) nonces ∙ length-put _ (keys_at r i) keys ∙ length-put store (message_at r) m

    pub after_is_within : is_within_limits after ≡ true
    after_is_within = rw at.0 (after_within s store shaped g.within g.stored clock ids id i m keys nonces sent at.1)

    pub seen : coordinator_of after store' ≡ recording clock (response_for ids id m keys nonces) (coordinator_of s store)
    seen = rw at.0 (recorded_seen s store shaped g.within g.stored clock ids id i m keys nonces sent at.1)

    -- its message has a record then
    is_known : record_place m after.records store' < after.records.count
    is_known = by (ltb (record_place m after.records store') after.records.count) refl
      where
        by : (b : Bool) → ltb (record_place m after.records store') after.records.count ≡ b
            → record_place m after.records store' < after.records.count
        by true e = ltb-true _ _ e
        by false e =
            let gone : C.record_of m (coordinator_of after store').round.message_nonces ≡ None =
            no_record after store' (added_shaped s shaped r i row_low clock ids m keys nonces) after_is_within m (ltb-false _ _ e) in
            has_record clock (response_for ids id m keys nonces) (coordinator_of s store).round.message_nonces (rw seen at gone)

    pub recorded : ResponseRecorded after store' m room
    recorded =
        record { within = after_is_within; known = is_known; stored = omega (arith, kept_length, g.stored); short = g.short; wide = g.wide }

-- the record's row is within the limits
pub row_known :
    {s : Coordinator} {store m : List ℕ} {room : ℕ} (r : ℕ) → Shaped s → r ≡ record_place m s.records store
    → ResponseRecorded s store m room → Known s r (length store) (length m) room
row_known {s} {store} {m} r shaped at k =
    let few = records_few s (within s k.within) in
    let four = shaped.rows in
    let low : r < s.records.count = omega (arith, at, k.known) in
    record {
      within = k.within;
      row = omega arith;
      row_within = live_at (row_within_limits s.config.count) s.records.rows s.records.count r no_row low (omega arith) (rows_within s (within s k.within));
      stored = k.stored;
      short = k.short;
      wide = k.wide;
    }
