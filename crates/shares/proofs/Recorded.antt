-- Recording a signer's shares, of the whole struct and store: what stands for them after is the step's coordinator with the shares put in.
-- Assumes nothing.
use Prim.Native.Nat.{ℕ, ◌<◌, ◌≤◌}
use mathlib.Core.Path.{◌≡◌, refl, sym, ap, ◌∙◌}
use mathlib.Core.Bool.{Bool, true, false}
use mathlib.Core.List.{List, map}
use Rattle.std.specs.Prelude.{Some}
use native.Mathlib.Omega.{arith}
use borrow.Author.Tests.{le-leb, ltb-true, ltb-false}
use lib.Dec.{ltb, leb}
use lib.ListN.{length, get_or, set, length-set}
use lib.Seq.{get_or-set_same, get_or-set_other}
use Rattle.wire.specs.Bytes.{All}
use Rattle.wire.proofs.Lists.{and_both}
use Rattle.layout.specs.Limits.{list_limit, signer_limit, store_length}
use Rattle.layout.specs.Messages.{SignatureShareResponse}
use Rattle.layout.specs.Decode.{share_in}
use Rattle.step_definition.specs.Lists.{insert_by}
use Rattle.step_definition.specs.Coordinator as C
use Rattle.step_definition.specs.Effects.{keeping}
use Rattle.state.specs.declared.fields.ShareSlot.{ShareSlot}
use Rattle.state.specs.declared.fields.Coordinator.{Coordinator}
use Rattle.state.specs.declared.fields.SignerSlot.{SignerSlot}
use Rattle.state.specs.Slots.{signer_slot, collect}
use Rattle.state.specs.Setters.{set_shares}
use Rattle.state.specs.Counts.{sum, shares_within, is_within_limits}
use Rattle.state.specs.View.{shares_start, share_bytes, shares_at_place, share_keys_at, no_shares, shares_in, shares_of, ids_of, slots_of, coordinator_of, round_of, standing_of}
use Rattle.state.proofs.Arrays.{every_set, all_both_imp}
use Rattle.state.proofs.SignerSlots.{slots_rise, slots-live, slots_one, slot_in}
use Rattle.state.proofs.Collect.{when_some, collect-insert}
use Rattle.state.proofs.Within.{within, is_within, config_few}
use Rattle.state.proofs.Store.{Same}
use Rattle.state.proofs.Shape.{Shaped, slot_kept}
use Rattle.records.specs.Admits.{slot_of}
use Rattle.records.proofs.Asking.{slot_low}
use Rattle.shares.specs.Shares.{Shareable, part_keys, kept_store, kept_slot, kept_shares}
use Rattle.shares.proofs.Parts.{Whole, all_whole, keys_few}
use Rattle.shares.proofs.Counts.{counts_read}
use Rattle.shares.proofs.Apart.{below, above, shares-apart, length-shares}
use Rattle.shares.proofs.ReadBack.{read_back}
use Rattle.shares.proofs.RowsKept.{records_kept}

-- the slot's counts are within the limits
pub slot-within : (ps : List (List ℕ)) → Shareable ps → shares_within (kept_slot ps) ≡ true
unfolding shares_within
slot-within ps g =
    rw (counts_read ps)
    (and_both (leb (length ps) list_limit) (leb (sum (map part_keys ps)) list_limit) (le-leb (length ps) list_limit g.few) (le-leb (sum (map part_keys ps)) list_limit (keys_few ps g)))

-- a slot's shares are its signer's
shares-id : (store : List ℕ) (slots : List ShareSlot) (e : SignerSlot) (y : C.SignerShares) → shares_in store slots e ≡ Some y → C.sharer_id y ≡ e.id
shares-id store slots e y h =
    sym (ap C.sharer_id (when_some (get_or slots e.slot no_shares).held (shares_of store e (get_or slots e.slot no_shares)) y h))

module _ (s : Coordinator) (store : List ℕ) (shaped : Shaped s) (w : is_within_limits s ≡ true) (big : store_length ≤ length store)
    (id i : ℕ) (found : slot_of id s.config ≡ Some i) (free : (get_or s.shares.slots i no_shares).held ≡ false)
    (ps : List (List ℕ)) (ok : Shareable ps) where
  abbrev after : Coordinator
  after = set_shares (kept_shares i ps s.shares) s

  abbrev store' : List ℕ
  store' = kept_store i ps store

  abbrev n : ℕ
  n = s.config.count

  abbrev x : C.SignerShares
  x = record { signer_id = id; signature_shares = map share_in ps }

  n≤10 : n ≤ signer_limit
  n≤10 = config_few s (within s w)

  i<n : i < n
  i<n = slot_low s.config id i found

  wholes : All Whole ps
  wholes = all_whole ps ok.whole

  -- the records' places, and another slot's
  records_apart : Same 0 shares_start store store'
  records_apart = shares-apart (shares_at_place i) (share_keys_at i) ps store wholes (below (omega arith)) (below (omega arith))

  slot_apart : (j : ℕ) → (j ≡ i → ⊥) → Same (shares_at_place j) share_bytes store store'
  slot_apart j ne = by (ltb j i) refl
    where
      by : (b : Bool) → ltb j i ≡ b → Same (shares_at_place j) share_bytes store store'
      by true l =
          let h = ltb-true j i l in
          shares-apart (shares_at_place i) (share_keys_at i) ps store wholes (below (omega arith)) (below (omega arith))
      by false l =
          let h = ltb-false j i l in
          let k : i < j = omega arith in
          let t = keys_few ps ok in
          let f = ok.few in
          shares-apart (shares_at_place i) (share_keys_at i) ps store wholes (above (omega arith)) (above (omega arith))

  -- the new shares stand where they were written
  new_shares : shares_in store' (set s.shares.slots i (kept_slot ps)) (signer_slot id i) ≡ Some x
  new_shares =
      let ten = shaped.shares in
      let h = n≤10 in
      let l = i<n in
      let f = ok.few in
      let t = keys_few ps ok in
      let at : get_or (set s.shares.slots i (kept_slot ps)) i no_shares ≡ kept_slot ps = get_or-set_same s.shares.slots i (kept_slot ps) no_shares (omega arith) in
      rw (at, counts_read ps, read_back (shares_at_place i) (share_keys_at i) ps store wholes (omega arith) (omega arith))

  -- another signer's shares are as they were
  other_shares : (e : SignerSlot) → e.slot < n → (e.slot ≡ i → e.id ≡ id) → (e.id ≡ id → ⊥) → shares_in store' (set s.shares.slots i (kept_slot ps)) e ≡ shares_in store s.shares.slots e
  other_shares e l same ne =
      let apart : e.slot ≡ i → ⊥ = λ p. ne (same p) in
      rw (get_or-set_other s.shares.slots i e.slot (kept_slot ps) no_shares apart)
      (sym (slot_kept n store store' s.shares.slots n≤10 shaped.shares (within s w).shares e l (slot_apart e.slot apart)))

  shares_put : collect (shares_in store' (set s.shares.slots i (kept_slot ps))) (slots_of s.config) ≡ insert_by C.sharer_id x (collect (shares_in store s.shares.slots) (slots_of s.config))
  shares_put =
      let es = slots_of s.config in
      collect-insert C.sharer_id (shares_in store s.shares.slots) (shares-id store s.shares.slots) x
      (shares_in store' (set s.shares.slots i (kept_slot ps))) (signer_slot id i) es refl (rw free) new_shares
      (slots_rise 0 (ids_of s.config)) (slot_in id 0 (ids_of s.config) i found)
      (all_both_imp es (λ (e : SignerSlot) (l : e.slot < n) (o : e.slot ≡ i → e.id ≡ id). other_shares e l o) (slots-live s.config) (slots_one id (ids_of s.config) i found))

  -- the counts after are within the limits
  pub kept_within : is_within_limits after ≡ true
  kept_within =
      let t = within s w in
      is_within after
      (record { config = t.config; message = t.message; records = t.records; shares = every_set shares_within n s.shares.slots i (kept_slot ps) (slot-within ps ok) t.shares })

  -- ten slots as before
  pub kept_shaped : Shaped after
  kept_shaped =
      record { signers = shaped.signers; rows = shaped.rows; slots = shaped.slots; shares = length-set s.shares.slots i (kept_slot ps) ∙ shaped.shares }

  pub kept_length : length store' ≡ length store
  kept_length = length-shares (shares_at_place i) (share_keys_at i) ps store

  -- the coordinator after is the step's, with these shares put in by signer id
  pub shares_recorded : (r : SignatureShareResponse) → r.signer_id ≡ id → r.signature_shares ≡ map share_in ps → coordinator_of after store' ≡ keeping r (coordinator_of s store)
  unfolding coordinator_of round_of standing_of
  shares_recorded r by said = rw (by, said, shares_put, ← records_kept s shaped w store store' records_apart)
