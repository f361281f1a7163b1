-- One record with a response added: what stands for it after is `with_response` of what stood for it before.
-- Assumes nothing.
use Prim.Native.Nat.{ℕ, ◌+◌, ◌*◌, ◌/◌, ◌<◌, ◌≤◌}
use mathlib.Core.Path.{◌≡◌, refl, sym, ap, ap₂, ◌∙◌}
use mathlib.Core.Bool.{Bool, true, false, ◌&&◌}
use mathlib.Core.List.{List, [], ◌∷◌}
use Rattle.std.specs.Prelude.{Some}
use native.Mathlib.Omega.{arith}
use borrow.Author.Tests.{ltb-true, ltb-false}
use lib.Dec.{ltb}
use lib.ListN.{length, get_or, set, take, drop}
use lib.Seq.{get_or-set_same, get_or-set_other}
use Rattle.wire.specs.Bytes.{put, All}
use Rattle.wire.proofs.Buffer.{length-put}
use Rattle.wire.proofs.Lists.{all_imp}
use Rattle.layout.specs.Limits.{message_limit, list_limit, signer_limit, record_limit, store_length}
use Rattle.layout.specs.declared.Ids.{Ids}
use Rattle.layout.specs.Messages.{NonceResponse}
use Rattle.layout.specs.Encode.{arrival_signer}
use Rattle.pieces.specs.Places.{bytes_at, response_at}
use Rattle.step_definition.specs.Lists.{insert_by}
use Rattle.step_definition.specs.Ids.{insert}
use Rattle.step_definition.specs.Coordinator as C
use Rattle.state.specs.declared.fields.ResponseSlot.{ResponseSlot}
use Rattle.state.specs.declared.fields.SignRoundInfo.{SignRoundInfo}
use Rattle.state.specs.declared.fields.SignerSlot.{SignerSlot}
use Rattle.state.specs.Slots.{Rising, signer_slot, collect}
use Rattle.state.specs.Setters.{set_slot}
use Rattle.state.specs.View.{key_bytes, nonce_bytes, response_bytes, record_bytes, message_at, keys_at, nonces_at, no_slot, place_of, held_in}
use Rattle.state.specs.View.{arrival_in, waits_in, row_of, rows_from}
use Rattle.state.proofs.Arrays.{all_both_imp}
use Rattle.state.proofs.SignerSlots.{In}
use Rattle.state.proofs.Collect.{when_same, when_some, collect_same, collect-insert}
use Rattle.state.proofs.Within.{Good, slot-few, row-slot, row-message}
use Rattle.state.proofs.Store.{Same, same_part, same_then, same_bytes, put-after, put-before, put_read}
use Rattle.records.specs.Records.{response_for, row_message, held_slot}

-- a response's bytes are the same
response_same :
    (store store' : List ℕ) (r n : ℕ) (slots : List ResponseSlot) (e : SignerSlot)
    → Same (message_at r) n store store' → Same (keys_at r e.slot) response_bytes store store'
    → (get_or slots e.slot no_slot).key_ids ≤ list_limit → (get_or slots e.slot no_slot).nonces ≤ list_limit
    → response_at store (place_of r n slots e) ≡ response_at store' (place_of r n slots e)
unfolding response_at place_of bytes_at
response_same store store' r n slots e m k few_keys few_nonces =
    let s = get_or slots e.slot no_slot in
    let a : take (n * 1) (drop (message_at r) store) ≡ take (n * 1) (drop (message_at r) store') = same_bytes (same_part (message_at r) (n * 1) m (omega arith) (omega arith)) in
    let b : take (s.key_ids * 4) (drop (keys_at r e.slot) store) ≡ take (s.key_ids * 4) (drop (keys_at r e.slot) store') =
    same_bytes (same_part (keys_at r e.slot) (s.key_ids * 4) k (omega arith) (omega arith)) in
    let d : take (s.nonces * 66) (drop (nonces_at r e.slot) store) ≡ take (s.nonces * 66) (drop (nonces_at r e.slot) store') =
    same_bytes (same_part (nonces_at r e.slot) (s.nonces * 66) k (omega arith) (omega arith)) in
    rw (a, b, d)

module _ (es : List SignerSlot) (n : ℕ) (n≤10 : n ≤ signer_limit) (low : All (λ (e : SignerSlot). e.slot < n) es) where
  held_same :
      (store store' : List ℕ) (r : ℕ) (row : SignRoundInfo) (e : SignerSlot) → Good n row → e.slot < n
      → Same (message_at r) message_limit store store' → Same (keys_at r e.slot) response_bytes store store'
      → held_in r row.message store row.slots e ≡ held_in r row.message store' row.slots e
  held_same store store' r row e g l m k =
      let s = get_or row.slots e.slot no_slot in
      let short = row-message n row g.within in
      when_same s.held _ _
      (λ h. let few = slot-few s (row-slot n e.slot row g.within l) h in
      response_same store store' r row.message row.slots e (same_part (message_at r) row.message m (omega arith) (omega arith)) k few.0 few.1)

  -- a record whose bytes are the same stands for the same
  pub row_same : (store store' : List ℕ) (r : ℕ) (row : SignRoundInfo) → Good n row → Same (message_at r) record_bytes store store' → row_of es store r row ≡ row_of es store' r row
  unfolding row_of bytes_at
  row_same store store' r row g s =
      let short = row-message n row g.within in
      let a : take (row.message * 1) (drop (message_at r) store) ≡ take (row.message * 1) (drop (message_at r) store') =
      same_bytes (same_part (message_at r) (row.message * 1) s (omega arith) (omega arith)) in
      let b : collect (held_in r row.message store row.slots) es ≡ collect (held_in r row.message store' row.slots) es =
      collect_same (held_in r row.message store row.slots) (held_in r row.message store' row.slots) es
      (all_imp es (λ (e : SignerSlot) (l : e.slot < n). held_same store store' r row e g l (same_part (message_at r) message_limit s (omega arith) (omega arith)) (same_part (keys_at r e.slot) response_bytes s (omega arith) (omega arith))) low) in
      rw (a, b)

  -- and so do the records from k on
  pub rows_same :
      (store store' : List ℕ) (k : ℕ) (rows : List SignRoundInfo) → ((j : ℕ) → k ≤ j → j < record_limit → Same (message_at j) record_bytes store store') → k + length rows ≤ record_limit → All (Good n) rows
      → rows_from es store k rows ≡ rows_from es store' k rows
  unfolding rows_from
  rows_same store store' k [] same l g = refl
  rows_same store store' k (row ∷ rows) same l g =
      ap₂ {C = List C.SignRoundInfo} (λ y ys. y ∷ ys) (row_same store store' k row g.0 (same k (omega arith) (omega arith)))
      (rows_same store store' (k + 1) rows (λ j h m. same j (omega arith) m) (omega arith) g.1)

-- a response is its signer's
pub held_id : (r : ℕ) (store : List ℕ) (k : ℕ) (slots : List ResponseSlot) (e : SignerSlot) (y : NonceResponse) → held_in r k store slots e ≡ Some y → C.responder_id y ≡ e.id
unfolding response_at place_of
held_id r store k slots e y h = sym (ap C.responder_id (when_some (get_or slots e.slot no_slot).held (response_at store (place_of r k slots e)) y h))

-- what is known of the response: short lists of whole entries, from a signer in slot i
pub record Sent (m keys nonces : List ℕ) : Type 0 where
  pub short : length m ≤ message_limit
  pub whole_keys : length keys / 4 * 4 ≡ length keys
  pub whole_nonces : length nonces / 66 * 66 ≡ length nonces
  pub few_keys : length keys ≤ key_bytes
  pub few_nonces : length nonces ≤ nonce_bytes

-- the slots' bytes beside those that are written
beside :
    (store keys nonces : List ℕ) (r i j : ℕ) → length keys ≤ key_bytes → length nonces ≤ nonce_bytes → (j ≡ i → ⊥)
    → Same (keys_at r j) response_bytes store (put (put store (keys_at r i) keys) (nonces_at r i) nonces)
beside store keys nonces r i j few_keys few_nonces ne = by (ltb j i) refl
  where
    by : (b : Bool) → ltb j i ≡ b → Same (keys_at r j) response_bytes store (put (put store (keys_at r i) keys) (nonces_at r i) nonces)
    by true l =
        let h = ltb-true j i l in
        same_then (put-after store (keys_at r i) keys (keys_at r j) response_bytes (omega arith)) (put-after (put store (keys_at r i) keys) (nonces_at r i) nonces (keys_at r j) response_bytes (omega arith))
    by false l =
        let h = ltb-false j i l in
        let k : i < j = omega arith in
        same_then (put-before store (keys_at r i) keys (keys_at r j) response_bytes (omega arith)) (put-before (put store (keys_at r i) keys) (nonces_at r i) nonces (keys_at r j) response_bytes (omega arith))

module _ (es : List SignerSlot) (n : ℕ) (n≤10 : n ≤ signer_limit) (low : All (λ (e : SignerSlot). e.slot < n) es) (rising : Rising es)
    (id i : ℕ) (among : In (signer_slot id i) es) (one : All (λ (e : SignerSlot). e.slot ≡ i → e.id ≡ id) es)
    (clock : ℕ) (ids : Ids) (m keys nonces : List ℕ) (sent : Sent m keys nonces) (i<n : i < n)
    (r : ℕ) (r<4 : r < record_limit) where
  abbrev pub slot : ResponseSlot
  slot = held_slot clock ids keys nonces

  abbrev pub q : NonceResponse
  q = response_for ids id m keys nonces

  abbrev pub written : List ℕ → List ℕ
  written store = put (put store (keys_at r i) keys) (nonces_at r i) nonces

  -- the message's bytes stay
  message_beside : (store : List ℕ) (k : ℕ) → k ≤ message_limit → Same (message_at r) k store (written store)
  message_beside store k h =
      same_then (put-after store (keys_at r i) keys (message_at r) k (omega arith)) (put-after (put store (keys_at r i) keys) (nonces_at r i) nonces (message_at r) k (omega arith))

  -- the new response stands where it was written
  new-response :
      (store : List ℕ) (k : ℕ) (slots : List ResponseSlot) → store_length ≤ length store → length slots ≡ signer_limit
      → take (k * 1) (drop (message_at r) store) ≡ m → k ≤ message_limit
      → held_in r k (written store) (set slots i slot) (signer_slot id i) ≡ Some q
  unfolding response_at place_of bytes_at
  new-response store k slots big ten msg short =
      let s = sent in
      let at : get_or (set slots i slot) i no_slot ≡ slot = get_or-set_same slots i slot no_slot (omega arith) in
      let a : take (k * 1) (drop (message_at r) (written store)) ≡ m =
      sym (same_bytes (message_beside store (k * 1) (omega arith))) ∙ msg in
      let b : take (length keys / 4 * 4) (drop (keys_at r i) (written store)) ≡ keys =
      sym (same_bytes (put-after (put store (keys_at r i) keys) (nonces_at r i) nonces (keys_at r i) (length keys / 4 * 4) (omega arith)))
      ∙ put_read store (keys_at r i) keys (length keys / 4 * 4) s.whole_keys (omega arith) in
      let d : take (length nonces / 66 * 66) (drop (nonces_at r i) (written store)) ≡ nonces =
      put_read (put store (keys_at r i) keys) (nonces_at r i) nonces (length nonces / 66 * 66) s.whole_nonces (omega (arith, length-put store (keys_at r i) keys)) in
      rw (at, a, b, d)

  -- another signer's response is as it was
  other-response :
      (store : List ℕ) (row : SignRoundInfo) (e : SignerSlot) → Good n row → e.slot < n → (e.slot ≡ i → e.id ≡ id) → (e.id ≡ id → ⊥)
      → held_in r row.message (written store) (set row.slots i slot) e ≡ held_in r row.message store row.slots e
  unfolding place_of
  other-response store row e g l same ne =
      let s = sent in
      let short = row-message n row g.within in
      let apart : e.slot ≡ i → ⊥ = λ p. ne (same p) in
      rw (get_or-set_other row.slots i e.slot slot no_slot apart)
      (sym (held_same es n n≤10 low store (written store) r row e g l
      (message_beside store message_limit (omega arith))
      (beside store keys nonces r i e.slot s.few_keys s.few_nonces apart)))

  other-waiter :
      (slots : List ResponseSlot) (e : SignerSlot) → (e.slot ≡ i → e.id ≡ id) → (e.id ≡ id → ⊥) → waits_in (set slots i slot) e ≡ waits_in slots e
  other-waiter slots e same ne = rw (get_or-set_other slots i e.slot slot no_slot (λ p. ne (same p)))

  other-arrival :
      (slots : List ResponseSlot) (e : SignerSlot) → (e.slot ≡ i → e.id ≡ id) → (e.id ≡ id → ⊥) → arrival_in (set slots i slot) e ≡ arrival_in slots e
  other-arrival slots e same ne = rw (get_or-set_other slots i e.slot slot no_slot (λ p. ne (same p)))

  -- the record of the message, with the response on it
  pub row-added :
      (store : List ℕ) (row : SignRoundInfo) → store_length ≤ length store → Good n row → row_message r row store ≡ m → (get_or row.slots i no_slot).held ≡ false
      → row_of es (written store) r (set_slot i slot row) ≡ C.with_response clock q (row_of es store r row)
  unfolding row_of row_message bytes_at
  row-added store row big g msg free =
      let s = sent in
      let ten = g.ten in
      let short = row-message n row g.within in
      let at : get_or (set row.slots i slot) i no_slot ≡ slot = get_or-set_same row.slots i slot no_slot (omega arith) in
      let a : take (row.message * 1) (drop (message_at r) (written store)) ≡ take (row.message * 1) (drop (message_at r) store) =
      sym (same_bytes (message_beside store (row.message * 1) (omega arith))) in
      let b : collect (held_in r row.message (written store) (set row.slots i slot)) es ≡ insert_by C.responder_id q (collect (held_in r row.message store row.slots) es) =
      collect-insert C.responder_id (held_in r row.message store row.slots) (held_id r store row.message row.slots) q
      (held_in r row.message (written store) (set row.slots i slot)) (signer_slot id i) es refl (rw free) (new-response store row.message row.slots big ten msg short) rising among
      (all_both_imp es (λ (e : SignerSlot) (l : e.slot < n) (o : e.slot ≡ i → e.id ≡ id). other-response store row e g l o) low one) in
      let t : collect (arrival_in (set row.slots i slot)) es ≡ insert_by arrival_signer (C.arriving clock q) (collect (arrival_in row.slots) es) =
      collect-insert arrival_signer (arrival_in row.slots) (λ e y h. sym (ap arrival_signer (when_some (get_or row.slots e.slot no_slot).held _ y h))) (C.arriving clock q)
      (arrival_in (set row.slots i slot)) (signer_slot id i) es refl (rw free) (rw at) rising among
      (all_imp es (λ (e : SignerSlot) (o : e.slot ≡ i → e.id ≡ id). other-arrival row.slots e o) one) in
      let d : collect (waits_in (set row.slots i slot)) es ≡ insert id (collect (waits_in row.slots) es) =
      collect-insert (λ (x : ℕ). x) (waits_in row.slots) (λ e y h. sym (when_some ((get_or row.slots e.slot no_slot).held && (get_or row.slots e.slot no_slot).waits) e.id y h)) id
      (waits_in (set row.slots i slot)) (signer_slot id i) es refl (rw free) (rw at) rising among
      (all_imp es (λ (e : SignerSlot) (o : e.slot ≡ i → e.id ≡ id). other-waiter row.slots e o) one) in
      rw (a, b, t, d)
