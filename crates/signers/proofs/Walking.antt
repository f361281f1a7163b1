-- Lists made by walking the signers in order.
-- Assumes nothing.
use Prim.Native.Nat.{ℕ, ◌+◌, ◌*◌, ◌-◌, ◌<◌, ◌≤◌}
use mathlib.Core.Path.{◌≡◌, refl, sym, ◌∙◌}
use mathlib.Core.Bool.{Bool, true, false}
use mathlib.Core.List.{List, [], ◌∷◌, ◌++◌, map, append_assoc, append-nil}
use Rattle.std.specs.Prelude.{Option, Some, None}
use native.Mathlib.Numerals.{add-one}
use native.Mathlib.Omega.{arith}
use lib.ListN.{length, get_or, set, take, drop, drop_of_length-le}
use lib.Seq.{take-suc-set, drop-cons}
use Rattle.layout.specs.Limits.{message_limit, list_limit, signer_limit, record_limit, store_length}
use Rattle.pieces.specs.declared.places.ResponsePlace.{ResponsePlace}
use Rattle.pieces.specs.Places.{response_at, holds, response_holds}
use Rattle.wire.specs.Bytes.{every, All}
use Rattle.wire.proofs.Lists.{and_both}
use borrow.Author.Tests.{le-leb}
use Rattle.state.specs.Counts.{row_within_limits}
use Rattle.state.proofs.Within.{slot-few, row-slot, row-message}
use Rattle.pieces.proofs.Given.{drop-live}
use Rattle.job.proofs.Held.{live_none}
use Rattle.state.specs.declared.fields.SignerSlot.{SignerSlot}
use Rattle.state.specs.declared.fields.ResponseSlot.{ResponseSlot}
use Rattle.state.specs.declared.fields.SignRoundInfo.{SignRoundInfo}
use Rattle.state.specs.Slots.{collect, with_some, when}
use Rattle.state.specs.View.{message_at, keys_at, nonces_at, no_slot, place_of, row_of}
use Rattle.signers.specs.Order.{place_in}

-- the place of a response that is held
pub place_there :
    (r : ℕ) (row : SignRoundInfo) (e : SignerSlot) (x : ResponseSlot) (at₁ at₂ : ℕ)
    → x ≡ get_or row.slots e.slot no_slot → x.held ≡ true → at₁ ≡ keys_at r e.slot → at₂ ≡ nonces_at r e.slot
    → ◌≡◌ {A = Option ResponsePlace} (Some (record {
      ids = x.ids;
      signer_id = record { 0 = e.id };
      message = record { at = message_at r; count = row.message };
      key_ids = record { at = at₁; count = x.key_ids };
      nonces = record { at = at₂; count = x.nonces };
    })) (place_in r row e)
unfolding place_of
place_there r row e x at₁ at₂ is held k n = rw (← is, held, k, n)

-- the walk, one signer on
module _ {A : Type 0} (f : SignerSlot → Option A) (xs : List SignerSlot) (n j : ℕ) where
  with_join : (o : Option A) (done ys : List A) → (done ++ with_some o []) ++ ys ≡ done ++ with_some o ys
  unfolding with_some
  with_join None done ys = rw (append-nil done)
  with_join (Some x) done ys = append_assoc done (x ∷ []) ys

  pub walk_next : {t done' : List A} (done : List A) (d : SignerSlot) → j < n → n ≤ length xs → done' ≡ done ++ with_some (f (get_or xs j d)) []
      → done ++ collect f (drop j (take n xs)) ≡ t → done' ++ collect f (drop (j + 1) (take n xs)) ≡ t
  unfolding collect
  walk_next done d h l e g = rw e (with_join (f (get_or xs j d)) done (collect f (drop (j + 1) (take n xs))) ∙ rw (drop-live xs n j d h l) at g)

  pub walk_done : {t : List A} (done : List A) → n ≤ j → done ++ collect f (drop j (take n xs)) ≡ t → done ≡ t
  unfolding collect
  walk_done done h g = sym (append-nil done) ∙ (rw (live_none xs n j h) at g)

-- the walk along a whole list, one signer on: its slot gives one more, or nothing
module _ {A : Type 0} (f : SignerSlot → Option A) (xs : List SignerSlot) (i : ℕ) where
  given_next : (d : SignerSlot) → i < length xs → collect f (drop i xs) ≡ with_some (f (get_or xs i d)) (collect f (drop (i + 1) xs))
  unfolding collect
  given_next d low = rw (drop-cons xs i d low, add-one i)

  pub along_some :
      {t : List A} (d : SignerSlot) → i < length xs → (out : List A) (n : ℕ) (x : A) → n < length out → f (get_or xs i d) ≡ Some x
      → take n out ++ collect f (drop i xs) ≡ t → take (n + 1) (set out n x) ++ collect f (drop (i + 1) xs) ≡ t
  unfolding with_some
  along_some d low out n x room e t =
      rw (add-one n, take-suc-set out n x room)
      (append_assoc (take n out) (x ∷ []) (collect f (drop (i + 1) xs)) ∙ rw (given_next d low, e) at t)

  pub along_none :
      {t : List A} (ys : List A) (d : SignerSlot) → i < length xs → f (get_or xs i d) ≡ None → ys ++ collect f (drop i xs) ≡ t
      → ys ++ collect f (drop (i + 1) xs) ≡ t
  unfolding with_some
  along_none ys d low e t = rw (given_next d low, e) at t

  pub along_end : {t : List A} (ys : List A) → length xs ≤ i → ys ++ collect f (drop i xs) ≡ t → ys ≡ t
  unfolding collect
  along_end ys h e = sym (append-nil ys) ∙ rw (drop_of_length-le xs {i = i} h) at e

-- the responses at these places are the record's
pub collect-map : {A B : Type 0} (g : A → B) (f : SignerSlot → Option A) (h : SignerSlot → Option B) (es : List SignerSlot)
    → ((e : SignerSlot) (xs : List A) → with_some (h e) (map g xs) ≡ map g (with_some (f e) xs)) → collect h es ≡ map g (collect f es)
unfolding collect
collect-map g f h [] k = refl
collect-map g f h (e ∷ es) k = rw (collect-map g f h es k) (k e (collect f es))

pub responses_at : (es : List SignerSlot) (store : List ℕ) (r : ℕ) (row : SignRoundInfo) → (row_of es store r row).public_nonces ≡ map (response_at store) (collect (place_in r row) es)
unfolding row_of with_some
responses_at es store r row = collect-map (response_at store) (place_in r row) _ es (λ e xs. by (get_or row.slots e.slot no_slot).held e xs)
  where
    by : (b : Bool) (e : SignerSlot) (xs : List ResponsePlace) → with_some (when b (response_at store (place_of r row.message row.slots e))) (map (response_at store) xs) ≡ map (response_at store) (with_some (when b (place_of r row.message row.slots e)) xs)
    by true e xs = refl
    by false e xs = refl

-- the places of a record's responses lie in the store, so the writer takes them
place-holds : (size r n : ℕ) (row : SignRoundInfo) (e : SignerSlot) → store_length ≤ size → r < record_limit → e.slot < signer_limit → row.message ≤ message_limit
    → (get_or row.slots e.slot no_slot).key_ids ≤ list_limit → (get_or row.slots e.slot no_slot).nonces ≤ list_limit
    → response_holds size (place_of r row.message row.slots e) ≡ true
unfolding response_holds holds place_of
place-holds size r n row e big low slot short keys nonces =
    let s = get_or row.slots e.slot no_slot in
    and_both _ _ (and_both _ _
    (and_both _ _ (and_both _ _ (le-leb row.message message_limit short) (le-leb (message_at r) size (omega arith))) (le-leb (row.message * 1) (size - message_at r) (omega arith)))
    (and_both _ _ (and_both _ _ (le-leb s.key_ids list_limit keys) (le-leb (keys_at r e.slot) size (omega arith))) (le-leb (s.key_ids * 4) (size - keys_at r e.slot) (omega arith))))
    (and_both _ _ (and_both _ _ (le-leb s.nonces list_limit nonces) (le-leb (nonces_at r e.slot) size (omega arith))) (le-leb (s.nonces * 66) (size - nonces_at r e.slot) (omega arith)))

pub places_hold :
    (size r n : ℕ) (row : SignRoundInfo) (es : List SignerSlot) → store_length ≤ size → r < record_limit → n ≤ signer_limit → row_within_limits n row ≡ true → All (λ (e : SignerSlot). e.slot < n) es
    → every (response_holds size) (collect (place_in r row) es) ≡ true
unfolding collect with_some
places_hold size r n row [] big low few w a = refl
places_hold size r n row (e ∷ es) big low few w a = by (get_or row.slots e.slot no_slot).held refl (places_hold size r n row es big low few w a.1)
  where
    by : (b : Bool) → (get_or row.slots e.slot no_slot).held ≡ b → every (response_holds size) (collect (place_in r row) es) ≡ true
        → every (response_holds size) (with_some (when b (place_of r row.message row.slots e)) (collect (place_in r row) es)) ≡ true
    by true h f =
        let k = slot-few (get_or row.slots e.slot no_slot) (row-slot n e.slot row w a.0) h in
        and_both (response_holds size (place_of r row.message row.slots e)) (every (response_holds size) (collect (place_in r row) es))
        (place-holds size r n row e big low (omega (arith, a.0)) (row-message n row w) k.0 k.1) f
    by false h f = f
