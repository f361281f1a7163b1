-- The joined list, list by list.
-- Assumes nothing.
use Prim.Native.Nat.{ℕ, suc, ◌+◌, ◌<◌, ◌≤◌}
use mathlib.Core.Path.{◌≡◌, refl, sym, ap, ◌∙◌}
use mathlib.Core.Bool.{Bool, true, false, cond}
use mathlib.Core.List.{List, [], ◌∷◌, ◌++◌, append-nil, append_assoc}
use native.Mathlib.Numerals.{add-one}
use native.Mathlib.Omega.{arith}
use lib.ListN.{length, get_or, take, drop, length-take}
use lib.Seq.{split_at, take-suc, get_or-take}
use Rattle.wire.specs.Bytes.{All}
use Rattle.layout.specs.Decode.{ids_in}
use Rattle.pieces.specs.Places.{bytes_at, response_at}
use Rattle.step_definition.specs.Ids.{distinct}
use Rattle.step_definition.specs.Effects.{joined_keys}
use Rattle.step_definition.proofs.Repeats.{distinct_append}
use Rattle.state.specs.declared.fields.SignerSlot.{SignerSlot}
use Rattle.state.specs.declared.fields.SignRoundInfo.{SignRoundInfo}
use Rattle.state.specs.Slots.{collect, with_some, when, signer_slot}
use Rattle.state.specs.View.{keys_at, row_of, place_of, no_slot}
use Rattle.state.proofs.Arrays.{all_get}
use Rattle.signers.specs.declared.order.Order.{Order}
use Rattle.signers.specs.Order.{ordered}
use Rattle.signing_job.specs.SigningJob.{responses}
use Rattle.signing_job.specs.SentKeys.{sent_keys}

module _ (store : List ℕ) (r : ℕ) (row : SignRoundInfo) where
  -- the lists of these signers, joined
  abbrev pub lists : List SignerSlot → List ℕ
  lists es = joined_keys (responses es store r row)

  abbrev pub list_of : SignerSlot → List ℕ
  list_of e = sent_keys store r e.slot (get_or row.slots e.slot no_slot)

  lists_cons : (e : SignerSlot) (es : List SignerSlot) → lists (e ∷ es) ≡ list_of e ++ lists es
  unfolding row_of collect with_some joined_keys response_at place_of sent_keys
  lists_cons e es = by (get_or row.slots e.slot no_slot).held
    where
      by : (b : Bool)
          → joined_keys (with_some (when b (response_at store (place_of r row.message row.slots e))) (responses es store r row))
          ≡ cond b (ids_in (bytes_at 4 (record { at = keys_at r e.slot; count = (get_or row.slots e.slot no_slot).key_ids }) store)) []
          ++ lists es
      by true = refl
      by false = refl

  lists_append : (es fs : List SignerSlot) → lists (es ++ fs) ≡ lists es ++ lists fs
  unfolding row_of collect joined_keys
  lists_append [] fs = refl
  lists_append (e ∷ es) fs =
      rw (lists_cons e (es ++ fs), lists_append es fs, lists_cons e es) (sym (append_assoc (list_of e) (lists es) (lists fs)))

  -- the jth of the signers
  module _ (es : List SignerSlot) (j : ℕ) (there : j < length es) where
    abbrev here : SignerSlot
    here = get_or es j (signer_slot 0 0)

    -- one list more
    pub lists_next : lists (take (j + 1) es) ≡ lists (take j es) ++ list_of here
    unfolding row_of collect joined_keys
    lists_next =
        let one : lists (here ∷ []) ≡ list_of here = lists_cons here [] ∙ append-nil (list_of here) in
        rw (add-one, take-suc es j (signer_slot 0 0) there, lists_append (take j es) (here ∷ []), one)

    -- what is twice in the lists so far is twice in all
    pub twice_in_all : distinct (lists (take j es) ++ list_of here) ≡ false → distinct (lists es) ≡ false
    twice_in_all twice =
        let rest = lists (drop (suc j) es) in
        let parts : lists es ≡ (lists (take j es) ++ list_of here) ++ rest =
        ap lists (split_at es j (signer_slot 0 0) there) ∙ lists_append (take j es) (here ∷ drop (suc j) es)
        ∙ ap (λ (l : List ℕ). lists (take j es) ++ l) (lists_cons here (drop (suc j) es))
        ∙ sym (append_assoc (lists (take j es)) (list_of here) rest) in
        ap distinct parts ∙ rw (distinct_append (lists (take j es) ++ list_of here) rest, twice)
