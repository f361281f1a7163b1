-- What is asked of a response: the struct's answer is the step's, of what the struct stands for.
-- Assumes nothing.
use Prim.Native.Nat.{ℕ, suc, ◌+◌, ◌<◌}
use mathlib.Core.Path.{◌≡◌, refl, sym, ap, ◌∙◌}
use mathlib.Core.Bool.{Bool, true, false, cond, not, ◌&&◌}
use mathlib.Core.List.{List, [], ◌∷◌, map}
use Rattle.std.specs.Prelude.{Some, None, Option}
use native.Mathlib.Omega.{arith}
use native.Mathlib.Nat.{add-zero}
use borrow.Author.Tests.{lt-ltb, le-ltb, ltb-true, ltb-false}
use lib.Dec.{eqb, ltb}
use Rattle.std.specs.List.{position, position_or_len}
use lib.ListN.{length, get_or}
use Rattle.layout.specs.Messages.{NonceResponse}
use Rattle.validity.specs.Keys.{member, same_set, listed}
use Rattle.validity.specs.Nonces.{nonces_valid}
use Rattle.step_definition.specs.Lists.{is_some}
use Rattle.step_definition.specs.Configuration.{SignerConfig, config_signer_id, signer_of, keys_in}
use Rattle.step_definition.specs.Questions.{admitted}
use Rattle.state.specs.declared.fields.SignerSlot.{SignerSlot}
use Rattle.state.specs.declared.fields.SignerEntry.{SignerEntry}
use Rattle.state.specs.declared.fields.Config.{Config}
use Rattle.state.specs.declared.fields.Coordinator.{Coordinator}
use Rattle.state.specs.Slots.{signer_slot, slot_from, collect, when}
use Rattle.state.specs.View.{entry_id, ids_of, slots_of, no_entry, flagged_in, signer_in, config_of, standing_of}
use Rattle.state.proofs.SignerSlots.{ids_short, slots_rise, slot_in, slot_is, slots_out}
use Rattle.state.proofs.Collect.{when_some, when_is, find_in, find_out, member_found}
use Rattle.records.specs.Admits.{slot_of, admitted_at}

one_more : (n l : ℕ) → ltb (1 + n) (suc l) ≡ ltb n l
one_more n l = by (ltb n l) refl
  where
    by : (b : Bool) → ltb n l ≡ b → ltb (1 + n) (suc l) ≡ b
    by true q = lt-ltb (1 + n) (suc l) (omega (arith, ltb-true n l q))
    by false q = le-ltb (1 + n) (suc l) (omega (arith, ltb-false n l q))

-- the search by its test: the first place that passes, counted from k on
module _ (id : ℕ) where
  abbrev pub is_id : SignerEntry → Bool
  is_id e = eqb id e.id.0

  found_from : (k : ℕ) (es : List SignerEntry)
      → slot_from id k (map entry_id es) ≡ cond (ltb (position_or_len is_id es) (length es)) (Some (k + position_or_len is_id es)) None
  unfolding slot_from
  found_from k [] = refl
  found_from k (e ∷ es) = by (eqb id e.id.0) (found_from (k + 1) es)
    where
      n : ℕ
      n = position_or_len is_id es

      by : (b : Bool) → slot_from id (k + 1) (map entry_id es) ≡ cond (ltb n (length es)) (Some (k + 1 + n)) None
          → cond b (Some k) (slot_from id (k + 1) (map entry_id es))
          ≡ cond (ltb (cond (not b) (1 + n) 0) (suc (length es))) (Some (k + cond (not b) (1 + n) 0)) None
      by true h = rw (lt-ltb 0 (suc (length es)) (omega arith), add-zero k)
      by false h =
          let on : k + (1 + n) ≡ k + 1 + n = omega arith in
          rw (on, one_more n (length es)) h

  pub found : (es : List SignerEntry) → slot_from id 0 (map entry_id es) ≡ position is_id es
  found es =
      let n = position_or_len is_id es in
      let same : 0 + n ≡ n = omega arith in
      found_from 0 es ∙ ap (λ (k : ℕ). cond (ltb n (length es)) (Some k) None) same

pub slot_low : (g : Config) (id i : ℕ) → slot_of id g ≡ Some i → i < g.count
slot_low g id i e = omega (arith, ids_short g, (slot_is id 0 (ids_of g) i e).1)

-- the signers that stand for the configuration
abbrev listing : Config → SignerSlot → Option SignerConfig
listing g e = Some (signer_in g.signers e)

listing_id : (g : Config) (e : SignerSlot) (y : SignerConfig) → listing g e ≡ Some y → config_signer_id y ≡ e.id
unfolding signer_in
listing_id g e y h = let q : signer_in g.signers e ≡ y = cc in sym (ap config_signer_id q)

pub not_listed : (g : Config) (id : ℕ) → slot_of id g ≡ None → signer_of (config_of g) id ≡ None
unfolding config_of
not_listed g id n = find_out config_signer_id (listing g) (listing_id g) id (slots_of g) (slots_out id (ids_of g) n)

module _ (g : Config) (id i : ℕ) (found : slot_of id g ≡ Some i) where
  pub listed_at : signer_of (config_of g) id ≡ Some (signer_in g.signers (signer_slot id i))
  unfolding config_of
  listed_at = find_in config_signer_id (listing g) (listing_id g) (signer_slot id i) (slots_of g) (slots_rise 0 (ids_of g)) (slot_in id 0 (ids_of g) i found)

  -- whether a flag that is collected by id is set
  flagged : (flags : List Bool) → member id (collect (flagged_in flags) (slots_of g)) ≡ get_or flags i false
  flagged flags =
      member_found id (collect (flagged_in flags) (slots_of g))
      ∙ ap is_some (find_in (λ (x : ℕ). x) (flagged_in flags) (λ e y h. sym (when_some (get_or flags e.slot false) e.id y h)) (signer_slot id i) (slots_of g) (slots_rise 0 (ids_of g)) (slot_in id 0 (ids_of g) i found))
      ∙ when_is (get_or flags i false) id

chain :
    (a h : Bool) (set keys : List ℕ) (v m : Bool) → ((((true && a) && is_some (when h set)) && same_set keys (keys_in (when h set))) && v) && m
    ≡ (((a && h) && same_set keys set) && v) && m
chain true true set keys v m = refl
chain true false set keys v m = refl
chain false h set keys v m = refl

pub admitted_at_law : (s : Coordinator) (i : ℕ) (q : NonceResponse) → slot_of q.signer_id s.config ≡ Some i
    → admitted (config_of s.config) (standing_of s).dkg_end_messages (standing_of s).malicious_signer_ids q ≡ admitted_at s i q.key_ids q.nonces
unfolding admitted admitted_at standing_of signer_in
admitted_at_law s i q found =
    let id = q.signer_id in
    let entry = get_or s.config.signers i no_entry in
    rw (listed_at s.config id i found, flagged s.config id i found s.marks.ended, flagged s.config id i found s.marks.malicious)
    (chain (get_or s.marks.ended i false) entry.has_keys (listed entry.keys) q.key_ids (nonces_valid q.nonces) (not (get_or s.marks.malicious i false)))
