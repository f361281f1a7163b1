-- What the packet's header says of its response, and what a verdict on a waiter knows of it.
-- Assumes nothing.
use Prim.Native.Nat.{ℕ, ◌<◌}
use mathlib.Core.Path.{◌≡◌, refl}
use mathlib.Core.Bool.{Bool, true, false, cond, ◌&&◌}
use mathlib.Core.List.{List}
use Rattle.std.specs.Prelude.{Option, Some}
use native.Mathlib.Omega.{arith}
use borrow.Author.Tests.{ltb-true}
use lib.Dec.{eqb, ltb}
use lib.ListN.{get_or}
use Rattle.layout.specs.declared.Header.{Header}
use Rattle.layout.specs.LaidOut.{header_in}
use Rattle.layout.specs.Messages.{SignatureShareResponse}
use Rattle.layout.specs.Decode.{share_response_in}
use Rattle.validity.specs.Keys.{listed, same_set}
use Rattle.step_definition.specs.Effects.{share_key_ids}
use Rattle.step_definition.proofs.Cases.{cond_case, cond_both, given_case}
use Rattle.state.specs.declared.fields.Config.{Config}
use Rattle.state.specs.declared.fields.Coordinator.{Coordinator}
use Rattle.state.specs.View.{no_entry}
use Rattle.records.specs.Admits.{slot_of}
use Rattle.timeouts.specs.NonceTimeout.{current_place}
use Rattle.share_verdicts.specs.declared.Verdict.{Verdict}
use Rattle.share_verdicts.specs.declared.Verdict.TheVariants.{Unawaited, Wrong, Refused, Unended, Good}
use Rattle.share_verdicts.specs.Verdicts.{slot_at, awaited_at, shares_verdict, waiter_verdict, verdict_of}

pub slot-told :
    (p : List ℕ) {h : Header} (g : Config) {o : Option ℕ} → h ≡ header_in p → slot_of h.signer_id g ≡ o → slot_of (share_response_in p).signer_id g ≡ o
unfolding share_response_in
slot-told p g e f = rw (← e) f

-- a waiter: the current message has a record, and the signer a slot in it
pub record Waiter (s : Coordinator) (store : List ℕ) (id r i : ℕ) : Type 0 where
  pub found : slot_of id s.config ≡ Some i
  pub at : r ≡ current_place s store
  pub known : r < s.records.count

-- whoever is told with a place and a slot is a waiter there
abbrev pub Told : Coordinator → List ℕ → ℕ → Verdict → Type 0
Told s store id Unawaited = Unit {0}
Told s store id (Wrong n got expected) = Unit {0}
Told s store id (Refused n r i) = Waiter s store id r i
Told s store id (Unended r i) = Waiter s store id r i
Told s store id (Good r i) = Waiter s store id r i

module _ (s : Coordinator) (store : List ℕ) (q : SignatureShareResponse) where
  abbrev r : ℕ
  r = current_place s store

  abbrev T : Verdict → Type 0
  T v = Told s store q.signer_id v

  shares_told : (i : ℕ) → Waiter s store q.signer_id r i → T (shares_verdict s r i (share_key_ids q.signature_shares))
  unfolding shares_verdict
  shares_told i w = cond_both T (get_or s.marks.ended i false) (cond_both T (get_or s.config.signers i no_entry).has_keys (cond_both T (same_set (share_key_ids q.signature_shares) (listed (get_or s.config.signers i no_entry).keys)) w w) w) w

  waits : (i : ℕ) → slot_of q.signer_id s.config ≡ Some i → awaited_at s.records r i ≡ true → Waiter s store q.signer_id r i
  unfolding awaited_at
  waits i f e = by (ltb r s.records.count) refl e
    where
      by : (b : Bool) → ltb r s.records.count ≡ b → cond b ((slot_at s.records r i).held && (slot_at s.records r i).waits) false ≡ true → Waiter s store q.signer_id r i
      by true l e = record { found = f; at = refl; known = ltb-true r s.records.count l }
      by false l e = let z : ◌≡◌ {A = ℕ} 0 1 = cc in let f : ⊥ = omega arith in absurd f

  pub told : T (verdict_of s store q)
  unfolding verdict_of waiter_verdict
  told =
      given_case T (slot_of q.signer_id s.config)
      (λ i f. cond_case T (awaited_at s.records r i)
      (λ e. cond_both T (eqb q.ids.dkg_id s.ids.dkg_id) (cond_both T (eqb q.ids.sign_id s.ids.sign_id) (shares_told i (waits i f e)) tt) tt) (λ e. tt))
      (λ e. tt)
