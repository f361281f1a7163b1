-- What a message did, by its kind, the state and 13 and 14.
-- Assumes nothing.
use Rattle.std.specs.Prelude.{Err, Ok}
use Prim.Native.Nat.{ℕ}
use mathlib.Core.Path.{◌≡◌, refl}
use mathlib.Core.Bool.{Bool}
use mathlib.Core.List.{List}
use native.Mathlib.Omega.{arith}
use borrow.Author.Tests.{eq-eqb, ne_eqb}
use Rattle.layout.specs.declared.Header.{Header}
use Rattle.layout.specs.declared.SignatureType.{SignatureType}
use Rattle.layout.specs.LaidOut.{header_in, part_at}
use Rattle.step_definition.specs.Phases as D
use Rattle.state.specs.declared.answers.Done.{Done}
use Rattle.state.specs.declared.fields.Coordinator.{Coordinator}
use Rattle.state.specs.Turns.{Did, plain_answer, refused_answer}
use Rattle.state.specs.Passed.{Passed}
use Rattle.state.proofs.Turns.{plain_did, refused_did, passed_did}
use Rattle.nonce_gather.specs.NonceGather.{gather_turn}
use Rattle.share_gather.specs.ShareGather.{gather_shares_turn}
use Rattle.idle.specs.Idle.{idle_turn}
use Rattle.messages.specs.declared.phases.Phase.{Phase}
use Rattle.messages.specs.declared.phases.Phase.TheVariants.{Idling, GatheringNonces, GatheringShares, Resting}
use Rattle.messages.specs.Phases.{phase_answer}
use Rattle.messages.specs.Verified.{verified_asked}
use Rattle.messages.specs.Messages.{in_nonces, in_shares, turn_in, phase_turn, message_turn}

module _ (clock : ℕ) (t : SignatureType) (p : List ℕ) (s : Coordinator) (store : List ℕ) (h : Header) (head : h ≡ header_in p) {d : Done} {out : List ℕ} where
  pub no_response_did : (h.kind ≡ 2 → ⊥) → d ≡ record { answer = plain_answer; after = s } → Did (in_nonces clock t p s store) out d store out
  unfolding in_nonces
  no_response_did n f = rw (← head, ne_eqb _ _ n) (plain_did _ store out f)

  pub response-did :
      (store' out' m keys nonces : List ℕ) → h.kind ≡ 2 → m ≡ part_at p 32 → keys ≡ part_at p 40 → nonces ≡ part_at p 48
      → Did (gather_turn clock t h.ids h.signer_id m keys nonces s store) out d store' out' → Did (in_nonces clock t p s store) out d store' out'
  unfolding in_nonces
  response-did store' out' m keys nonces k em ek en f = rw (← head, eq-eqb _ _ k, ← em, ← ek, ← en) f

  pub no_shares_did : (h.kind ≡ 4 → ⊥) → d ≡ record { answer = plain_answer; after = s } → Did (in_shares t p s store) out d store out
  unfolding in_shares
  no_shares_did n f = rw (← head, ne_eqb _ _ n) (plain_did _ store out f)

  pub shares_did : (store' out' : List ℕ) → h.kind ≡ 4 → Did (gather_shares_turn t p s store) out d store' out' → Did (in_shares t p s store) out d store' out'
  unfolding in_shares
  shares_did store' out' k f = rw (← head, eq-eqb _ _ k) f

-- the code's phase is the definition's
pub clash : {A : Type 0} → ◌≡◌ {A = ℕ} 0 1 → A
clash z = let f : ⊥ = omega arith in absurd f

pub is_idling : (x : D.Phase) → phase_answer x ≡ Idling → x ≡ D.idling
unfolding phase_answer
is_idling D.idling e = refl
is_idling (D.gathering_nonces t) e = clash (cc)
is_idling (D.gathering_shares t) e = clash (cc)
is_idling D.resting e = clash (cc)

pub is_nonces : (x : D.Phase) (t : SignatureType) → phase_answer x ≡ GatheringNonces t → x ≡ D.gathering_nonces t
unfolding phase_answer
is_nonces D.idling t e = clash (cc)
is_nonces (D.gathering_nonces u) t e = cc
is_nonces (D.gathering_shares u) t e = clash (cc)
is_nonces D.resting t e = clash (cc)

pub is_shares : (x : D.Phase) (t : SignatureType) → phase_answer x ≡ GatheringShares t → x ≡ D.gathering_shares t
unfolding phase_answer
is_shares D.idling t e = clash (cc)
is_shares (D.gathering_nonces u) t e = clash (cc)
is_shares (D.gathering_shares u) t e = cc
is_shares D.resting t e = clash (cc)

pub is_resting : (x : D.Phase) → phase_answer x ≡ Resting → x ≡ D.resting
unfolding phase_answer
is_resting D.idling e = clash (cc)
is_resting (D.gathering_nonces t) e = clash (cc)
is_resting (D.gathering_shares t) e = clash (cc)
is_resting D.resting e = refl

module _ (clock : ℕ) (p : List ℕ) (s : Coordinator) (store : List ℕ) {d : Done} {out store' out' : List ℕ} where
  pub idling_did : D.phase_of s.position.state ≡ D.idling → Did (idle_turn clock p s store) out d store' out' → Did (phase_turn clock p s store) out d store' out'
  unfolding turn_in
  idling_did e f = rw e f

  pub nonces_did :
      (t : SignatureType) → D.phase_of s.position.state ≡ D.gathering_nonces t → Did (in_nonces clock t p s store) out d store' out'
      → Did (phase_turn clock p s store) out d store' out'
  unfolding turn_in
  nonces_did t e f = rw e f

  pub shared-did :
      (t : SignatureType) → D.phase_of s.position.state ≡ D.gathering_shares t → Did (in_shares t p s store) out d store' out'
      → Did (phase_turn clock p s store) out d store' out'
  unfolding turn_in
  shared-did t e f = rw e f

pub resting_did :
    (clock : ℕ) (p : List ℕ) (s : Coordinator) (store : List ℕ) {d : Done} {out : List ℕ} → D.phase_of s.position.state ≡ D.resting
    → d ≡ record { answer = plain_answer; after = s } → Did (phase_turn clock p s store) out d store out
unfolding turn_in
resting_did clock p s store {d} {out} e f = rw e (plain_did _ store out f)

module _ (clock : ℕ) (verdict : Bool) (p : List ℕ) (s : Coordinator) (store : List ℕ) (h : Header) (head : h ≡ header_in p)
    (v : Passed) (asked : v ≡ verified_asked h verdict s) {d : Done} {out : List ℕ} where
  pub unverified_did : (n : ℕ) → v ≡ Err n → d ≡ record { answer = refused_answer n; after = s } → Did (message_turn clock verdict p s store) out d store out
  unfolding message_turn
  unverified_did n e f = rw (← head, ← asked) (refused_did store out _ e f)

  pub verified_did : (store' out' : List ℕ) → v ≡ (Ok tt) → Did (phase_turn clock p s store) out d store' out' → Did (message_turn clock verdict p s store) out d store' out'
  unfolding message_turn
  verified_did store' out' e f = rw (← head, ← asked) (passed_did s store e f)
