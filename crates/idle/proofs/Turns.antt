-- What Idle did, by the packet's kind and ids.
-- Assumes nothing.
use Rattle.std.proofs.Common.{◌≡◌, ℕ, List, eq-eqb, ne_eqb}
use Rattle.layout.specs.declared.Header.{Header}
use Rattle.layout.specs.LaidOut.{header_in, part_at}
use Rattle.state.specs.declared.answers.Done.{Done}
use Rattle.state.specs.declared.fields.Coordinator.{Coordinator}
use Rattle.state.specs.Turns.{Did, plain_answer, refused_answer}
use Rattle.state.proofs.Turns.{plain_did, error_did}
use Rattle.starts.specs.declared.naming.Start.{Start}
use Rattle.starts.specs.Starts.{round_turn}
use Rattle.idle.specs.Idle.{start_in, iterated, idle_request_turn, idle_turn}

module _ (clock : ℕ) (p : List ℕ) (s : Coordinator) (h : Header) (head : h ≡ header_in p) {d : Done} {out : List ℕ} (store : List ℕ) where
  pub current-did :
      h.ids.sign_id ≡ s.ids.sign_id → d ≡ record { answer = plain_answer; after = s } → Did (idle_request_turn clock p s store) out d store out
  unfolding idle_request_turn
  current-did e f = rw (← head, eq-eqb _ _ e) (plain_did _ store out f)

  pub another-did :
      (out' m : List ℕ) (by : Start) (t : Coordinator) → (h.ids.sign_id ≡ s.ids.sign_id → ⊥) → m ≡ part_at p 32 → by ≡ start_in p
      → t ≡ iterated h.ids.sign_iter_id s → Did (round_turn clock m by t store) out d store out' → Did (idle_request_turn clock p s store) out d store out'
  unfolding idle_request_turn
  another-did out' m by t n em eb et f = rw (← em, ← eb, ← head, ne_eqb _ _ n, ← et) f

  pub request_did : (out' : List ℕ) → h.kind ≡ 1 → Did (idle_request_turn clock p s store) out d store out' → Did (idle_turn clock p s store) out d store out'
  unfolding idle_turn
  request_did out' e f = rw (← head, eq-eqb _ _ e) f

  pub unheard-did :
      (h.kind ≡ 1 → ⊥) → (h.kind ≡ 5 → ⊥) → d ≡ record { answer = plain_answer; after = s } → Did (idle_turn clock p s store) out d store out
  unfolding idle_turn
  unheard-did a b f = rw (← head, ne_eqb _ _ a, ne_eqb _ _ b) (plain_did _ store out f)

  pub begin-15-did :
      h.kind ≡ 5 → (h.ids.dkg_id ≡ s.ids.dkg_id → ⊥) → d ≡ record { answer = refused_answer 15; after = s } → Did (idle_turn clock p s store) out d store out
  unfolding idle_turn
  begin-15-did e n f = rw (← head, e, ne_eqb _ _ n) (error_did store out f)

  pub begin-did :
      h.kind ≡ 5 → h.ids.dkg_id ≡ s.ids.dkg_id → d ≡ record { answer = plain_answer; after = s } → Did (idle_turn clock p s store) out d store out
  unfolding idle_turn
  begin-did e g f = rw (← head, e, eq-eqb _ _ g) (plain_did _ store out f)
