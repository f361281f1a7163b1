-- What `begin` did: 10, 11, or the nonces asked for.
-- Assumes nothing.
use Rattle.std.proofs.Common.{◌≡◌, ℕ, Bool, true, false, List}
use Rattle.state_table.specs.declared.State.TheVariants.{NonceRequest}
use Rattle.state_table.specs.States.{position}
use Rattle.state_table.specs.Moves.{can_move_to}
use Rattle.state.specs.declared.answers.Done.{Done}
use Rattle.state.specs.declared.fields.Coordinator.{Coordinator}
use Rattle.state.specs.Turns.{Turn, Did, error_turn, refused_answer}
use Rattle.state.proofs.Turns.{error_did, answered_no, answered_yes}
use Rattle.starts.specs.declared.naming.Start.{Start}
use Rattle.starts.specs.Starts.{start_named, request_turn, named_turn, round_turn}

module _ (clock : ℕ) (message : List ℕ) (by : Start) (s : Coordinator) (store out : List ℕ) (r : Done) where
  abbrev rest : Coordinator → Turn
  rest t = named_turn clock by.signature_type by.root t store

  pub begin-10 :
      s.keys.aggregate ≡ false → r ≡ record { answer = refused_answer 10; after = s } → Did (round_turn clock message by s store) out r store out
  unfolding round_turn
  begin-10 k d =
      answered_no s.keys.aggregate (rest (start_named message by.sign_id s)) (error_turn 10 s store) k (error_did store out d)

  module _
      (t : Coordinator) (named : t ≡ start_named message by.sign_id s) (move : Bool)
      (m : move ≡ can_move_to (position t.position.state t.position.root) (position (NonceRequest by.signature_type) by.root))
      (k : s.keys.aggregate ≡ true)
    where
      asked_11 : (out' : List ℕ) → Did (rest t) out r store out' → Did (round_turn clock message by s store) out r store out'
      unfolding round_turn
      asked_11 out' d = rw (← named) (answered_yes s.keys.aggregate (rest t) (error_turn 10 s store) k d)

      pub begin-11 :
          move ≡ false → r ≡ record { answer = refused_answer 11; after = t } → Did (round_turn clock message by s store) out r store out
      unfolding named_turn
      begin-11 n d = asked_11 out (rw (← m, n) (error_did store out d))

      pub begin-on :
          move ≡ true → (out' : List ℕ) → Did (request_turn clock by.signature_type by.root t store) out r store out'
          → Did (round_turn clock message by s store) out r store out'
      unfolding named_turn
      begin-on y out' d = asked_11 out' (rw (← m, y) d)
