-- A message that is taken, by state, at the level of struct and bytes.
use Rattle.std.specs.Prelude.{ℕ, ◌≤◌, ◌≡◌, Bool, true, cond, List, eqb, length}
use Rattle.layout.specs.Limits.{store_length, answer_length}
use Rattle.layout.specs.declared.Header.{Header}
use Rattle.layout.specs.declared.SignatureType.{SignatureType}
use Rattle.layout.specs.LaidOut.{header_in, part_at, is_laid_out}
use Rattle.layout.specs.Decode.{message_in, within}
use Rattle.step_definition.specs.Phases.{Phase, idling, gathering_nonces, gathering_shares, resting, phase_of}
use Rattle.step_definition.specs.Calls as A
use Rattle.state.specs.declared.fields.Coordinator.{Coordinator}
use Rattle.state.specs.Counts.{is_within_limits}
use Rattle.state.specs.Turns.{Turn, turn, unless}
use Rattle.nonce_gather.specs.NonceGather.{gather_turn}
use Rattle.share_gather.specs.ShareGather.{gather_shares_turn}
use Rattle.idle.specs.Idle.{idle_turn}
use Rattle.messages.specs.Verified.{verified_asked}

-- what 4, 7, 8 and 9 have found, and the packet's header
pub record Incoming (s : Coordinator) (store p : List ℕ) (h : Header) (room : ℕ) : Type 0 where
  pub within : is_within_limits s ≡ true
  pub stored : store_length ≤ length store
  pub laid_out : is_laid_out p ≡ true
  pub short : Rattle.layout.specs.Decode.within (message_in p) ≡ true
  pub header : h ≡ header_in p
  pub wide : answer_length ≤ room

-- NonceGather hears kind 2
unfoldable pub in_nonces : ℕ → SignatureType → List ℕ → Coordinator → List ℕ → Turn
in_nonces clock t p s store =
    cond (eqb (header_in p).kind 2)
    (gather_turn clock t (header_in p).ids (header_in p).signer_id (part_at p 32) (part_at p 40) (part_at p 48) s store)
    (turn A.plain s store)

-- SigShareGather hears kind 4
unfoldable pub in_shares : SignatureType → List ℕ → Coordinator → List ℕ → Turn
in_shares t p s store = cond (eqb (header_in p).kind 4) (gather_shares_turn t p s store) (turn A.plain s store)

unfoldable pub turn_in : ℕ → List ℕ → Coordinator → List ℕ → Phase → Turn
turn_in clock p s store idling = idle_turn clock p s store
turn_in clock p s store (gathering_nonces t) = in_nonces clock t p s store
turn_in clock p s store (gathering_shares t) = in_shares t p s store
turn_in clock p s store resting = turn A.plain s store

abbrev pub phase_turn : ℕ → List ℕ → Coordinator → List ℕ → Turn
phase_turn clock p s store = turn_in clock p s store (phase_of s.position.state)

-- 13 and 14, then the message by state
unfoldable pub message_turn : ℕ → Bool → List ℕ → Coordinator → List ℕ → Turn
message_turn clock verdict p s store = unless (verified_asked (header_in p) verdict s) s store (phase_turn clock p s store)
