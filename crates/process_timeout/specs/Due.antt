-- The timeout that fires, by state, clocks and the configuration's timeouts.
use Rattle.std.specs.Prelude.{Option, Some, None, ℕ, Bool, cond, List}
use Rattle.step_definition.specs.Phases.{Phase, idling, gathering_nonces, gathering_shares, resting, phase_of}
use Rattle.step_definition.specs.Questions.{fires}
use Rattle.step_definition.specs.Timeouts.{nonce_timeout, share_timeout}
use Rattle.step_definition.specs.Coordinator.{Coordinator as Defined}
use Rattle.step_definition.specs.Calls as A
use Rattle.state.specs.declared.fields.Coordinator.{Coordinator}
use Rattle.state.specs.View.{reading}
use Rattle.state.specs.Turns.{Turn, turn}
use Rattle.timeouts.specs.NonceTimeout.{nonce_timeout_turn}
use Rattle.share_timeout.specs.ShareTimeout.{share_timeout_turn}
use Rattle.process_timeout.specs.declared.dues.Due.{Due}
use Rattle.process_timeout.specs.declared.dues.Due.TheVariants.{Nothing, Nonces, Shares}

-- the timeout of a state, by whether the nonces and the shares are late
unfoldable pub due_in : Phase → Bool → Bool → Due
due_in idling nonces shares = Nothing
due_in (gathering_nonces t) nonces shares = cond nonces Nonces Nothing
due_in (gathering_shares t) nonces shares = cond shares (Shares t) Nothing
due_in resting nonces shares = Nothing

-- "A timeout fires only where elapsed > timeout": the nonces' clock with the nonces' timeout, the shares' with the shares'
unfoldable pub due_of : ℕ → Coordinator → Due
due_of clock s =
    due_in (phase_of s.position.state) (fires clock (reading s.clocks.nonce_start) (reading s.config.timeouts.nonce))
    (fires clock (reading s.clocks.sign_start) (reading s.config.timeouts.sign))

-- what the definition answers then
unfoldable pub due_outcome : ℕ → Due → Defined → Option A.Outcome
due_outcome clock Nothing c = None
due_outcome clock Nonces c = Some (nonce_timeout c)
due_outcome clock (Shares t) c = Some (share_timeout clock t c.position.root c)

-- "When it yields a packet, a result or an error, `process` drops the inbound packet": rest is what is done where none fires
unfoldable pub due_turn : ℕ → Due → Coordinator → List ℕ → Turn → Turn
due_turn clock Nothing s store rest = rest
due_turn clock Nonces s store rest = nonce_timeout_turn s store
due_turn clock (Shares t) s store rest = share_timeout_turn clock t s store

abbrev pub quiet_turn : Coordinator → List ℕ → Turn
quiet_turn s store = turn A.plain s store
