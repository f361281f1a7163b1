-- What commissioning gives where the state buffer is too short.
use Rattle.std.specs.Prelude.{ℕ, cond, List, leb}
use Rattle.state.specs.Turns.{Turn, error_turn}
use Rattle.configuration.specs.declared.new_config.NewConfig.{NewConfig}
use Rattle.commission.specs.Commission.{commission_turn}
use Rattle.state_bytes.specs.Saved.{state_length}
use Rattle.state_bytes.specs.Loaded.{unsaved}

-- a state buffer that is too short for a state is refused with 4
unfoldable pub commissioned_turn : NewConfig → ℕ → List ℕ → Turn
commissioned_turn g size store = cond (leb state_length size) (commission_turn g store) (error_turn 4 unsaved store)
