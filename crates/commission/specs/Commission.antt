-- Commissioning at the level of struct and store. "After 1 to 3 the state is uncommissioned and the store untouched. Otherwise the whole
-- lent store, however long, is zeroed and the fields are those that the Rust's `new` gives: Idle, ids 0, nothing held, nobody struck."
use Rattle.std.specs.Prelude.{ℕ, Bool, true, false, List, length, replicate, None}
use Rattle.layout.specs.Limits.{message_limit, signer_limit, record_limit}
use Rattle.layout.specs.Encode.{no_ids}
use Rattle.state_table.specs.declared.State.TheVariants.{Idle}
use Rattle.step_definition.specs.Calls as A
use Rattle.state.specs.declared.fields.Config.{Config}
use Rattle.state.specs.declared.fields.SignRoundInfo.{SignRoundInfo}
use Rattle.state.specs.declared.fields.Records.{Records}
use Rattle.state.specs.declared.fields.Marks.{Marks}
use Rattle.state.specs.declared.fields.Position.{Position}
use Rattle.state.specs.declared.fields.Message.{Message}
use Rattle.state.specs.declared.fields.Coordinator.{Coordinator}
use Rattle.state.specs.View.{no_slot}
use Rattle.state.specs.Turns.{Turn, turn, unless}
use Rattle.state.specs.Replaced.{none_held}
use Rattle.configuration.specs.declared.new_config.NewConfig.{NewConfig}
use Rattle.configuration.specs.NewConfig.{new_config_of, new_asked}
use Rattle.configuration.specs.Made.{config_from, blank_config}

-- the fields of a struct that holds nothing: zeros
abbrev pub no_responses : SignRoundInfo
no_responses = record { message = 0; slots = replicate signer_limit no_slot }

unfoldable pub no_records : Records
no_records = record { rows = replicate record_limit no_responses; count = 0 }

unfoldable pub no_marks : Marks
no_marks = record { ended = replicate signer_limit false; malicious = replicate signer_limit false }

unfoldable pub no_message : Message
no_message = record { bytes = replicate message_limit 0; len = 0 }

unfoldable pub at_idle : Position
at_idle = record { state = Idle; root = replicate 32 0 }

abbrev pub fresh_with : Bool → Config → Coordinator
fresh_with held g =
    record {
      commissioned = held;
      config = g;
      ids = no_ids;
      position = at_idle;
      message = no_message;
      records = no_records;
      shares = none_held;
      marks = no_marks;
      clocks = record { nonce_start = None; sign_start = None };
      keys = record { coordinator = false; aggregate = false };
      job = false;
    }

-- the struct after 1 to 3
unfoldable pub uncommissioned_struct : Coordinator
uncommissioned_struct = fresh_with false blank_config

unfoldable pub fresh_of : NewConfig → Coordinator
fresh_of g = fresh_with true (config_from g)

unfoldable pub commission_turn : NewConfig → List ℕ → Turn
commission_turn g store =
    unless (new_asked (new_config_of g)) uncommissioned_struct store (turn A.plain (fresh_of g) (replicate (length store) 0))
