-- The query of arrivals at the level of struct and store. Both stay.
use Rattle.std.specs.Prelude.{ℕ, ◌≤◌, true, false, cond, List, [], ltb, length, get_or}
use Rattle.layout.specs.Limits.{message_limit, signer_limit, record_limit}
use Rattle.layout.specs.Messages.{Arrival}
use Rattle.layout.specs.Encode.{encode_arrivals}
use Rattle.step_definition.specs.Calls as A
use Rattle.state.specs.declared.answers.Asks.{Asks}
use Rattle.state.specs.declared.fields.Coordinator.{Coordinator}
use Rattle.state.specs.Slots.{collect}
use Rattle.state.specs.View.{no_row, slots_of, arrival_in}
use Rattle.state.specs.Turns.{Turn, turn, asked, unless}
use Rattle.timeouts.specs.NonceTimeout.{current_place}

-- "The query passes the checks 4, 5 and 7"
abbrev pub asking_query : Asks
asking_query = record { no_job = true; a_job = false; room = true }

-- what 4 has found
pub record QueryReady (s : Coordinator) : Type 0 where
  pub signers : s.config.count ≤ signer_limit
  pub records : s.records.count ≤ record_limit
  pub message : s.message.len ≤ message_limit

-- the arrivals on the current message's record, ascending by signer; "empty where no record exists"
unfoldable pub current_arrivals : Coordinator → List ℕ → List Arrival
current_arrivals s store =
    let r = current_place s store in
    cond (ltb r s.records.count) (collect (arrival_in (get_or s.records.rows r no_row).slots) (slots_of s.config)) []

unfoldable pub told_turn : Coordinator → List ℕ → Turn
told_turn s store = turn (A.sending A.result (encode_arrivals (current_arrivals s store))) s store

unfoldable pub arrivals_turn : ℕ → Coordinator → List ℕ → Turn
arrivals_turn room s store = unless (asked asking_query (length store) room s) s store (told_turn s store)
