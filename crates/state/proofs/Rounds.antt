-- The view's rounds, by computation.
-- Assumes nothing.
use mathlib.Core.Path.{◌≡◌, refl}
use mathlib.Core.List.{map}
use Rattle.wire.specs.Bytes.{number}
use Rattle.layout.specs.Types.{root_length}
use Rattle.layout.specs.Decode.{entries as entries_in, ids_in, nonce_in, nonces_in}
use Rattle.pieces.specs.Places.{bytes_at, response_at}
use Rattle.job.specs.Job.{shares_from}
use Rattle.validity.specs.Keys.{listed}
use Rattle.state.specs.Slots.{place_slot, slots_from, with_some, collect}
use Rattle.state.specs.Counts.{sum, entries, entry_within, key_count, config_within, slot_within, row_within_limits, records_within, shares_within, is_within_limits}
use Rattle.state.specs.View.{reading, signer_in, config_of, root_bytes, position_of, place_of, row_of, rows_from, standing_of, round_of, coordinator_of, held_if, view}
use Rattle.state.specs.Turns.{said, answer_of}
use Rattle.state.specs.Rounds.{laid, holding, helds, placing, positions, counting, counts, saying, answers}

-- all tables in one computation
tables : (map holding helds ≡ helds) × (map placing positions ≡ positions) × (map counting counts ≡ counts) × (map saying answers ≡ answers)
unfolding number root_length entries_in ids_in nonce_in nonces_in bytes_at response_at shares_from listed place_slot
    slots_from with_some collect sum entries entry_within key_count config_within slot_within row_within_limits records_within
    shares_within is_within_limits reading signer_in config_of root_bytes position_of place_of row_of rows_from standing_of round_of
    coordinator_of held_if view laid holding helds placing positions counting counts said answer_of saying answers
tables = (refl, refl, refl, refl)

pub view-rounds : map holding helds ≡ helds
view-rounds = tables.0

pub position-rounds : map placing positions ≡ positions
position-rounds = tables.1

pub count-rounds : map counting counts ≡ counts
count-rounds = tables.2

pub answer-rounds : map saying answers ≡ answers
answer-rounds = tables.3
