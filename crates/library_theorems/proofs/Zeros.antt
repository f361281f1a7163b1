-- The struct after 1 to 3 is the state of zeros: the one that bytes which no save left count as.
-- Assumes nothing.
use mathlib.Core.Path.{◌≡◌, refl}
use Rattle.wire.specs.Bytes.{number}
use Rattle.layout.specs.Types.{type_of}
use Rattle.validity.specs.Keys.{key_places}
use Rattle.configuration.specs.Made.{blank_config}
use Rattle.commission.specs.Commission.{no_records, no_marks, no_message, at_idle, uncommissioned_struct}
use Rattle.form.specs.Form.{bytes_at, each_at}
use Rattle.state_bytes.specs.Description.{state_for, description}
use Rattle.state_bytes.specs.Loaded.{unsaved, state_at}

pub uncommissioned_zeros : uncommissioned_struct ≡ unsaved
unfolding uncommissioned_struct blank_config no_records no_marks no_message at_idle state_at description bytes_at each_at state_for number type_of key_places
uncommissioned_zeros = refl
