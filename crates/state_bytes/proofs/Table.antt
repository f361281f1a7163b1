-- The table of the saved form holds, by computation.
-- Assumes nothing.
use mathlib.Core.Path.{◌≡◌, refl}
use mathlib.Core.List.{map}
use Rattle.wire.specs.Bytes.{joined, All}
use Rattle.form.specs.Form.{saved_each}
use Rattle.state_bytes.specs.Description.{description}
use Rattle.state_bytes.specs.Saved.{saved}
use Rattle.state_bytes.specs.Table.{Flags, struct, bytes_of, fields, three_flags, state_saved, states}

-- the bytes of the fields one after the other are what is saved
pub record Tabled (f : Flags) : Type 0 where
  pub whole : joined (map bytes_of (fields f)) ≡ saved (struct f)

pub saved-table : All Tabled three_flags
unfolding saved saved_each description
saved-table = (record { whole = refl }, (record { whole = refl }, (record { whole = refl }, tt)))

pub saved-states : map state_saved states ≡ states
unfolding description state_saved states
saved-states = refl
