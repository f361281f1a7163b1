-- The records, where nothing is written in their places.
-- Assumes nothing.
use Prim.Native.Nat.{ℕ}
use mathlib.Core.Path.{◌≡◌}
use mathlib.Core.Bool.{true}
use mathlib.Core.List.{List}
use native.Mathlib.Omega.{arith}
use lib.ListN.{take}
use lib.Seq.{length-take-le}
use Rattle.state.specs.declared.fields.Coordinator.{Coordinator}
use Rattle.state.specs.Counts.{is_within_limits}
use Rattle.state.specs.View.{shares_start, record_bytes, message_at, slots_of, records_of}
use Rattle.state.proofs.SignerSlots.{slots-live}
use Rattle.state.proofs.Within.{within, config_few, records_few}
use Rattle.state.proofs.Store.{Same, same_part}
use Rattle.state.proofs.Shape.{Shaped, rows-good}
use Rattle.records.proofs.AddResponse.{rows_same}

pub records_kept :
    (s : Coordinator) → Shaped s → is_within_limits s ≡ true → (store store' : List ℕ) → Same 0 shares_start store store'
    → records_of (slots_of s.config) store s.records ≡ records_of (slots_of s.config) store' s.records
records_kept s shaped w store store' same =
    let few = records_few s (within s w) in
    let four = shaped.rows in
    let live = length-take-le s.records.count s.records.rows (omega arith) in
    rows_same (slots_of s.config) s.config.count (config_few s (within s w)) (slots-live s.config) store store' 0 (take s.records.count s.records.rows)
    (λ j h l. same_part (message_at j) record_bytes same (omega arith) (omega arith)) (omega arith) (rows-good s shaped w)
