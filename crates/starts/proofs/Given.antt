-- The lengths that `start-refines` asks for are those of the structs' types.
-- Assumes nothing.
use Rattle.std.proofs.Common.{◌≡◌, List, length}
use lib.ListN.{length-map}
use mir.Val.{Val}
use denote.Laws.{Is}
use Rattle.state.specs.declared.fields.Coordinator.{Coordinator}
use Rattle.state.specs.contracts.fields.Coordinator as Coordinator-row
use Rattle.state.proofs.Given.{coordinator-bytes, coordinator-root}
use Rattle.starts.specs.declared.naming.Start.{Start}
use Rattle.starts.specs.contracts.naming.Start as Start-row
use Rattle.starts.proofs.Refines.{Sized}

root_32 : (by : Start) (vs : List Val) → Is Start-row.the_row by vs → length by.root ≡ 32
root_32 x vs g = g.1.1.1.0.1.0.1

pub all_sized :
    (s : Coordinator) (by : Start) (vs us : List Val) → Is Coordinator-row.the_row s vs → Is Start-row.the_row by us → Sized s by
all_sized s by vs us g h = record { bytes = coordinator-bytes s vs g; kept = coordinator-root s vs g; given = root_32 by us h }
