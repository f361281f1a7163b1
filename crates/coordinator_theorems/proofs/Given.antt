-- What the theorems ask of lengths and numbers holds for every value of the types.
-- Assumes nothing.
use mathlib.Core.List.{List}
use mir.Val.{Val}
use denote.Laws.{Is}
use Rattle.layout.specs.declared.Ids.{Ids}
use Rattle.layout.specs.Fits.{IdsFit}
use Rattle.layout.specs.contracts.Ids as Ids-row
use Rattle.state.specs.declared.fields.Coordinator.{Coordinator}
use Rattle.state.specs.contracts.fields.Coordinator as Coordinator-row
use Rattle.state.proofs.Shape.{shape}
use Rattle.state.proofs.Given.{each-byte, coordinator-bytes, coordinator-root}
use Rattle.coordinator_theorems.specs.Host.{Formed}
use Rattle.coordinator_theorems.specs.Demand3.{Fits}

pub all_formed : (s : Coordinator) (vs : List Val) → Is Coordinator-row.the_row s vs → Formed s
all_formed s vs g =
    let a = shape s vs g in
    record {
      signers = a.signers;
      rows = a.rows;
      slots = a.slots;
      shares = a.shares;
      bytes = coordinator-bytes s vs g;
      root = coordinator-root s vs g;
    }

pub ids_fit : (i : Ids) (vs : List Val) → Is Ids-row.the_row i vs → IdsFit i
ids_fit i vs g = record { dkg_id = g.1.1.0.1; sign_id = g.1.1.1.0.1; sign_iter_id = g.1.1.1.1.0.1 }

pub all_fit : (s : Coordinator) (vs : List Val) → Is Coordinator-row.the_row s vs → Fits s
all_fit s vs g =
    record {
      ids = ids_fit s.ids _ g.1.1.1.1.0;
      message = each-byte s.message.bytes _ g.1.1.1.1.1.1.0.1.1.0.1.1;
      root = each-byte s.position.root _ g.1.1.1.1.1.0.1.1.1.0.1.1;
    }
