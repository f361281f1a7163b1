-- `write_dkg_coordinator`.
-- Assumes nothing.
use Rattle.library_writers.proofs.Plain.{told}
use Rattle.library_writers.proofs.written.write_dkg_coordinator.Goals as goal

pub returns : goal.returns
returns c = told c.from.ensures c.write_dkg_coordinator.ensures
