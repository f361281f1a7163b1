-- `write_arrivals`.
-- Assumes nothing.
use Rattle.library_writers.proofs.Plain.{told}
use Rattle.library_writers.proofs.written.write_arrivals.Goals as goal

pub returns : goal.returns
returns c =
    told c.from-2.ensures
    (rw c.from.ensures at c.write_arrivals.ensures)
