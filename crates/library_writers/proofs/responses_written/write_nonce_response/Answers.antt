-- `write_nonce_response`.
-- Assumes nothing.
use Rattle.library_writers.proofs.Plain.{told}
use Rattle.library_writers.proofs.responses_written.write_nonce_response.Goals as goal

pub returns : goal.returns
returns c =
    told c.from.ensures
    (rw c.from-head.ensures at c.write_nonce_response.ensures)
