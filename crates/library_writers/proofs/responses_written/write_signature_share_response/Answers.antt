-- `write_signature_share_response`.
-- Assumes nothing.
use Rattle.library_writers.proofs.Plain.{told}
use Rattle.library_writers.proofs.responses_written.write_signature_share_response.Goals as goal

pub returns : goal.returns
returns c =
    told c.from.ensures
    (rw c.from-head.ensures at c.write_signature_share_response.ensures)
