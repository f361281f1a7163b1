-- `write_nonce_timeout`.
-- Assumes nothing.
use Rattle.library_writers.proofs.Plain.{told}
use Rattle.library_writers.proofs.written.write_nonce_timeout.Goals as goal

pub returns : goal.returns
returns c =
    told c.from.ensures
    (rw (c.from-waiters.ensures, c.from-malicious.ensures) at
    c.write_nonce_timeout.ensures)
