-- `timeout_due`: each clock with its timeout.
-- Assumes nothing.
use Rattle.process_timeout.specs.Due.{due_of}
use Rattle.process_timeout.proofs.dues.timeout_due.Goals as goal

pub returns : goal.returns
unfolding due_of
returns c = rw (← c.is_late-nonces.ensures, ← c.is_late-shares.ensures) c.due_in.ensures
