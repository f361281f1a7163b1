-- `abandon`: each field as the definition has it.
-- Assumes nothing.
use Rattle.calls.specs.Resets.{abandoned}
use Rattle.calls.proofs.resets.abandon.Goals as goal

pub returns : goal.returns
unfolding abandoned
returns c = rw c.no_shares.ensures
