-- `exclude`: the waiters joined with those who are malicious.
-- Assumes nothing.
use Rattle.share_timeout.specs.Exclusion.{excluded_in}
use Rattle.share_timeout.proofs.exclusion.exclude.Goals as goal

pub returns : goal.returns
unfolding excluded_in
returns c = rw c.joined.ensures
