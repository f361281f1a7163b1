-- `is_too_few`: the signers' keys are taken from num_keys.
-- Assumes nothing.
use native.Mathlib.Omega.{arith}
use Rattle.state.proofs.Within.{within, config_few, entries_within}
use Rattle.share_timeout.specs.Exclusion.{too_few_keys}
use Rattle.share_timeout.proofs.Keys.{malicious-few}
use Rattle.share_timeout.proofs.exclusion.is_too_few.Goals as goal

pub keys_of-malicious_keys-requires : goal.keys_of-malicious_keys-requires
keys_of-malicious_keys-requires c = let w = within _ c.requires in (config_few _ w, entries_within _ w)

pub overflow_sub-left : goal.overflow_sub-left
overflow_sub-left c = omega (arith, malicious-few c.args.s.now c.args.flags c.requires, c.keys_of-malicious_keys.ensures)

pub returns : goal.returns
unfolding too_few_keys
returns c = rw c.keys_of-malicious_keys.ensures
