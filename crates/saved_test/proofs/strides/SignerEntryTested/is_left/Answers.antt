-- A signer: whether it has a set.
-- Assumes nothing.
use mathlib.Core.Path.{sym, ◌∙◌}
use Rattle.saved_test.proofs.Shapes.{signer_left}
use Rattle.saved_test.proofs.strides.SignerEntryTested.is_left.Goals as goal

pub returns : goal.returns
returns c = c.is_flag.ensures ∙ sym (signer_left c.args.s.now c.args.at)
