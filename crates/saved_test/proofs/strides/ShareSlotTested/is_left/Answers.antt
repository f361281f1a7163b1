-- A signer's shares: whether it holds any.
-- Assumes nothing.
use mathlib.Core.Path.{sym, ◌∙◌}
use Rattle.saved_test.proofs.Shapes.{share_left}
use Rattle.saved_test.proofs.strides.ShareSlotTested.is_left.Goals as goal

pub returns : goal.returns
returns c = c.is_flag.ensures ∙ sym (share_left c.args.s.now c.args.at)
