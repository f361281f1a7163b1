-- A record: its responses.
-- Assumes nothing.
use mathlib.Core.Path.{sym, ◌∙◌}
use Rattle.saved_test.proofs.Shapes.{row_left}
use Rattle.saved_test.proofs.strides.SignRoundInfoTested.is_left.Goals as goal

pub returns : goal.returns
returns c = c.are_left.ensures ∙ sym (row_left c.args.s.now c.args.at)
