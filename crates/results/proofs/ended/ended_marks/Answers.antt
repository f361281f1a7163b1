-- `ended_marks`: the flags of all ids.
-- Assumes nothing.
use mathlib.Core.Path.{◌∙◌}
use Rattle.results.proofs.Walks.{flags_folded}
use Rattle.results.proofs.ended.ended_marks.Goals as goal

pub returns : goal.returns
returns c = c.flag_all.ensures ∙ flags_folded c.args.g c.args.old c.args.ended.now
