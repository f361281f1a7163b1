-- `keys_of`: the signers' sets are the definition's.
-- Assumes nothing.
use mathlib.Core.Path.{sym, ◌∙◌}
use Rattle.key_counts.proofs.Walking.{sizes}
use Rattle.key_counts.proofs.counts.keys_of.Goals as goal

pub returns : goal.returns
returns c =
    let a = c.args in
    c.flagged_sizes.ensures ∙ rw c.ascending-o.ensures.0 (sym (sizes a.g a.flags))
