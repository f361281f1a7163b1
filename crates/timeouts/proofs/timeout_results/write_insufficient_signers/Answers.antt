-- `write_insufficient_signers`: the walk's list is the view's.
-- Assumes nothing.
use mathlib.Core.Path.{ap, ◌∙◌}
use lib.ListN.{length}
use Rattle.state.specs.Slots.{collect}
use Rattle.state.specs.View.{flagged_in}
use Rattle.timeouts.proofs.Writes.{writes_insufficient}
use Rattle.timeouts.proofs.timeout_results.write_insufficient_signers.Goals as goal

pub returns : goal.returns
returns c =
    let a = c.args in
    let walked = c.ascending.ensures.0 in
    let named = c.flagged_ids-named in
    rw (← writes_insufficient (length a.out.now) c.requires named.result named.ensures.1 (named.ensures.0 ∙ ap (collect (flagged_in a.malicious)) walked))
    c.write_insufficient_signers.ensures
