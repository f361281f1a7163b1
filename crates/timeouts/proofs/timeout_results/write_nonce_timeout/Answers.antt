-- `write_nonce_timeout`: the walks' lists are the view's.
-- Assumes nothing.
use mathlib.Core.Path.{ap, ◌∙◌}
use lib.ListN.{length}
use Rattle.state.specs.Slots.{collect}
use Rattle.state.specs.View.{slots_of, flagged_in}
use Rattle.signer_ids.proofs.Listing.{waiters_flagged}
use Rattle.timeouts.specs.Named.{waiters_in}
use Rattle.timeouts.proofs.Writes.{writes_timeout}
use Rattle.timeouts.proofs.timeout_results.write_nonce_timeout.Goals as goal

pub returns : goal.returns
returns c =
    let a = c.args in
    let walked = c.ascending-walked.ensures.0 in
    let waits = c.waiting.ensures in
    let waiters = c.flagged_ids-waiters in
    let named = c.flagged_ids-malicious_ids in
    rw (← writes_timeout (length a.out.now) c.requires named.result named.ensures.1 (named.ensures.0 ∙ ap (collect (flagged_in a.malicious)) walked)
    waiters.result waiters.ensures.1 {ws = waiters_in a.g a.row} (waiters.ensures.0 ∙ rw (waits, walked) (waiters_flagged a.row.slots (slots_of a.g))))
    c.write_nonce_timeout.ensures
