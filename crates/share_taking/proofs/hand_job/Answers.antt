-- `hand_job`: what the writer asks holds, so it writes.
-- Assumes nothing.
use borrow.Author.Rules.{rules}
use native.Mathlib.Omega.{arith}
use lib.ListN.{length-take}
use Rattle.state.proofs.Given.{coordinator-bytes}
use Rattle.state.proofs.Turns.{never_refused}
use Rattle.signing_job.proofs.Readiness.{ready}
use Rattle.share_taking.proofs.Answering.{message_short, job_did}
use mathlib.Core.Path.{sym, ◌∙◌}
use Rattle.std.proofs.lemmas.Grind.{common_steps}
use Rattle.share_taking.proofs.hand_job.Goals as goal

pub slice_bounds-message-end : goal.slice_bounds-message-end
slice_bounds-message-end c =
    omega (arith, coordinator-bytes c.args.s _ c.well_formed.0, message_short _ c.requires.within)

pub write_signing_job-given-requires : goal.write_signing_job-given-requires
write_signing_job-given-requires c =
    ready _ _ _ _ _ c.requires.within c.requires.known c.requires.stored
    (rw length-take (omega (arith, message_short _ c.requires.within))) c.requires.wide

pub returns-in-Ok : goal.returns-in-Ok
returns-in-Ok c id =
    let job = c.write_signing_job-given.ensures in
    job_did _ id _ _ _ _ job.1 c.handing.ensures job.0 c.in-Ok.is

pub returns-in-Err : goal.returns-in-Err
returns-in-Err c id =
    absurd (never_refused c.write_signing_job-given.ensures.0 c.in-Err.is)

pub shared_ref_as_front-message : goal.shared_ref_as_front-message
shared_ref_as_front-message c = omega (arith, message_short _ c.requires.within)
