-- `job_places`: the places that the closure gives are those of the definition.
-- Assumes nothing.
use borrow.Author.Rules.{rules}
use Rattle.job.specs.Job.{signers_in}
use Rattle.signing_job.specs.Places.{job_place_in}
use Rattle.signing_job.proofs.places.job_places.Goals as goal

pub returns : goal.returns
unfolding signers_in
returns c = (c.along-count.ensures.filled (job_place_in c.args.r c.args.row c.args.shares) (λ e r i s p. search rules), c.along-count.ensures.few)
