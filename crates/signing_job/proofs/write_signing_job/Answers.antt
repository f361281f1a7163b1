-- `write_signing_job`: the walk's places are those of the view's job.
-- Assumes nothing.
use borrow.Author.Rules.{rules}
use mathlib.Core.Path.{◌≡◌, ap, ◌∙◌}
use native.Mathlib.Omega.{arith}
use lib.ListN.{length, get_or}
use Rattle.job.specs.Job.{signers_in}
use Rattle.state.specs.Slots.{collect}
use Rattle.state.specs.View.{slots_of, no_row}
use Rattle.signing_job.specs.Places.{job_place_in}
use Rattle.signing_job.proofs.Readiness.{lists-ready}
use Rattle.signing_job.proofs.Writes.{writes}
use Rattle.signing_job.proofs.Marked.{mark-walked}
use mathlib.Core.Path.{sym}
use Rattle.std.proofs.lemmas.Grind.{common_steps}
use Rattle.signing_job.proofs.write_signing_job.Goals as goal

pub is_whole-mark-requires : goal.is_whole-mark-requires
is_whole-mark-requires c =
    let a = c.args in
    let order = c.ascending-walked in
    lists-ready a.s a.r (length a.store.now) (length a.message.now) (length a.out.now) c.requires
    order.result order.ensures.0 order.ensures.1

pub returns : goal.returns
returns c =
    let walked : let a = c.args in
    signers_in c.job_places-ps.result
    ≡ collect (job_place_in a.r (get_or a.s.records.rows a.r no_row) a.s.shares) (slots_of a.s.config) =
    let a = c.args in
    let f = job_place_in a.r (get_or a.s.records.rows a.r no_row) a.s.shares in
    c.job_places-ps.ensures.0 ∙ ap (collect f) c.ascending-walked.ensures.0 in
    let a = c.args in
    let places = c.job_places-ps in (
      rw
          (← writes a.s a.store.now a.r a.message.now a.signature_type (length a.out.now) c.requires
          places.result places.ensures.1 (walked)) c.write_job-written.ensures,
      c.is_whole-mark.ensures
          ∙ rw (mark-walked a.s a.store.now a.r, c.ascending-walked.ensures.0),
    )
