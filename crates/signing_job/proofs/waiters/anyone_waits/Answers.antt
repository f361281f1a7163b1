-- `anyone_waits`: the flagged signers are the record's waiters, at any store.
-- Assumes nothing.
use mathlib.Core.Path.{ap, ◌∙◌}
use Rattle.step_definition.specs.SigShareGather.{any_waits}
use Rattle.signing_job.proofs.Waiting.{waiters_listed}
use mathlib.Core.Path.{sym}
use borrow.Author.Rules.{rules}
use native.Mathlib.Omega.{arith}
use Rattle.std.proofs.lemmas.Grind.{common_steps}
use Rattle.signing_job.proofs.waiters.anyone_waits.Goals as goal

pub is_any-requires : goal.is_any-requires
is_any-requires c = c.flagged_ids-waiters.ensures.1

pub returns : goal.returns
returns c r store =
    let a = c.args in
    let listing = c.flagged_ids-waiters in
    let listed = rw (c.ascending-o.ensures.0, c.waiting-flags.ensures) at listing.ensures.0 in
    c.is_any.ensures ∙ ap any_waits (waiters_listed a.g a.row r store listing.result listed)
