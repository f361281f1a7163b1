-- `place_at`: the sums are the places of the store's layout.
-- Assumes nothing.
use native.Mathlib.Omega.{arith}
use Rattle.signing_job.proofs.Placing.{place_built}
use mathlib.Core.Path.{sym, ◌∙◌}
use borrow.Author.Rules.{rules}
use Rattle.std.proofs.lemmas.Grind.{common_steps}
use Rattle.signing_job.proofs.places.place_at.Goals as goal

pub returns : goal.returns
returns c =
    let a = c.args in
    let kept = c.held_shares-kept in
    place_built a.r a.i a.response a.shares kept.result _ _ _ _ kept.ensures (omega arith)
    (omega arith) (omega arith) (omega arith)
