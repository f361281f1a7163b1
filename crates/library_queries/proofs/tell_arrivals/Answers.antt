-- On the state that was loaded.
-- Assumes nothing.
use borrow.Author.Rules.{rules}
use lib.ListN.{length}
use Rattle.arrivals.specs.Query.{arrivals_turn}
use Rattle.arrivals.proofs.Answering.{arrivals_still}
use Rattle.interface.proofs.Call.{call-still}
use mathlib.Core.Path.{sym, ◌∙◌}
use native.Mathlib.Omega.{arith}
use Rattle.std.proofs.lemmas.Grind.{common_steps}
use Rattle.library_queries.proofs.tell_arrivals.Goals as goal

pub returns : goal.returns
returns c =
    let args = c.args in
    call-still (λ s. arrivals_turn (length args.out.now) s args.store.now) _
    c.load-from.ensures c.tell_arrivals-d.ensures c.flat_answer.ensures
    (λ s. arrivals_still (length args.out.now) s args.store.now)
