-- On the state that was loaded.
-- Assumes nothing.
use mathlib.Core.Bool.{true}
use borrow.Author.Rules.{rules}
use lib.ListN.{length}
use Rattle.process_timeout.specs.ProcessTimeout.{process_timeout_turn}
use Rattle.coordinator_theorems.proofs.Quiet.{timeout-still}
use Rattle.interface.proofs.Call.{call}
use mathlib.Core.Path.{sym, ◌∙◌}
use native.Mathlib.Omega.{arith}
use Rattle.std.proofs.lemmas.Grind.{common_steps}
use Rattle.library_process.proofs.process_timeout.Goals as goal

pub returns : goal.returns
returns c =
    let args = c.args in
    call (λ s. process_timeout_turn args.clock (length args.out.now) s args.store.now) _ true
    c.load-from.ensures c.process_timeout-late.ensures (c.keep.ensures.value, (c.keep.ensures.state_after, c.keep.ensures.saves))
    (λ s. timeout-still args.clock s args.store.now (length args.out.now))
