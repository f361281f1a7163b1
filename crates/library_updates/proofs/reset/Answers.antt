-- On the state that was loaded.
-- Assumes nothing.
use mathlib.Core.Bool.{false}
use borrow.Author.Rules.{rules}
use Rattle.calls.specs.Resets.{reset_turn}
use Rattle.coordinator_theorems.proofs.Quiet.{refused-quiet}
use Rattle.coordinator_theorems.specs.Host.{reset, turn_for}
use Rattle.interface.proofs.Call.{call}
use mathlib.Core.Path.{sym, ◌∙◌}
use native.Mathlib.Omega.{arith}
use Rattle.std.proofs.lemmas.Grind.{common_steps}
use Rattle.library_updates.proofs.reset.Goals as goal

pub returns : goal.returns
unfolding turn_for
returns c =
    let args = c.args in
    call (λ s. reset_turn s args.store.now) _ false
    c.load-from.ensures c.reset-idle.ensures (c.keep.ensures.value, (c.keep.ensures.state_after, c.keep.ensures.saves))
    (λ s. refused-quiet (reset) 0 false 0 s args.store.now)
