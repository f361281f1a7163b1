-- On the state that was loaded.
-- Assumes nothing.
use mathlib.Core.Bool.{false}
use borrow.Author.Rules.{rules}
use Rattle.calls.specs.Calls.{aggregated_turn}
use Rattle.interface.specs.Configs.{is_yes}
use Rattle.coordinator_theorems.proofs.Quiet.{refused-quiet}
use Rattle.coordinator_theorems.specs.Host.{aggregated, turn_for}
use Rattle.interface.proofs.Call.{call}
use mathlib.Core.Path.{sym, ◌∙◌}
use native.Mathlib.Omega.{arith}
use Rattle.std.proofs.lemmas.Grind.{common_steps}
use Rattle.library_updates.proofs.aggregated.Goals as goal

pub returns : goal.returns
unfolding turn_for
returns c =
    let args = c.args in
    call (λ s. aggregated_turn (is_yes args.ok) s args.store.now) _ false
    c.load-from.ensures c.aggregated-d.ensures (c.keep.ensures.value, (c.keep.ensures.state_after, c.keep.ensures.saves))
    (λ s. refused-quiet (aggregated (is_yes args.ok)) 0 false 0 s args.store.now)
