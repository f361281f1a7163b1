-- On the state that was loaded.
-- Assumes nothing.
use mathlib.Core.Bool.{false}
use borrow.Author.Rules.{rules}
use Rattle.calls.specs.Calls.{set_key_turn}
use Rattle.calls.specs.declared.held_keys.HeldKey.TheVariants as Which
use Rattle.interface.specs.Configs.{is_yes}
use Rattle.coordinator_theorems.proofs.Quiet.{refused-quiet}
use Rattle.coordinator_theorems.specs.Host.{set_key, turn_for}
use Rattle.interface.proofs.Call.{call}
use mathlib.Core.Path.{sym, ◌∙◌}
use native.Mathlib.Omega.{arith}
use Rattle.std.proofs.lemmas.Grind.{common_steps}
use Rattle.library_updates.proofs.set_group_key.Goals as goal

pub returns : goal.returns
unfolding turn_for
returns c =
    let args = c.args in
    call (λ s. set_key_turn Which.Aggregate (is_yes args.held) s args.store.now) _ false
    c.load-from.ensures c.set_key-d.ensures (c.keep.ensures.value, (c.keep.ensures.state_after, c.keep.ensures.saves))
    (λ s. refused-quiet (set_key Which.Aggregate (is_yes args.held)) 0 false 0 s args.store.now)
