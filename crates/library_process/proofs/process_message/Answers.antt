-- On the state that was loaded.
-- Assumes nothing.
use mathlib.Core.Bool.{false}
use borrow.Author.Rules.{rules}
use lib.ListN.{length}
use Rattle.packet_entry.specs.declared.Entry.TheVariants.{ProcessMessage}
use Rattle.process.specs.Process.{receive_turn}
use Rattle.interface.specs.Configs.{is_yes}
use Rattle.coordinator_theorems.proofs.Quiet.{refused-quiet}
use Rattle.coordinator_theorems.specs.Host.{receive, turn_for}
use Rattle.interface.proofs.Call.{call}
use mathlib.Core.Path.{sym, ◌∙◌}
use native.Mathlib.Omega.{arith}
use Rattle.std.proofs.lemmas.Grind.{common_steps}
use Rattle.library_process.proofs.process_message.Goals as goal

pub returns : goal.returns
unfolding turn_for
returns c =
    let args = c.args in
    call
    (λ s. receive_turn ProcessMessage args.clock (is_yes args.verdict) args.packet.now
    (length args.out.now) s args.store.now) _ false c.load-from.ensures
    c.process_message-taken.ensures (c.keep.ensures.value, (c.keep.ensures.state_after, c.keep.ensures.saves))
    (λ s. refused-quiet (receive ProcessMessage args.packet.now) args.clock (is_yes args.verdict) (length args.out.now) s args.store.now)
