-- On the state that was loaded.
-- Assumes nothing.
use mathlib.Core.Bool.{false}
use borrow.Author.Rules.{rules}
use Rattle.library_start.specs.Given.{moved_turn}
use Rattle.interface.proofs.Call.{call}
use Rattle.library_start.proofs.Quiet.{moved_quiet}
use mathlib.Core.Path.{sym, ◌∙◌}
use native.Mathlib.Omega.{arith}
use Rattle.std.proofs.lemmas.Grind.{common_steps}
use Rattle.library_start.proofs.can_move_to.Goals as goal

pub returns : goal.returns
returns c =
    let args = c.args in
    call (λ s. moved_turn args.next args.signature_type args.root.now s args.store.now) _ false
    c.load-from.ensures c.moves-d.ensures (c.keep.ensures.value, (c.keep.ensures.state_after, c.keep.ensures.saves))
    (λ s e. moved_quiet args.next args.signature_type args.root.now s args.store.now)
