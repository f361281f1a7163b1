-- On the state that was loaded.
-- Assumes nothing.
use mathlib.Core.Bool.{false}
use borrow.Author.Rules.{rules}
use lib.ListN.{length}
use Rattle.library_start.specs.Given.{given_sign_id, started_turn}
use Rattle.interface.proofs.Call.{call}
use Rattle.library_start.proofs.Quiet.{started-quiet}
use mathlib.Core.Path.{sym, ◌∙◌}
use native.Mathlib.Omega.{arith}
use Rattle.std.proofs.lemmas.Grind.{common_steps}
use Rattle.library_start.proofs.start_signing_round.Goals as goal

pub returns : goal.returns
returns c =
    let args = c.args in
    let message = args.message.now in
    let id = given_sign_id args.sign_id_given args.sign_id in
    call
    (λ s. started_turn args.clock message args.signature_type args.root.now id (length args.out.now) s
    args.store.now) _ false c.load-from.ensures
    (rw (← c.sign_id_of-id.ensures) c.start-d.ensures) (c.keep.ensures.value, (c.keep.ensures.state_after, c.keep.ensures.saves))
    (λ s. started-quiet args.clock message args.signature_type args.root.now id (length args.out.now) s args.store.now)
