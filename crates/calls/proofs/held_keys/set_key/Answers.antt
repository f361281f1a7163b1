use mathlib.Core.Path.{sym, ap, ◌∙◌}
use Rattle.state.specs.declared.answers.Done.{Done}
use Rattle.state.proofs.Turns.{refused_did, quiet_did}
use Rattle.state.specs.declared.fields.Keys.{Keys}
use Rattle.state.specs.Setters.{set_keys}
use Rattle.state.specs.Turns.{plain_answer}
use Rattle.calls.specs.Calls.{set_key_turn}
use Rattle.calls.proofs.held_keys.set_key.Goals as goal

-- src/held_keys.rt:33:1
pub returns-in-Err : goal.returns-in-Err
unfolding set_key_turn
returns-in-Err c = refused_did _ _ _ (sym c.before-passed.ensures ∙ c.in-Err.is) c.refused.ensures

-- src/held_keys.rt:33:1
pub returns-in-Ok : goal.returns-in-Ok
unfolding set_key_turn
returns-in-Ok c =
    quiet_did _ _ _ _ (sym c.before-passed.ensures ∙ c.in-Ok.is)
    (c.quiet.ensures ∙ ap plainly c.with_key.ensures)
  where
    plainly : Keys → Done
    plainly k = record { answer = plain_answer; after = set_keys k c.args.s }
