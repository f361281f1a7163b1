-- `commission`: refused by 1, 2 or 3, or commissioned.
-- Assumes nothing.
use mathlib.Core.Path.{◌≡◌, sym, ap, ◌∙◌}
use mathlib.Core.Bool.{true, false}
use Rattle.state.specs.declared.answers.Answer.{Answer}
use Rattle.state.specs.declared.answers.Done.{Done}
use Rattle.state.specs.declared.fields.Coordinator.{Coordinator}
use Rattle.state.specs.Turns.{plain_answer}
use Rattle.configuration.proofs.Given.{signers_11}
use Rattle.configuration.proofs.Asked.{accepted}
use Rattle.commission.specs.Commission.{fresh_with, fresh_of, uncommissioned_struct}
use Rattle.commission.proofs.Turns.{refused-commission, done-commission}
use Rattle.commission.proofs.commission.Goals as goal

abbrev done : Answer → Coordinator → Done
done a s = record { answer = a; after = s }

pub config_of-requires : goal.config_of-requires
config_of-requires c =
    accepted c.args.g (signers_11 c.args.g _ c.well_formed.0) (sym c.questions-passed.ensures ∙ c.in-Ok.is)

pub returns-in-Err : goal.returns-in-Err
unfolding uncommissioned_struct
returns-in-Err c =
    let a = c.args in
    let blank : c.fresh.result ≡ uncommissioned_struct = c.fresh.ensures ∙ ap (fresh_with false) c.blank_config.ensures in
    refused-commission a.g a.store.now (sym c.questions-passed.ensures ∙ c.in-Err.is)
    (c.refused.ensures ∙ ap (done _) blank)

pub returns-in-Ok : goal.returns-in-Ok
unfolding fresh_of
returns-in-Ok c =
    let a = c.args in
    let made : c.fresh-in-Ok.result ≡ fresh_of a.g =
    c.fresh-in-Ok.ensures ∙ ap (fresh_with true) c.config_of.ensures in
    done-commission a.g a.store.now
    (sym c.questions-passed.ensures ∙ c.in-Ok.is)
    (c.quiet.ensures ∙ ap (done plain_answer) made) c.zero.ensures
