-- `config_of`: the first i slots hold the entries of the first i signers.
-- Assumes nothing.
use mathlib.Core.Path.{◌≡◌, ap}
use native.Mathlib.Omega.{arith}
use lib.ListN.{length, length-take}
use lib.Seq.{get_or-take}
use Rattle.state.specs.declared.fields.Config.{Config}
use Rattle.configuration.specs.NewConfig.{signers_given}
use Rattle.configuration.specs.Made.{entry_of, blank_entry, config_from, blank_config}
use Rattle.configuration.proofs.Given.{signers_11}
use Rattle.configuration.proofs.Walks.{fill_next}
use Rattle.configuration.proofs.made.config_of.Goals as goal

pub loop-i-init : goal.loop-i-init
unfolding blank_config
loop-i-init c = ap (λ (g : Config). g.signers) c.blank_config.ensures

pub loop-i-preserved : goal.loop-i-preserved
loop-i-preserved c =
    let v = c.loop-i in
    let g = c.args.g in
    let all = signers_11 g _ c.well_formed.0 in
    let few = c.requires.few in
    let i = rw (c.given-signer-items.ensures.signers, length-take) at c.loop-i-test.true in
    let e = rw (c.given-signer-items.ensures.signers, get_or-take g.count g.signers v.i _ (omega arith)) at c.entry_of.ensures in
    rw (v.invariant, e) (fill_next entry_of blank_entry 10 g.signers v.i _ (omega arith) (omega arith))

pub returns : goal.returns
unfolding config_from
returns c =
    let v = c.loop-i in
    let g = c.args.g in
    let all = signers_11 g _ c.well_formed.0 in
    let few = c.requires.few in
    let n : length (signers_given g) ≡ g.count = rw length-take (omega arith) in
    let low = rw c.given-signer-items.ensures.signers at c.loop-i-test.false in
    let high = rw c.given-signer-items.ensures.signers at c.loop-i.auto.i-end in
    let e : v.i ≡ g.count = omega arith in
    rw (v.invariant, e)
