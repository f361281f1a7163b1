-- `flag`: the flag of the slot that is found.
-- Assumes nothing.
use mathlib.Core.Path.{sym, ◌∙◌}
use native.Mathlib.Omega.{arith}
use Rattle.state.specs.View.{ids_of}
use Rattle.state.proofs.Given.{signers_10}
use Rattle.state.proofs.SignerSlots.{slot_is}
use Rattle.results.specs.Results.{flag_at}
use Rattle.results.proofs.Walks.{ids_few}
use Rattle.results.proofs.ended.flag.Goals as goal

pub bounds-m-i : goal.bounds-m-i
bounds-m-i c =
    let a = c.args in
    let found = (sym c.slot_of.ensures ∙ c.in-Some.is) in
    omega (arith, (slot_is a.id 0 (ids_of a.g) c.in-Some.i found).1, ids_few a.g, signers_10 a.g _ c.well_formed.1.0)

pub returns-in-Some : goal.returns-in-Some
unfolding flag_at
returns-in-Some c = rw (sym c.slot_of.ensures ∙ c.in-Some.is)

pub returns-in_default : goal.returns-in_default
unfolding flag_at
returns-in_default c = rw (sym c.slot_of.ensures ∙ c.in_default.is)
