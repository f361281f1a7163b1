-- `take_shares`: held already, kept, or kept as the last.
-- Assumes nothing.
use borrow.Author.Rules.{rules}
use native.Mathlib.Omega.{arith}
use Rattle.state.proofs.Within.{within, config_few, records_few}
use Rattle.state.proofs.Shape.{shape}
use Rattle.records.proofs.Asking.{slot_low}
use Rattle.share_taking.proofs.Answering.{held_did, others_did, last_did, taken}
use mathlib.Core.Path.{sym, ◌∙◌}
use Rattle.std.proofs.lemmas.Grind.{common_steps}
use Rattle.share_taking.proofs.take_shares.Goals as goal

pub offset_bounds-s-i : goal.offset_bounds-s-i
offset_bounds-s-i c =
    omega (arith, slot_low _ _ _ c.requires.found, config_few _ (within _ c.requires.within))

pub bounds-s-i : goal.bounds-s-i
bounds-s-i c =
    omega (arith, slot_low _ _ _ c.requires.found, config_few _ (within _ c.requires.within))

pub returns-then-s-i : goal.returns-then-s-i
returns-then-s-i c = held_did _ _ _ _ _ _ _ c.if-s-i.true c.quiet.ensures

pub keep-shares-requires : goal.keep-shares-requires
keep-shares-requires c = (
  c.requires.shares,
  omega (arith, slot_low _ _ _ c.requires.found, config_few _ (within _ c.requires.within)),
)

pub offset_bounds-s-r : goal.offset_bounds-s-r
offset_bounds-s-r c =
    omega (arith, c.requires.known, records_few _ (within _ c.requires.within))

pub bounds-s-r : goal.bounds-s-r
bounds-s-r c =
    omega (arith, c.requires.known, records_few _ (within _ c.requires.within))

pub anyone_waits-requires : goal.anyone_waits-requires
anyone_waits-requires c =
    config_few _ (within _ c.requires.within)

pub returns-then-anyone_waits : goal.returns-then-anyone_waits
returns-then-anyone_waits c =
    others_did _ _ _ _ _ _ _ c.if-s-i.false _ (c.anyone_waits.ensures _ _) _ _
    c.if-anyone_waits.true (rw c.keep-shares.ensures.value) c.keep-shares.ensures.store_after c.quiet-then-anyone_waits.ensures

pub hand_job-requires : goal.hand_job-requires
hand_job-requires c =
    rw (c.keep-shares.ensures.value, c.keep-shares.ensures.store_after)
    (taken c.args.signature_type _ _ _ _ _ _ (shape _ _ c.well_formed.0) c.if-s-i.false c.requires)

pub returns : goal.returns
returns c =
    last_did _ _ _ _ _ _ _ c.if-s-i.false _ (c.anyone_waits.ensures _ _) _ _ _
    c.if-anyone_waits.false (rw c.keep-shares.ensures.value) c.keep-shares.ensures.store_after
    (c.hand_job.ensures _)
