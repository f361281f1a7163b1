-- `set_size`: no set, or as many keys as it counts.
-- Assumes nothing.
use mathlib.Core.Path.{sym, ap, ◌∙◌}
use native.Mathlib.Omega.{arith}
use lib.ListN.{length}
use Rattle.state.proofs.Given.{entry_16}
use Rattle.key_counts.proofs.Entries.{listed-length, entry-few, set_there, set_none}
use Rattle.key_counts.proofs.counts.set_size.Goals as goal

pub returns-then-e : goal.returns-then-e
returns-then-e c =
    let e = c.args.e in
    let few = entry-few e c.requires c.if-e.true in
    (sym (ap length (set_there e c.if-e.true) ∙ listed-length e.keys (entry_16 e _ c.well_formed.0) few), few)

pub returns-else-e : goal.returns-else-e
returns-else-e c = (sym (ap length (set_none c.args.e c.if-e.false)), omega arith)
