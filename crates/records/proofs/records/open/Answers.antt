-- `open`: open already, or a message written and an empty record.
-- Assumes nothing.
use mathlib.Core.Path.{refl}
use borrow.Author.Tests.{lt-ltb, le-ltb}
use Rattle.records.specs.Records.{opened, opened_store}
use Rattle.records.proofs.records.open.Goals as goal

pub returns-then-r-records : goal.returns-then-r-records
unfolding opened opened_store
returns-then-r-records c = rw (lt-ltb _ _ c.if-r-records.true) record { value = refl; store_after = refl }

pub returns : goal.returns
unfolding opened opened_store
returns c = rw (le-ltb _ _ c.if-r-records.false) record { value = refl; store_after = c.copy.ensures }
