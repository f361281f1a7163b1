-- `place`: the search that is left gives the place.
-- Assumes nothing.
use mathlib.Core.Path.{◌≡◌}
use lib.ListN.{drop}
use Rattle.records.specs.Records.{record_from}
use Rattle.records.proofs.records.place.Given as goal

abbrev pub invariant-loop-r : goal.invariant-loop-r
invariant-loop-r l = record_from l.message l.store l.r (drop l.r l.rows) ≡ record_from l.message l.store 0 l.rows
