-- `write_job`.
-- Assumes nothing.
use Rattle.library_writers.proofs.Plain.{told_typed, told_8}
use Rattle.library_writers.proofs.written.write_job.Goals as goal

pub returns-then-given-gt-LAST_TYPE : goal.returns-then-given-gt-LAST_TYPE
returns-then-given-gt-LAST_TYPE c = told_8 _ _ c.if-given-gt-LAST_TYPE.true c.from.ensures

pub returns : goal.returns
returns c =
    told_typed c.args.given.signature_type c.if-given-gt-LAST_TYPE.false c.from-2.ensures
    (rw (c.from-head.ensures, c.from-ps.ensures) at c.write_job.ensures)
