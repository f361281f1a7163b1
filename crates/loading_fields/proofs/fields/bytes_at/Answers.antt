-- `bytes_at`: the bytes copied over zeros.
-- Assumes nothing.
use Rattle.form.proofs.Reading.{copied}
use Rattle.loading_fields.proofs.fields.bytes_at.Goals as goal

pub returns : goal.returns
returns g c = copied c.args.s.now c.args.at g.row.N c.part.ensures c.copy.ensures
