-- `is_of`: the bytes at the record's place compared.
-- Assumes nothing.
use mathlib.Core.Path.{ap, ◌∙◌}
use native.Mathlib.Nat.{mul-one}
use Rattle.wire.specs.Bytes.{are_same_bytes}
use Rattle.pieces.specs.Places.{bytes_at}
use Rattle.records.specs.Records.{row_message}
use Rattle.records.proofs.records.is_of.Goals as goal

pub returns : goal.returns
unfolding row_message bytes_at
returns c =
    rw (mul-one c.args.row.now.message) (c.same.ensures ∙ ap (are_same_bytes _) c.part.ensures)
