-- `put_header`: the seven fields, one after the other.
-- Assumes nothing.
use Rattle.layout.specs.Encode.{header_bytes}
use Rattle.framing.proofs.Laws.{put-field}
use Rattle.framing.proofs.put_header.Goals as goal

-- each number stands where the one before it ends
pub returns : goal.returns
unfolding header_bytes
returns c =
    rw (
      c.put_number-7.ensures,
      c.put_number-6.ensures,
      c.put_number-5.ensures,
      c.put_number-4.ensures,
      c.put_number-3.ensures,
      c.put_number-2.ensures,
      c.put_number.ensures,
      put-field _ 16 8,
      put-field _ 8 8,
      put-field _ 4 4,
      put-field _ 2 2,
      put-field _ 1 1,
      put-field _ 0 1,
    )
