-- `state_at`: each field from its place.
-- Assumes nothing.
use Rattle.state_bytes.specs.Description.{description}
use Rattle.state_bytes.specs.Loaded.{state_at}
use Rattle.loading.proofs.states.state_at.Goals as goal

pub returns : goal.returns
unfolding state_at description
returns c =
    rw (
      c.flag_at-2.ensures,
      c.keys_at.ensures,
      c.clocks_at.ensures,
      c.marks_at.ensures,
      c.each_at.ensures,
      c.records_at.ensures,
      c.message_at.ensures,
      c.position_at.ensures,
      c.ids_at.ensures,
      c.config_at.ensures,
      c.flag_at.ensures,
    )
