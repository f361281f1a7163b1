-- The version, written to eight bytes.
-- Assumes nothing.
use Rattle.wire.specs.Bytes.{le, put}
use Rattle.saved_test.proofs.states.is_version.Goals as goal

pub returns : goal.returns
unfolding le put
returns c = rw c.put_number.ensures at c.stands.ensures
