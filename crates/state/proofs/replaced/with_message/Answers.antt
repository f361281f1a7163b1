-- `with_message`: the bytes as they are copied.
-- Assumes nothing.
use Rattle.state.proofs.replaced.with_message.Goals as goal

pub returns : goal.returns
returns c = rw c.copy.ensures
