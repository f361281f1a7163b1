-- `received_keys`: the responders' sets are the definition's, at any store.
-- Assumes nothing.
use Rattle.key_counts.proofs.Walking.{received}
use Rattle.key_counts.proofs.counts.received_keys.Goals as goal

pub returns : goal.returns
returns c r store =
    let a = c.args in
    rw (received a.g a.row.slots r a.row.message store) (rw c.ascending-o.ensures.0 at c.held_keys.ensures)
