-- `keep`: the shares written, and the slot set.
-- Assumes nothing.
use Rattle.shares.proofs.keep.Goals as goal

pub returns : goal.returns
returns c = let put = c.put_shares.ensures in record { value = rw put.value; store_after = put.store_after }
