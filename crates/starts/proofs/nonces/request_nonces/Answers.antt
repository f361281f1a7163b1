-- `request_nonces`: the change, then the packet of the coordinator after.
-- Assumes nothing.
use Rattle.std.proofs.Common.{rules}
use Rattle.state.proofs.Turns.{sent_did}
use Rattle.starts.specs.Starts.{start_requested, request_turn}
use mathlib.Core.Path.{sym, ◌∙◌}
use native.Mathlib.Omega.{arith}
use Rattle.std.proofs.lemmas.Grind.{common_steps}
use Rattle.starts.proofs.nonces.request_nonces.Goals as goal

pub write_request-length-requires : goal.write_request-length-requires
unfolding start_requested
write_request-length-requires c = (rw c.requested-after.ensures c.requires.0, c.requires.1)

pub returns : goal.returns
unfolding request_turn
returns c store =
    let written = c.write_request-length.ensures in
    rw (← c.requested-after.ensures)
    (sent_did _ store c.sending.ensures written.counted written.buffered)
