-- `insufficient`: the result that names these signers.
-- Assumes nothing.
use Rattle.state.proofs.Turns.{sent_did, written_length, written_bytes, never_refused}
use Rattle.share_timeout.specs.ShareTimeout.{insufficient_turn}
use Rattle.share_timeout.proofs.retry.insufficient.Goals as goal

pub returns-in-Ok : goal.returns-in-Ok
unfolding insufficient_turn
returns-in-Ok c new store =
    let w = c.write_insufficient_signers.ensures in
    sent_did _ store c.sending.ensures (written_length w c.in-Ok.is) (written_bytes w)

pub returns-in-Err : goal.returns-in-Err
returns-in-Err c new store =
    absurd
    (never_refused c.write_insufficient_signers.ensures
    c.in-Err.is)
