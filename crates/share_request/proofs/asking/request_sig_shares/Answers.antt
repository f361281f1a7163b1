-- `request_sig_shares`: what the writer asks holds, so it writes.
-- Assumes nothing.
use Rattle.state.proofs.Turns.{never_refused}
use Rattle.share_request.proofs.Requesting.{sendable, request_did}
use Rattle.share_request.proofs.asking.request_sig_shares.Goals as goal

pub write_share_request-written-requires : goal.write_share_request-written-requires
write_share_request-written-requires c = sendable _ _ _ _ _ _ c.requested-after.ensures c.requires

pub returns-in-Ok : goal.returns-in-Ok
returns-in-Ok c =
    request_did _ _ _ _ _ _ c.requested-after.ensures _ _ c.sending.ensures
    c.write_share_request-written.ensures c.in-Ok.is

pub returns-in-Err : goal.returns-in-Err
returns-in-Err c =
    absurd (never_refused c.write_share_request-written.ensures c.in-Err.is)
