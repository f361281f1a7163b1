-- `answer_due`: by the timeout that is due.
-- Assumes nothing.
use Rattle.process_timeout.proofs.Answering.{ready, nothing_did, nonces_did, shares_did}
use Rattle.process_timeout.proofs.dues.answer_due.Goals as goal

pub nonce_timeout-requires : goal.nonce_timeout-requires
nonce_timeout-requires c = ready _ _ c.requires

pub share_timeout-requires : goal.share_timeout-requires
share_timeout-requires c = c.requires

pub returns-in-Nothing : goal.returns-in-Nothing
returns-in-Nothing c = nothing_did _ _ _ _ c.in-Nothing.is c.quiet.ensures

pub returns-in-Nonces : goal.returns-in-Nonces
returns-in-Nonces c = nonces_did _ _ _ _ _ _ c.in-Nonces.is c.nonce_timeout.ensures

pub returns-in-Shares : goal.returns-in-Shares
returns-in-Shares c = shares_did _ _ _ _ _ _ _ c.in-Shares.is c.share_timeout.ensures
