-- `unless_late`: by the timeout that is due.
-- Assumes nothing.
use borrow.Author.Rules.{rules}
use Rattle.process_timeout.proofs.Answering.{ready as nonce_ready}
use Rattle.packet_entry.proofs.Entering.{on_time_did, nonces_late_did, shares-late-did}
use mathlib.Core.Path.{sym, ◌∙◌}
use native.Mathlib.Omega.{arith}
use Rattle.std.proofs.lemmas.Grind.{common_steps}
use Rattle.packet_entry.proofs.unless_late.Goals as goal

pub nonce_timeout-requires : goal.nonce_timeout-requires
nonce_timeout-requires c = nonce_ready _ _ (record { within = c.requires.within; wide = c.requires.wide })

pub returns-in-Nothing : goal.returns-in-Nothing
returns-in-Nothing c = search (rules, on_time_did, nonces_late_did, shares-late-did)

pub returns-in-Nonces : goal.returns-in-Nonces
returns-in-Nonces c = search (rules, on_time_did, nonces_late_did, shares-late-did)

pub returns-in-Shares : goal.returns-in-Shares
returns-in-Shares c = shares-late-did _ _ _ _ _ _ c.timeout_due.ensures _ c.in-Shares.is c.share_timeout.ensures
