-- `by_phase`: by the state's phase.
-- Assumes nothing.
use borrow.Author.Rules.{rules}
use mathlib.Core.Path.{sym, ◌∙◌}
use Rattle.messages.proofs.Taken.{heard}
use Rattle.messages.proofs.Turns.{is_idling, is_nonces, is_shares, is_resting, idling_did, nonces_did, shared-did, resting_did}
use native.Mathlib.Omega.{arith}
use Rattle.std.proofs.lemmas.Grind.{common_steps}
use Rattle.messages.proofs.states.by_phase.Goals as goal

pub idle-requires : goal.idle-requires
idle-requires c = heard c.requires

pub returns-in-Idling : goal.returns-in-Idling
returns-in-Idling c =
    idling_did _ _ _ _ (is_idling _ (sym c.phase_of.ensures ∙ c.in-Idling.is))
    (c.idle.ensures _)

pub returns-in-GatheringNonces : goal.returns-in-GatheringNonces
returns-in-GatheringNonces c =
    nonces_did _ _ _ _ _ (is_nonces _ _ (sym c.phase_of.ensures ∙ c.in-GatheringNonces.is))
    c.in_nonce_gather.ensures

pub returns-in-GatheringShares : goal.returns-in-GatheringShares
returns-in-GatheringShares c =
    shared-did _ _ _ _ _ (is_shares _ _ (sym c.phase_of.ensures ∙ c.in-GatheringShares.is))
    c.in_share_gather.ensures

pub returns-in-Resting : goal.returns-in-Resting
returns-in-Resting c =
    resting_did _ _ _ _ (is_resting _ (sym c.phase_of.ensures ∙ c.in-Resting.is))
    c.quiet.ensures
