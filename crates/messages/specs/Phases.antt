-- The four ways in which states hear messages, as the code's answer.
use Rattle.step_definition.specs.Phases as D
use Rattle.messages.specs.declared.phases.Phase.{Phase}
use Rattle.messages.specs.declared.phases.Phase.TheVariants.{Idling, GatheringNonces, GatheringShares, Resting}

unfoldable pub phase_answer : D.Phase → Phase
phase_answer D.idling = Idling
phase_answer (D.gathering_nonces t) = GatheringNonces t
phase_answer (D.gathering_shares t) = GatheringShares t
phase_answer D.resting = Resting
