-- 02, e), what is kept of when each signer answered: each responder of a record has exactly one reading.
use Rattle.std.specs.Prelude.{◌≡◌, map}
use Rattle.layout.specs.Encode.{arrival_signer}
use Rattle.step_definition.specs.Coordinator.{SignRoundInfo, responder_id}
use Rattle.step_definition.specs.Demand3.{Ascending}

pub record OneReadingEach (r : SignRoundInfo) : Type 0 where
  pub responders : map arrival_signer r.arrivals ≡ map responder_id r.public_nonces
  pub once : Ascending (map arrival_signer r.arrivals)
