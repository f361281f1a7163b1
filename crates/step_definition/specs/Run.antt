-- Runs: "Each call gets the state and store that the last left". What a host sees of a run: each call's answer, and the malicious list
-- after it.
use Rattle.std.specs.Prelude.{ℕ, List, [], ◌∷◌}
use Rattle.step_definition.specs.Coordinator.{Held, uncommissioned, miscounted, commissioned}
use Rattle.step_definition.specs.Calls.{Call, Answer}
use Rattle.step_definition.specs.Step.{step}

-- the malicious list (01: struck): nobody where there is no coordinator
unfoldable pub malicious_in : Held → List ℕ
malicious_in uncommissioned = []
malicious_in miscounted = []
malicious_in (commissioned c) = c.standing.malicious_signer_ids

pub record Seen : Type 0 where
  pub answer : Answer
  pub malicious : List ℕ

unfoldable pub run : List Call → Held → List Seen
run [] h = []
run (k ∷ ks) h = record { answer = (step k h).answer; malicious = malicious_in (step k h).after } ∷ run ks (step k h).after

-- what a list of calls leaves
unfoldable pub final : List Call → Held → Held
final [] h = h
final (k ∷ ks) h = final ks (step k h).after
