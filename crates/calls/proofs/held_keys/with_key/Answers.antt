use Rattle.calls.specs.Calls.{keys_with}
use Rattle.calls.proofs.held_keys.with_key.Goals as goal

pub returns-in-Coordinator : goal.returns-in-Coordinator
unfolding keys_with
returns-in-Coordinator c = rw c.in-Coordinator.is

pub returns-in-Aggregate : goal.returns-in-Aggregate
unfolding keys_with
returns-in-Aggregate c = rw c.in-Aggregate.is
