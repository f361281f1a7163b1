-- `with_iteration`: what 1 added to gives the packet's iteration.
-- Assumes nothing.
use mathlib.Core.Path.{refl}
use Rattle.step_definition.specs.Ids.{previous}
use Rattle.idle.specs.Idle.{iterated}
use Rattle.idle.proofs.with_iteration.Goals as goal

pub returns : goal.returns
unfolding iterated previous
returns c = refl
