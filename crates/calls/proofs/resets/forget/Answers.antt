-- `forget`: the flags as the definition has them.
-- Assumes nothing.
use mathlib.Core.Path.{refl}
use Rattle.calls.specs.Resets.{forgotten}
use Rattle.calls.proofs.resets.forget.Goals as goal

pub returns : goal.returns
unfolding forgotten
returns c = refl
