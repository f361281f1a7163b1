-- `requested`: each field as the definition has it.
-- Assumes nothing.
use Rattle.std.proofs.Common.{rules}
use Rattle.step_definition.specs.Ids.{next}
use Rattle.starts.specs.Starts.{start_requested}
use mathlib.Core.Path.{sym, ◌∙◌}
use native.Mathlib.Omega.{arith}
use Rattle.std.proofs.lemmas.Grind.{common_steps}
use Rattle.starts.proofs.nonces.requested.Goals as goal

pub returns : goal.returns
unfolding start_requested next
returns c = rw c.wrapping_add_u64-sign_iter_id.ensures.value
