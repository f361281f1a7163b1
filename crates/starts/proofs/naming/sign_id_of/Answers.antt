-- `sign_id_of`: by its two cases.
-- Assumes nothing.
use Rattle.std.proofs.Common.{rules}
use Rattle.step_definition.specs.Ids.{next}
use Rattle.starts.specs.Starts.{sign_id_of}
use mathlib.Core.Path.{sym, ◌∙◌}
use native.Mathlib.Omega.{arith}
use Rattle.std.proofs.lemmas.Grind.{common_steps}
use Rattle.starts.proofs.naming.sign_id_of.Goals as goal

pub returns-in-None : goal.returns-in-None
unfolding sign_id_of next
returns-in-None c = rw c.in-None.is c.wrapping_add_u64.ensures.value

pub returns-in-Some : goal.returns-in-Some
unfolding sign_id_of
returns-in-Some c = rw c.in-Some.is
