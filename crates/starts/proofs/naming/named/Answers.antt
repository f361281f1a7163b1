-- `named`: message and sign id as the definition has them.
-- Assumes nothing.
use Rattle.std.proofs.Common.{rules}
use Rattle.starts.specs.Starts.{start_named}
use mathlib.Core.Path.{sym, ◌∙◌}
use native.Mathlib.Omega.{arith}
use Rattle.std.proofs.lemmas.Grind.{common_steps}
use Rattle.starts.proofs.naming.named.Goals as goal

pub returns : goal.returns
unfolding start_named
returns c = rw (c.sign_id_of-sign_id.ensures, c.with_message-stored.ensures)
