-- The nonces of a list are its whole entries.
-- Assumes nothing.
use Prim.Native.Nat.{◌/◌}
use mathlib.Core.Path.{sym, ◌∙◌}
use lib.ListN.{length}
use Rattle.layout.specs.Decode.{nonces_in}
use Rattle.validity.specs.Nonces.{nonces_valid}
use Rattle.validity.proofs.Chunks.{nonces_from}
use Rattle.validity.proofs.nonces.are_valid.Goals as goal

pub returns : goal.returns
unfolding nonces_valid nonces_in
returns c = c.is_each_valid.ensures ∙ sym (nonces_from c.args.s.now 0 (length c.args.s.now / 66))
