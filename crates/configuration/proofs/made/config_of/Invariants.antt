-- `config_of`: the first i slots hold the entries of the first i signers.
-- Assumes nothing.
use mathlib.Core.Path.{◌≡◌}
use Rattle.configuration.specs.Made.{filled, entry_of, blank_entry}
use Rattle.configuration.proofs.made.config_of.Given as goal

abbrev pub invariant-loop-i : goal.invariant-loop-i
invariant-loop-i l = l.signers ≡ filled entry_of blank_entry 10 l.fn.g.signers l.i
