-- `nobody`: no arrival counts.
-- Assumes nothing.
use mathlib.Core.Path.{refl}
use native.Mathlib.Omega.{arith}
use Rattle.pieces.specs.Places.{arrivals_of}
use Rattle.arrivals.proofs.walks.nobody.Goals as goal

pub returns : goal.returns
unfolding arrivals_of
returns c = (refl, omega arith)
