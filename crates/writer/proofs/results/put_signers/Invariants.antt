-- `put_signers`: what is still to be written completes the list.
-- Assumes nothing.
use Prim.Native.Nat.{◌+◌, ◌*◌}
use mathlib.Core.List.{map}
use Rattle.pieces.specs.Places.{signer_number}
use Rattle.writer.proofs.Numbers.{Putting}
use Rattle.writer.proofs.results.put_signers.Given as goal

abbrev pub invariant-loop-i : goal.invariant-loop-i
invariant-loop-i l = Putting 4 (map signer_number l.signer-items) l.initial.out l.at l.out (l.at + 4 * l.i) l.i
