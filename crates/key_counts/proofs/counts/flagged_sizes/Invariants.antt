-- `flagged_sizes`: the signers from k on are added up.
-- Assumes nothing.
use Prim.Native.Nat.{◌≤◌, ◌+◌, ◌*◌}
use mathlib.Core.Path.{◌≡◌}
use lib.ListN.{length, take, drop}
use Rattle.key_counts.specs.Sets.{flagged_sizes}
use Rattle.key_counts.proofs.counts.flagged_sizes.Given as goal

abbrev pub invariant-loop-k : goal.invariant-loop-k
invariant-loop-k l =
    (length l.g.signers ≡ 10) × (length l.o.slots ≡ 10) × (l.k ≤ l.o.count) × (l.total + 16 * l.k ≤ 16 * l.o.count)
    × (l.total ≡ flagged_sizes l.g.signers l.flags (drop l.k (take l.o.count l.o.slots)))
