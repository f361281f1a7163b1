-- `held_keys`: the keys of the signers from k on are in the set.
-- Assumes nothing.
use Prim.Native.Nat.{◌≤◌, ◌+◌, ◌*◌}
use mathlib.Core.Path.{◌≡◌}
use lib.ListN.{length, take, drop}
use Rattle.key_counts.specs.Sets.{Counted, held_keys}
use Rattle.key_counts.proofs.counts.held_keys.Given as goal

abbrev pub invariant-loop-k : goal.invariant-loop-k
invariant-loop-k l =
    (length l.g.signers ≡ 10) × (length l.o.slots ≡ 10) × (l.k ≤ l.o.count) × (l.set.count + 16 * l.k ≤ 16 * l.o.count)
    × Counted l.set (held_keys l.g.signers l.row.slots (drop l.k (take l.o.count l.o.slots)))
