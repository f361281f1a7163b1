-- `put_shares`: the shares still to be written complete the store; the counts so far stand in their places.
-- Assumes nothing.
use Prim.Native.Nat.{◌+◌, ◌*◌, ◌≤◌}
use mathlib.Core.Path.{◌≡◌}
use mathlib.Core.List.{map}
use lib.ListN.{length, take, drop}
use Rattle.layout.specs.LaidOut.{parts_from}
use Rattle.state.specs.Counts.{sum}
use Rattle.shares.specs.Shares.{part_keys, put_shares, count_places}
use Rattle.shares.proofs.put_shares.Given as goal

abbrev pub invariant-loop-k : goal.invariant-loop-k
invariant-loop-k l = let ps = parts_from l.packet 32 l.pairs in
    (length l.key_counts ≡ 16)
    × (l.k ≤ l.pairs)
    × (l.at ≡ l.initial.at + 36 * l.k)
    × (l.keys + 4 * sum (map part_keys (drop l.k ps)) ≡ l.initial.keys + 4 * sum (map part_keys ps))
    × (l.key_counts ≡ count_places (map part_keys (take l.k ps)))
    × (put_shares l.at l.keys (drop l.k ps) l.store ≡ put_shares l.initial.at l.initial.keys ps l.initial.store)
