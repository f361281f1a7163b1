-- `share_keys`: the keys so far, then those of the shares still to come, are all.
-- Assumes nothing.
use Prim.Native.Nat.{◌+◌, ◌≤◌}
use mathlib.Core.Path.{◌≡◌}
use mathlib.Core.List.{◌++◌, map}
use lib.ListN.{drop}
use Rattle.layout.specs.LaidOut.{parts_from}
use Rattle.layout.specs.Decode.{share_in}
use Rattle.validity.specs.Keys.{listed}
use Rattle.step_definition.specs.Effects.{share_key_ids}
use Rattle.state.specs.Counts.{sum}
use Rattle.shares.specs.Shares.{part_keys}
use Rattle.shares.proofs.share_keys.Given as goal

abbrev pub invariant-loop-k : goal.invariant-loop-k
invariant-loop-k l = let ps = parts_from l.packet 32 l.pairs in
    (l.k ≤ l.pairs)
    × (l.list.count + sum (map part_keys (drop l.k ps)) ≡ sum (map part_keys ps))
    × (listed l.list ++ share_key_ids (map share_in (drop l.k ps)) ≡ share_key_ids (map share_in ps))
