-- `totals`: the signers still to come complete each sum.
-- Assumes nothing.
use Prim.Native.Nat.{◌+◌}
use mathlib.Core.Path.{◌≡◌}
use mathlib.Core.List.{map}
use lib.ListN.{length, drop}
use Rattle.wire.specs.Bytes.{joined}
use Rattle.framing.specs.Writing.{total}
use Rattle.job.specs.declared.JobList.TheVariants.{KeyIds, Nonces}
use Rattle.job.specs.Job.{list_length, share_lengths}
use Rattle.job.proofs.JobPlaces.totals.Given as goal

abbrev pub invariant-loop-p : goal.invariant-loop-p
invariant-loop-p l = (l.t.keys + total (map (list_length KeyIds) (drop l.p-index l.p-items)) ≡ total (map (list_length KeyIds) l.p-items))
    × (l.t.nonces + total (map (list_length Nonces) (drop l.p-index l.p-items)) ≡ total (map (list_length Nonces) l.p-items))
    × (l.t.shares + length (joined (map share_lengths (drop l.p-index l.p-items))) ≡ length (joined (map share_lengths l.p-items)))
