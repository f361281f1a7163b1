-- The mark is yes exactly where 02's sentence holds of the job that it stands beside.
-- Assumes nothing.
use Prim.Native.Nat.{ℕ}
use mathlib.Core.Path.{◌≡◌}
use mathlib.Core.Bool.{true}
use mathlib.Core.List.{List}
use Rattle.wire.proofs.Lists.{and_left, and_right, and_both, every_all, all_every}
use Rattle.layout.specs.declared.SignatureType.{SignatureType}
use Rattle.layout.specs.Messages.{NonceResponse}
use Rattle.step_definition.specs.Ids.{distinct}
use Rattle.step_definition.specs.Coordinator.{Coordinator, SignerShares}
use Rattle.step_definition.specs.Effects.{joined_keys, job_of, all_shared, whole}
use Rattle.step_definition.specs.Whole.{Whole}
use Rattle.step_definition.proofs.Distinct.{none_twice, all_differ}

-- the job of these responders, and the mark beside it
module _ (t : SignatureType) (root : List ℕ) (qs : List NonceResponse) (c : Coordinator) where
  abbrev held : List SignerShares
  held = c.round.signature_shares

  pub whole_means : whole qs held ≡ true → Whole qs held (job_of t root qs c)
  unfolding whole all_shared
  whole_means w =
      record {
        shared = every_all _ qs (and_left (all_shared qs held) (distinct (joined_keys qs)) w);
        once = none_twice (joined_keys qs) (and_right (all_shared qs held) (distinct (joined_keys qs)) w);
      }

  pub means_whole : Whole qs held (job_of t root qs c) → whole qs held ≡ true
  unfolding whole all_shared
  means_whole w =
      and_both (all_shared qs held) (distinct (joined_keys qs)) (all_every _ qs w.shared) (all_differ (joined_keys qs) w.once)
