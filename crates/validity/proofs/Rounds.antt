-- The comparison's rounds, by computation.
-- Assumes nothing.
use mathlib.Core.Path.{◌≡◌, refl}
use mathlib.Core.List.{map}
use Rattle.validity.specs.Keys.{subset, same_set, repeats_after}
use Rattle.validity.specs.Rounds.{rounds, comparing}

pub comparison-rounds : map comparing rounds ≡ rounds
unfolding subset same_set repeats_after rounds
comparison-rounds = refl
