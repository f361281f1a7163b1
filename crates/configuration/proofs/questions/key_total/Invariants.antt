-- `key_total`: the sizes of the sets so far.
-- Assumes nothing.
use Prim.Native.Nat.{◌≤◌, ◌*◌}
use mathlib.Core.Path.{◌≡◌}
use mathlib.Core.List.{map}
use lib.ListN.{take}
use Rattle.state.specs.Counts.{sum}
use Rattle.configuration.specs.NewConfig.{set_size}
use Rattle.configuration.proofs.questions.key_total.Given as goal

abbrev pub invariant-loop-signer : goal.invariant-loop-signer
invariant-loop-signer l = (l.total ≤ 17 * l.signer-index) × (l.total ≡ sum (map set_size (take l.signer-index l.signer-items)))
