-- `has_same_keys`: the list's keys are those of its bytes, since they are no more than sixteen.
-- Assumes nothing.
use Prim.Native.Nat.{ℕ}
use mathlib.Core.Path.{ap, ◌∙◌}
use mathlib.Core.List.{List}
use native.Mathlib.Omega.{arith}
use Rattle.validity.specs.declared.keys.KeyComparison.{KeyComparison}
use Rattle.validity.specs.Keys.{same_set, listed}
use Rattle.validity.proofs.Places.{listed-whole}
use Rattle.records.proofs.admits.has_same_keys.Goals as goal

pub returns : goal.returns
returns c =
    let a = c.args in
    ap (λ (k : KeyComparison). k.same) c.compare.ensures
    ∙ ap (λ (l : List ℕ). same_set l (listed a.set)) (ap listed c.key_list.ensures ∙ listed-whole a.key_ids.now (omega arith))
