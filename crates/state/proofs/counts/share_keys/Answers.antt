-- `share_keys`: the counts still to come complete the sum.
-- Assumes nothing.
use Prim.Native.Nat.{ℕ}
use mathlib.Core.Path.{◌≡◌, refl, ap, ◌∙◌}
use mathlib.Core.List.{List, [], ◌∷◌, map}
use native.Mathlib.Omega.{arith}
use native.Mathlib.Nat.{zero-add}
use Rattle.state.specs.Counts.{sum}
use Rattle.state.proofs.Walks.{sum_more, sum_whole}
use Rattle.state.proofs.counts.share_keys.Invariants.{self}
use Rattle.state.proofs.counts.share_keys.Goals as goal

mapped : (xs : List ℕ) → map self xs ≡ xs
mapped [] = refl
mapped (x ∷ xs) = ap (λ (l : List ℕ). x ∷ l) (mapped xs)

pub loop-n-init : goal.loop-n-init
loop-n-init c = (omega arith, zero-add _)

pub overflow_add-total : goal.overflow_add-total
overflow_add-total c = omega (arith, c.live-n-items.ensures.1, c.type_inv.n-items c.loop-n.n-index)

pub loop-n-preserved : goal.loop-n-preserved
loop-n-preserved c =
    let v = c.loop-n in (
      omega (arith, c.type_inv.n-items v.n-index),
      sum_more self c.live-n-items.result.now v.n-index 0 v.total _ c.loop-n-test.true refl v.invariant.1,
    )

pub returns : goal.returns
returns c =
    let items = c.live-n-items.result.now in
    sum_whole self items c.loop-n.n-index c.loop-n.total c.loop-n-test.false c.loop-n.invariant.1
    ∙ ap sum (mapped items ∙ c.live-n-items.ensures.0)
