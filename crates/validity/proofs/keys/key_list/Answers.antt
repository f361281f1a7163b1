-- `key_list`: the first i places hold the first i ids of the part, the others 0.
-- Assumes nothing.
use mathlib.Core.Path.{◌≡◌, refl, ◌∙◌}
use native.Mathlib.Omega.{arith}
use lib.ListN.{length-set}
use Rattle.validity.specs.Keys.{key_places, key_list}
use Rattle.validity.proofs.Places.{place_read, keys-whole}
use Rattle.validity.proofs.keys.key_list.Goals as goal

pub loop-i-init : goal.loop-i-init
unfolding key_places
loop-i-init c = (refl, c.min-count.ensures, omega arith, refl)

pub loop-i-preserved : goal.loop-i-preserved
loop-i-preserved c = let v = c.loop-i in (
  length-set v.ids v.i (record { 0 = c.u32_at.result }) ∙ v.invariant.0,
  v.invariant.1,
  omega arith,
  rw (c.u32_at.ensures, v.invariant.3) (place_read c.args.s.now v.i (omega arith) (omega arith)),
)

pub returns : goal.returns
unfolding key_list
returns c =
    let v = c.loop-i in
    let n = c.min-count.result in
    let e : v.i ≡ n = omega arith in
    let ids = rw (e, keys-whole c.args.s.now n v.invariant.1) at v.invariant.3 in
    rw (ids, v.invariant.1)
