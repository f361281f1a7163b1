-- Those found so far and those still to come; the last bytes of the keys before i are noted.
-- Assumes nothing.
use Prim.Native.Nat.{ℕ, ◌+◌, ◌≤◌}
use mathlib.Core.Path.{◌≡◌, sym, ap, ◌∙◌}
use mathlib.Core.Bool.{Bool, true, false, cond}
use mathlib.Core.List.{[], map}
use native.Mathlib.Omega.{arith}
use lib.ListN.{take, drop, get_or, length-map, length-set, drop_of_length-le}
use Rattle.validity.specs.Keys.{key_number, key_of, member, repeats_after}
use Rattle.validity.proofs.Repeats.{new, counted, noted_next}
use Rattle.validity.proofs.keys.count_repeats.Goals as goal
use Rattle.validity.proofs.keys.count_repeats.Goals.{then-is_repeat, else-is_repeat}

pub is_repeat-requires : goal.is_repeat-requires
is_repeat-requires c =
    let v = c.loop-i in
    λ n. new c.args.list.now v.i c.loop-i-test.true v.seen v.invariant.3 (ap (λ (k : ℕ). get_or v.seen k false) (sym c.last_byte-last.ensures) ∙ n)

pub loop-i-preserved : goal.loop-i-preserved
loop-i-preserved c =
    let list = c.args.list.now in
    let v = c.loop-i in
    let here : Bool = member (key_number (get_or list v.i (key_of 0))) (map key_number (take v.i list)) in
    let one : c.if-is_repeat.found ≡ v.found + cond here 1 0 =
    elim c.if-is_repeat.branch [
      | then-is_repeat w ↦ (let e : here ≡ true = sym c.is_repeat.ensures ∙ w.if-is_repeat.true in rw e w.found-is)
      | else-is_repeat w ↦ (let e : here ≡ false = sym c.is_repeat.ensures ∙ w.if-is_repeat.false in rw e (w.found-is ∙ omega arith))
    ] in
    let few : c.if-is_repeat.found ≤ v.i + 1 =
    elim c.if-is_repeat.branch [ then-is_repeat w ↦ omega arith | else-is_repeat w ↦ omega arith ] in (
      length-set v.seen _ true ∙ v.invariant.0,
      few,
      rw one (counted list v.i c.loop-i-test.true v.found v.invariant.2),
      noted_next list v.i c.loop-i-test.true v.seen _ v.invariant.0 c.last_byte-last.ensures v.invariant.3,
    )

pub returns : goal.returns
unfolding repeats_after
returns c =
    let v = c.loop-i in
    let xs = map key_number c.args.list.now in
    let none : drop v.i xs ≡ [] = drop_of_length-le xs {i = v.i} (rw length-map (omega arith)) in
    let over : repeats_after (take v.i xs) (drop v.i xs) ≡ 0 = rw none in
    omega (arith, over, v.invariant.2)
