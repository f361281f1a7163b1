-- `is_distinct`: those before i are distinct, and their last bytes are noted.
-- Assumes nothing.
use Prim.Native.Nat.{◌+◌}
use mathlib.Core.Path.{◌≡◌, refl, sym, ◌∙◌}
use mathlib.Core.Bool.{true, false, false≢true}
use mathlib.Core.List.{[], ◌∷◌, ◌++◌}
use native.Mathlib.Numerals.{add-one}
use native.Mathlib.Omega.{arith}
use lib.ListN.{get_or, take, length-set}
use lib.Seq.{take_all, take-suc}
use Rattle.validity.specs.Keys.{member}
use Rattle.step_definition.specs.Ids.{distinct}
use Rattle.validity.proofs.Repeats.{not_noted, noted_last}
use Rattle.id_lists.proofs.Repeats.{distinct_last, twice}
use Rattle.id_lists.proofs.is_distinct.Goals as goal

pub loop-i-init : goal.loop-i-init
unfolding distinct
loop-i-init c = (refl, refl, λ x m. absurd (false≢true m))

pub bounds-seen-last : goal.bounds-seen-last
bounds-seen-last c = omega (arith, c.last_byte-last.ensures)

pub is_among-requires : goal.is_among-requires
is_among-requires c =
    let v = c.loop-i in
    (omega arith, λ n. not_noted v.seen _ _ v.invariant.2 (rw c.last_byte-last.ensures at n))

pub returns-then-is_among : goal.returns-then-is_among
returns-then-is_among c =
    let a = c.args in
    sym (twice a.ids.now c.loop-i.i (omega arith) (sym c.is_among.ensures ∙ c.if-is_among.true))

pub bounds-seen-last-in-loop-i : goal.bounds-seen-last-in-loop-i
bounds-seen-last-in-loop-i c = omega (arith, c.last_byte-last.ensures)

pub loop-i-preserved : goal.loop-i-preserved
loop-i-preserved c =
    let ids = c.args.ids.now in
    let v = c.loop-i in
    let id = get_or ids v.i 0 in
    let next : take (v.i + 1) ids ≡ take v.i ids ++ (id ∷ []) = rw (add-one, take-suc ids v.i 0 (omega arith)) in
    let new : member id (take v.i ids) ≡ false = sym c.is_among.ensures ∙ c.if-is_among.false in
    let last = c.last_byte-last in (
      length-set v.seen last.result true ∙ v.invariant.0,
      rw next (distinct_last (take v.i ids) id new v.invariant.1),
      rw next (noted_last v.seen (take v.i ids) id last.result last.ensures (omega (arith, last.ensures)) v.invariant.2),
    )

pub returns : goal.returns
returns c =
    let ids = c.args.ids.now in
    rw (take_all c.loop-i.i ids (omega arith)) at (sym c.loop-i.invariant.1)
