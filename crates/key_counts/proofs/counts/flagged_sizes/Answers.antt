-- `flagged_sizes`: the signers from k on are added up.
-- Assumes nothing.
use Prim.Native.Nat.{◌-◌, ◌+◌}
use mathlib.Core.Path.{◌≡◌}
use native.Mathlib.Omega.{arith}
use Rattle.state.proofs.Given.{signers_10}
use Rattle.signers.proofs.Given.{order_10}
use Rattle.signers.specs.Order.{ordered}
use Rattle.state.specs.Slots.{signer_slot}
use Rattle.state.specs.View.{no_entry}
use Rattle.key_counts.specs.Sets.{flagged_sizes}
use Rattle.key_counts.proofs.Walking.{none_left, flagged_next, flagged_over, live_slot, live_entry}
use Rattle.key_counts.proofs.counts.flagged_sizes.Goals as goal

pub loop-k-init : goal.loop-k-init
unfolding flagged_sizes
loop-k-init c =
    let o = c.args.o in (
      signers_10 c.args.g _ c.well_formed.1.0,
      order_10 o _ c.well_formed.0,
      omega arith,
      omega arith,
      rw (none_left o.slots o.count),
    )

pub bounds-flags-i : goal.bounds-flags-i
unfolding ordered
bounds-flags-i c =
    let v = c.loop-k in
    let o = c.args.o in
    omega (arith, live_slot c.args.g o.slots o.count (v.k - 1) (signer_slot 0 0) c.requires.same (omega arith) (omega arith))

pub offset_bounds-g-i : goal.offset_bounds-g-i
unfolding ordered
offset_bounds-g-i c =
    let v = c.loop-k in
    let o = c.args.o in
    omega (arith, live_slot c.args.g o.slots o.count (v.k - 1) (signer_slot 0 0) c.requires.same (omega arith) (omega arith))

pub bounds-g-i : goal.bounds-g-i
unfolding ordered
bounds-g-i c =
    let v = c.loop-k in
    let o = c.args.o in
    omega (arith, live_slot c.args.g o.slots o.count (v.k - 1) (signer_slot 0 0) c.requires.same (omega arith) (omega arith))

pub set_size-total-requires : goal.set_size-total-requires
unfolding ordered
set_size-total-requires c =
    let v = c.loop-k in
    let o = c.args.o in
    live_entry c.args.g o.slots o.count (v.k - 1) (signer_slot 0 0) c.requires.same (omega arith) (omega arith) (omega arith) c.requires.sets no_entry

pub overflow_add-total : goal.overflow_add-total
overflow_add-total c = omega (arith, c.set_size-total.ensures.1)

pub loop-k-preserved-then-flags-i : goal.loop-k-preserved-then-flags-i
loop-k-preserved-then-flags-i c =
    let v = c.loop-k in
    let a = c.args in
    let o = a.o in
    let up : v.k - 1 + 1 ≡ v.k = omega arith in
    let step = rw up at (flagged_next a.g.signers o.slots o.count (v.k - 1) (signer_slot 0 0) (omega arith) (omega arith) a.flags c.if-flags-i.true) in (
      v.invariant.0,
      v.invariant.1,
      omega arith,
      omega (arith, c.set_size-total.ensures.0, c.set_size-total.ensures.1),
      omega (arith, c.set_size-total.ensures.0, c.set_size-total.ensures.1, step, v.invariant.4),
    )

pub loop-k-preserved : goal.loop-k-preserved
loop-k-preserved c =
    let v = c.loop-k in
    let a = c.args in
    let o = a.o in
    let up : v.k - 1 + 1 ≡ v.k = omega arith in
    let step = rw up at (flagged_over a.g.signers o.slots o.count (v.k - 1) (signer_slot 0 0) (omega arith) (omega arith) a.flags c.if-flags-i.false) in (
      v.invariant.0,
      v.invariant.1,
      omega arith,
      omega (arith, v.invariant.3),
      omega (arith, v.invariant.3, step, v.invariant.4),
    )

pub returns : goal.returns
unfolding ordered
returns c =
    let v = c.loop-k in
    let z : v.k ≡ 0 = omega arith in
    rw z at v.invariant.4
