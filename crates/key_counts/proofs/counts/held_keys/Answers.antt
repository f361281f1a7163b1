-- `held_keys`: the keys of the signers from k on are in the set.
-- Assumes nothing.
use Prim.Native.Nat.{ℕ, ◌-◌, ◌+◌}
use mathlib.Core.Path.{◌≡◌, refl, ap, ◌∙◌}
use native.Mathlib.Omega.{arith}
use lib.ListN.{length, take, drop}
use Rattle.state.proofs.Given.{signers_10}
use Rattle.state.specs.Slots.{signer_slot}
use Rattle.state.specs.View.{no_entry}
use Rattle.signers.proofs.Given.{order_10}
use Rattle.signers.specs.Order.{ordered}
use Rattle.key_counts.specs.Sets.{held_keys}
use Rattle.key_counts.proofs.Walking.{none_left, held_next, held_over, live_slot, live_entry}
use Rattle.key_counts.proofs.counts.held_keys.Goals as goal

pub loop-k-init : goal.loop-k-init
unfolding held_keys
loop-k-init c =
    let o = c.args.o in (
      signers_10 c.args.g _ c.well_formed.1.0,
      order_10 o _ c.well_formed.0,
      omega arith,
      omega arith,
      rw (none_left o.slots o.count) (record { rises = tt; counted = refl; same = λ x. refl }),
    )

pub offset_bounds-row-i : goal.offset_bounds-row-i
unfolding ordered
offset_bounds-row-i c =
    let v = c.loop-k in
    let o = c.args.o in
    omega (arith, live_slot c.args.g o.slots o.count (v.k - 1) (signer_slot 0 0) c.requires.same (omega arith) (omega arith))

pub bounds-row-i : goal.bounds-row-i
unfolding ordered
bounds-row-i c =
    let v = c.loop-k in
    let o = c.args.o in
    omega (arith, live_slot c.args.g o.slots o.count (v.k - 1) (signer_slot 0 0) c.requires.same (omega arith) (omega arith))

pub offset_bounds-g-i : goal.offset_bounds-g-i
unfolding ordered
offset_bounds-g-i c =
    let v = c.loop-k in
    let o = c.args.o in
    omega (arith, live_slot c.args.g o.slots o.count (v.k - 1) (signer_slot 0 0) c.requires.same (omega arith) (omega arith))

pub bounds-g-i : goal.bounds-g-i
unfolding ordered
bounds-g-i c =
    let v = c.loop-k in
    let o = c.args.o in
    omega (arith, live_slot c.args.g o.slots o.count (v.k - 1) (signer_slot 0 0) c.requires.same (omega arith) (omega arith))

pub add_entry-set-requires : goal.add_entry-set-requires
unfolding ordered
add_entry-set-requires c =
    let v = c.loop-k in
    let o = c.args.o in
    let live = live_entry c.args.g o.slots o.count (v.k - 1) (signer_slot 0 0) c.requires.same (omega arith) (omega arith) (omega arith) c.requires.sets no_entry in
    (live, omega arith)

pub loop-k-preserved-then-row-i : goal.loop-k-preserved-then-row-i
loop-k-preserved-then-row-i c =
    let v = c.loop-k in
    let a = c.args in
    let o = a.o in
    let up : v.k - 1 + 1 ≡ v.k = omega arith in
    let step = rw up at (held_next a.g.signers o.slots o.count (v.k - 1) (signer_slot 0 0) (omega arith) (omega arith) a.row.slots c.if-row-i.true) in
    (v.invariant.0, v.invariant.1, omega arith, omega (arith, c.add_entry-set.ensures.1), rw step (c.add_entry-set.ensures.0 _ v.invariant.4))

pub loop-k-preserved : goal.loop-k-preserved
loop-k-preserved c =
    let v = c.loop-k in
    let a = c.args in
    let o = a.o in
    let up : v.k - 1 + 1 ≡ v.k = omega arith in
    let step = rw up at (held_over a.g.signers o.slots o.count (v.k - 1) (signer_slot 0 0) (omega arith) (omega arith) a.row.slots c.if-row-i.false) in
    (v.invariant.0, v.invariant.1, omega arith, omega arith, rw step v.invariant.4)

pub returns : goal.returns
unfolding ordered
returns c =
    let v = c.loop-k in
    let a = c.args in
    let z : v.k ≡ 0 = omega arith in
    v.invariant.4.counted ∙ ap (λ (k : ℕ). length (held_keys a.g.signers a.row.slots (drop k (take a.o.count a.o.slots)))) z
