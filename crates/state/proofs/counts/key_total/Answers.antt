-- `key_total`: the counts still to come complete the sum.
-- Assumes nothing.
use Prim.Native.Nat.{ℕ, ◌≤◌}
use mathlib.Core.Path.{◌≡◌, ap, ◌∙◌}
use mathlib.Core.Bool.{Bool, true, false, cond}
use mathlib.Core.List.{List, map}
use native.Mathlib.Omega.{arith}
use native.Mathlib.Nat.{zero-add}
use lib.Dec.{leb}
use borrow.Author.Tests.{leb-true}
use Rattle.wire.proofs.Lists.{the_every_at}
use Rattle.state.specs.declared.fields.SignerEntry.{SignerEntry}
use Rattle.state.specs.Counts.{sum, key_count, entry_within}
use Rattle.state.specs.View.{no_entry}
use Rattle.state.proofs.Walks.{sum_more, sum_whole}
use Rattle.state.proofs.counts.key_total.Goals as goal

small : (e : SignerEntry) → entry_within e ≡ true → key_count e ≤ 16
unfolding entry_within key_count
small e h = by_flag e.has_keys e.keys.count h
  where
    by_flag : (b : Bool) (n : ℕ) → cond b (leb n 16) true ≡ true → cond b n 0 ≤ 16
    by_flag true n h = leb-true n 16 h
    by_flag false n h = omega arith

pub loop-e-init : goal.loop-e-init
loop-e-init c = (omega arith, zero-add _)

pub overflow_add-total : goal.overflow_add-total
overflow_add-total c =
    let v = c.loop-e in
    let within = rw (← c.entries-e-items.ensures.0) at c.requires in
    let few = small _ (the_every_at entry_within c.entries-e-items.result.now v.e-index no_entry within c.loop-e-test.true) in
    omega (arith, c.key_count-total.ensures, few)

pub loop-e-preserved : goal.loop-e-preserved
loop-e-preserved c =
    let v = c.loop-e in
    let within = rw (← c.entries-e-items.ensures.0) at c.requires in
    let few = small _ (the_every_at entry_within c.entries-e-items.result.now v.e-index no_entry within c.loop-e-test.true) in (
      omega (arith, c.key_count-total.ensures, few),
      sum_more key_count c.entries-e-items.result.now v.e-index no_entry v.total c.key_count-total.result c.loop-e-test.true
          c.key_count-total.ensures v.invariant.1,
    )

pub returns : goal.returns
returns c =
    let items = c.entries-e-items.result.now in
    sum_whole key_count items c.loop-e.e-index c.loop-e.total c.loop-e-test.false c.loop-e.invariant.1
    ∙ ap (λ (es : List SignerEntry). sum (map key_count es)) c.entries-e-items.ensures.0
