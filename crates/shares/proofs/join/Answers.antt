-- `join`: the keys so far, then those still to come, are the two lists.
-- Assumes nothing.
use Prim.Native.Nat.{◌+◌, ◌≤◌}
use mathlib.Core.Path.{◌≡◌, refl, sym, ◌∙◌}
use mathlib.Core.List.{◌++◌, append-nil}
use native.Mathlib.Omega.{arith}
use borrow.Author.Rules.{rules}
use lib.ListN.{length, get_or, length-set}
use Rattle.validity.specs.Keys.{listed}
use Rattle.validity.proofs.Places.{keys, keys_end}
use Rattle.shares.proofs.Joined.{join_next}
use Rattle.shares.proofs.join.Goals as goal

pub loop-i-init : goal.loop-i-init
loop-i-init c = (search rules, omega arith, refl)

pub loop-i-preserved : goal.loop-i-preserved
loop-i-preserved c =
    let v = c.loop-i in
    let a = c.args in
    let more : length a.more.ids ≡ 16 = search rules in
    let few = c.requires in (
      length-set v.ids v.count (get_or a.more.ids v.i (record { 0 = 0 })) ∙ v.invariant.0,
      omega arith,
      join_next v.ids a.more.ids v.count a.more.count v.i (omega arith) c.loop-i-test.true (omega arith) v.invariant.2,
    )

pub returns : goal.returns
unfolding listed
returns c =
    let v = c.loop-i in
    let a = c.args in (
      sym (append-nil (keys v.count v.ids)) ∙ rw (keys_end a.more.ids a.more.count v.i c.loop-i-test.false) at v.invariant.2,
      omega arith,
    )
