-- `joined`: the flags of the first i places are joined.
-- Assumes nothing.
use mathlib.Core.Path.{◌≡◌, ◌∙◌}
use native.Mathlib.Numerals.{add-one}
use native.Mathlib.Omega.{arith}
use borrow.Author.Rules.{rules}
use lib.ListN.{length}
use lib.Seq.{take_all}
use Rattle.share_timeout.proofs.Flags.{join_none, join_set, join_left}
use Rattle.share_timeout.proofs.exclusion.joined.Goals as goal
use Rattle.share_timeout.proofs.exclusion.joined.Goals.{then-other, else-other}

pub loop-i-init : goal.loop-i-init
loop-i-init c = join_none c.args.a

pub loop-i-preserved : goal.loop-i-preserved
loop-i-preserved c =
    let v = c.loop-i in
    let a = c.args.a in
    let b = c.args.b in
    let x : length a ≡ 10 = search rules in
    let y : length b ≡ 10 = search rules in
    let h = c.loop-i-test.true in
    elim c.if-other.branch [
      | then-other w ↦ rw (w.flags-is, v.invariant, add-one) (join_set a b v.i (omega arith) (omega arith) w.if-other.true)
      | else-other w ↦ rw (w.flags-is, v.invariant, add-one) (join_left a b v.i (omega arith) (omega arith) w.if-other.false)
    ]

pub returns : goal.returns
returns c = let v = c.loop-i in v.invariant ∙ rw (take_all v.i c.args.b (omega arith))
