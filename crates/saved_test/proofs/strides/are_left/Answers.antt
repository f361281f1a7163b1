-- `are_left`: what is left of the test is the whole answer.
-- Assumes nothing.
use Rattle.form.specs.Form.{each}
use Rattle.saved_test.proofs.Testing.{test_begins, test_goes_on, test_fails, test_passes}
use Rattle.saved_test.proofs.strides.are_left.Goals as goal

pub loop-i-init : goal.loop-i-init
loop-i-init g c = let G = g.T.Element.form in test_begins G.left G.width c.args.s.now c.args.at c.args.n

pub loop-i-preserved : goal.loop-i-preserved
loop-i-preserved g c =
    let G = g.T.Element.form in
    let l = c.loop-i in
    test_goes_on G.left G.width _ c.args.at c.args.n l.i c.loop-i-test.true (rw c.width.ensures at (c.if-not-is_left.ensures {u = tt}))
    l.invariant

pub returns-then-not-is_left : goal.returns-then-not-is_left
unfolding each
returns-then-not-is_left g c =
    let G = g.T.Element.form in
    let l = c.loop-i in
    test_fails G.left G.width _ c.args.at c.args.n l.i c.loop-i-test.true (rw c.width.ensures at (c.if-not-is_left.ensures {u = tt}))
    l.invariant

pub returns : goal.returns
unfolding each
returns g c =
    let G = g.T.Element.form in
    test_passes G.left G.width _ c.args.at c.args.n c.loop-i.i c.loop-i-test.false c.loop-i.invariant
