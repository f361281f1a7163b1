-- `are_left`: what is left of the test is the whole answer.
-- Assumes nothing.
use Prim.Native.Nat.{◌+◌, ◌-◌, ◌*◌}
use mathlib.Core.Path.{◌≡◌}
use Rattle.form.specs.Form.{every_at}
use Rattle.saved_test.proofs.strides.are_left.Given as goal

abbrev pub invariant-loop-i : goal.invariant-loop-i
invariant-loop-i g l =
    let G = g.T.Element.form in
    every_at G.left G.width l.s (l.at + G.width * l.i) (l.n - l.i) ≡ every_at G.left G.width l.s l.at l.n
