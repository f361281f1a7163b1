-- `is_saved`: long enough, and the test passes.
-- Assumes nothing.
use mathlib.Core.Path.{sym, ◌∙◌}
use borrow.Author.Tests.{lt-leb}
use Rattle.state_bytes.proofs.Front.{short-unsaved}
use Rattle.state_bytes.proofs.Tested.{left_saved}
use Rattle.saved_test.proofs.states.is_saved.Goals as goal

pub returns-then-s-ge-STATE_LENGTH : goal.returns-then-s-ge-STATE_LENGTH
returns-then-s-ge-STATE_LENGTH c =
    c.is_left.ensures ∙ sym (left_saved c.args.s.now (λ i. (c.type_inv.s i).fits) c.if-s-ge-STATE_LENGTH.true)

pub returns-else-s-ge-STATE_LENGTH : goal.returns-else-s-ge-STATE_LENGTH
returns-else-s-ge-STATE_LENGTH c = lt-leb _ _ c.if-s-ge-STATE_LENGTH.false ∙ sym (short-unsaved c.args.s.now c.if-s-ge-STATE_LENGTH.false)
