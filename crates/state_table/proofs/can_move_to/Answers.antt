-- The table's law, move-table, with the entry and the types that were found.
-- Assumes nothing.
use borrow.Author.Rules.{rules}
use mathlib.Core.Path.{◌≡◌, sym, ◌∙◌, ap₂}
use mathlib.Core.Bool.{true, false}
use native.Mathlib.Omega.{arith}
use borrow.Author.Tests.{not-true, not-false}
use Rattle.state_table.specs.States.{position, state_number, types_agree, StateType}
use Rattle.state_table.specs.Moves.{allowed}
use Rattle.state_table.proofs.Table.{state_below, move-table}
use Rattle.std.proofs.lemmas.Grind.{common_steps}
use Rattle.state_table.proofs.can_move_to.Goals as goal

pub returns-then-not-entry : goal.returns-then-not-entry
returns-then-not-entry c =
    let a = c.args in
    let e : allowed (state_number a.prev) (state_number a.next) ≡ false =
    sym
    (c.entry.ensures
    ∙ ap₂ allowed c.state_number-from.ensures c.state_number-to.ensures)
    ∙ c.if-not-entry.true in
    sym (rw e at (move-table (position a.prev a.prev_root) (position a.next a.next_root)))

pub returns : goal.returns
returns c =
    let a = c.args in
    let e : allowed (state_number a.prev) (state_number a.next) ≡ true =
    sym
    (c.entry.ensures
    ∙ ap₂ allowed c.state_number-from.ensures c.state_number-to.ensures)
    ∙ c.if-not-entry.false in
    (c.are_types_same.ensures
    ∙ ap₂ (λ (p q : StateType). types_agree p a.prev_root q a.next_root) c.type_in.ensures
    c.type_in-2.ensures)
    ∙ sym (rw e at (move-table (position a.prev a.prev_root) (position a.next a.next_root)))
