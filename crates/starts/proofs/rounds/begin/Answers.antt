-- `begin`: 10, then 11 of what is stored, then the nonces asked for.
-- Assumes nothing.
use Rattle.std.proofs.Common.{rules}
use borrow.Author.Tests.{not-true, not-false}
use Rattle.starts.specs.Starts.{start_named}
use Rattle.starts.proofs.Begins.{begin-10, begin-11, begin-on}
use mathlib.Core.Path.{sym, ◌∙◌}
use native.Mathlib.Omega.{arith}
use Rattle.std.proofs.lemmas.Grind.{common_steps}
use Rattle.starts.proofs.rounds.begin.Goals as goal

pub returns-then-not-keys : goal.returns-then-not-keys
returns-then-not-keys c store =
    begin-10 _ _ _ _ store _ _ (not-true c.args.s.keys.aggregate c.if-not-keys.true)
    c.refused.ensures

pub returns-then-not-can_move_to : goal.returns-then-not-can_move_to
returns-then-not-can_move_to c store =
    let a = c.args in
    let move = c.can_move_to in
    begin-11 a.clock a.message.now a.by a.s store _ _ _ c.named-t.ensures move.result
    move.ensures (not-false a.s.keys.aggregate c.if-not-keys.false)
    (c.if-not-can_move_to.true) c.refused-then-not-can_move_to.ensures

pub request_nonces-requires : goal.request_nonces-requires
unfolding start_named
request_nonces-requires c =
    (rw c.named-t.ensures c.requires.0, c.requires.1)

pub returns : goal.returns
returns c store =
    let a = c.args in
    let move = c.can_move_to in
    begin-on a.clock a.message.now a.by a.s store _ _ _ c.named-t.ensures move.result
    move.ensures (not-false a.s.keys.aggregate c.if-not-keys.false)
    (c.if-not-can_move_to.false) _ (c.request_nonces.ensures store)
