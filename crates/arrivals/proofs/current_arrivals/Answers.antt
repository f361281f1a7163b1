-- `current_arrivals`: nobody's, or the walk along the record of the current message.
-- Assumes nothing.
use mathlib.Core.Path.{sym, ap, ◌∙◌}
use native.Mathlib.Omega.{arith}
use lib.ListN.{get_or}
use Rattle.state.specs.Slots.{collect}
use Rattle.state.specs.View.{arrival_in, no_row}
use Rattle.arrivals.proofs.Answering.{none_current, some-current}
use Rattle.arrivals.proofs.current_arrivals.Goals as goal

pub returns-then-s-r : goal.returns-then-s-r
returns-then-s-r c =
    let a = c.args in
    let place = c.current_place-r in (
      c.nobody.ensures.0 ∙ sym (none_current a.s a.store.now place.result place.ensures c.if-s-r.true),
      omega (arith, c.nobody.ensures.1),
    )

pub returns : goal.returns
returns c =
    let a = c.args in
    let place = c.current_place-r in (
      c.arrivals_along.ensures.0
          ∙ ap (collect (arrival_in (get_or a.s.records.rows place.result no_row).slots)) c.ascending.ensures.0
          ∙ sym (some-current a.s a.store.now place.result place.ensures (omega (arith, c.if-s-r.false))),
      c.arrivals_along.ensures.1,
    )
