-- `waiting`: slot by slot.
-- Assumes nothing.
use mathlib.Core.Path.{◌≡◌, sym, ◌∙◌}
use mathlib.Core.Bool.{false}
use mathlib.Core.List.{map}
use native.Mathlib.Omega.{arith}
use borrow.Author.Rules.{rules}
use lib.ListN.{length, get_or, length-map, get_or-map}
use Rattle.std.proofs.Common.{of_calls}
use Rattle.std.proofs.lemmas.List.{ext_get_or}
use Rattle.state.specs.View.{no_slot}
use Rattle.state.proofs.Given.{slots_10}
use Rattle.signer_ids.specs.Flags.{is_waiting}
use Rattle.signer_ids.proofs.waiting.Goals as goal

pub returns : goal.returns
returns c =
    let slots = c.args.row.slots in
    let ten : length slots ≡ 10 = slots_10 c.args.row _ c.well_formed.0 in
    let made = c.map.ensures.items in
    ext_get_or false c.map.result (map is_waiting slots) (simp length-map (omega (arith, made.long)))
    (λ i low.
    let k = made.at i no_slot false (omega (arith, made.long)) in
    let one : get_or c.map.result i false ≡ is_waiting (get_or slots i no_slot) = search (rules, of_calls) in
    one ∙ sym (get_or-map is_waiting slots i no_slot))
