-- `sent_keys`: no response, or the ids at its place.
-- Assumes nothing.
use Prim.Native.Nat.{◌*◌, ◌+◌, ◌≤◌}
use mathlib.Core.Path.{◌≡◌, ap, ◌∙◌}
use native.Mathlib.Omega.{arith}
use borrow.Author.Tests.{not-true, not-false}
use lib.ListN.{length, take, drop, length-take}
use Rattle.layout.specs.Decode.{ids_in}
use Rattle.pieces.specs.Places.{bytes_at}
use Rattle.validity.specs.Keys.{listed, key_list}
use Rattle.validity.proofs.Places.{listed-whole}
use Rattle.state.specs.View.{keys_at}
use Rattle.signing_job.specs.SentKeys.{sent_keys}
use mathlib.Core.Path.{sym}
use borrow.Author.Rules.{rules}
use Rattle.std.proofs.lemmas.Grind.{common_steps}
use Rattle.signing_job.proofs.keys.sent_keys.Goals as goal

pub returns-then-not-slot : goal.returns-then-not-slot
unfolding sent_keys listed
returns-then-not-slot c =
    let slot = c.args.slot in
    (rw (not-true slot.held c.if-not-slot.true), omega arith)

pub overflow_mul-at : goal.overflow_mul-at
overflow_mul-at c = omega (arith, c.requires)

pub overflow_mul-at-2 : goal.overflow_mul-at-2
overflow_mul-at-2 c = omega (arith, c.requires)

pub overflow_add-at : goal.overflow_add-at
overflow_add-at c = omega (arith, c.requires)

pub overflow_add-at-2 : goal.overflow_add-at-2
overflow_add-at-2 c = omega (arith, c.requires)

pub overflow_mul-slot : goal.overflow_mul-slot
overflow_mul-slot c = omega (arith, c.requires.3 (not-false _ c.if-not-slot.false))

pub returns : goal.returns
unfolding sent_keys bytes_at key_list
returns c =
    let a = c.args in
    let held = not-false a.slot.held c.if-not-slot.false in
    let few = c.requires.3 held in
    let at : 11456 * a.r + 1120 * a.i + 256 ≡ keys_at a.r a.i = omega arith in
    let part = c.part-part.result.now in
    let is : part ≡ take (a.slot.key_ids * 4) (drop (keys_at a.r a.i) a.source.now) =
    rw at at c.part-part.ensures in
    let short : length part ≤ 64 = rw (is, length-take) (omega (arith, few)) in (
      rw held (ap listed c.key_list.ensures ∙ listed-whole part (omega (arith, short)) ∙ ap ids_in is),
      rw c.key_list.ensures (omega arith),
    )
