-- `none_twice`: no key is twice in the lists of the signers before, whose last bytes are noted.
-- Assumes nothing.
use Prim.Native.Nat.{ℕ, ◌+◌, ◌<◌}
use mathlib.Core.Path.{◌≡◌, refl, sym, ◌∙◌}
use mathlib.Core.Bool.{true, false, false≢true}
use mathlib.Core.List.{List, ◌++◌}
use native.Mathlib.Omega.{arith}
use borrow.Author.Tests.{not-true, not-false}
use lib.ListN.{length, get_or, take}
use lib.Seq.{take_all}
use Rattle.wire.specs.Bytes.{All}
use Rattle.wire.proofs.Lists.{and_false}
use Rattle.validity.specs.Keys.{listed, disjoint}
use Rattle.step_definition.specs.Ids.{distinct}
use Rattle.step_definition.specs.Effects.{joined_keys}
use Rattle.step_definition.proofs.Repeats.{distinct_append}
use Rattle.state.specs.declared.fields.SignerSlot.{SignerSlot}
use Rattle.state.specs.Slots.{signer_slot, collect}
use Rattle.state.specs.View.{no_slot, row_of}
use Rattle.state.proofs.Arrays.{all_get}
use Rattle.signing_job.specs.SentKeys.{FewKeys}
use Rattle.signing_job.proofs.SentKeys.{lists, lists_next, twice_in_all}
use borrow.Author.Rules.{rules}
use Rattle.std.proofs.lemmas.Grind.{common_steps}
use Rattle.signing_job.proofs.keys.none_twice.Goals as goal

pub loop-e-init : goal.loop-e-init
unfolding distinct row_of collect joined_keys
loop-e-init c = (refl, refl, omega arith, refl, refl, λ x m. absurd (false≢true m))

-- what holds of each signer in order holds of this one
here : (P : SignerSlot → Type 0) (es fs : List SignerSlot) (j : ℕ) → fs ≡ es → j < length fs → All P es → P (get_or fs j (signer_slot 0 0))
here P es fs j e low all = rw e (all_get P es j (signer_slot 0 0) (rw e at low) all)

pub bounds-row-e : goal.bounds-row-e
bounds-row-e c = here (λ (e : SignerSlot). e.slot < 10) _ _ _ c.live-e-items.ensures.0 c.loop-e-test.true c.requires.live

pub returns-then-has_repeat : goal.returns-then-has_repeat
returns-then-has_repeat c =
    let v = c.loop-e in
    let a = c.args in
    let before = take v.joined v.ids in
    let list = listed c.sent_keys-list.result in
    let repeated : distinct list ≡ false = not-true (distinct list) (sym c.has_repeat.ensures ∙ c.if-has_repeat.true) in
    let two : distinct (before ++ list) ≡ false = rw (distinct_append before list, repeated) (and_false (distinct before)) in
    let all = twice_in_all a.source.now a.r a.row c.live-e-items.result.now v.e-index c.loop-e-test.true (rw (v.invariant.3, c.sent_keys-list.ensures.0) at two) in
    sym (rw c.live-e-items.ensures.0 at all)

pub returns-then-not-add_new_keys : goal.returns-then-not-add_new_keys
returns-then-not-add_new_keys c =
    let v = c.loop-e in
    let a = c.args in
    let before = take v.joined v.ids in
    let list = listed c.sent_keys-list.result in
    let shared : disjoint before list ≡ false = sym c.add_new_keys.ensures.0 ∙ c.if-not-add_new_keys.true in
    let both = and_false (distinct list) in
    let two : distinct (before ++ list) ≡ false = rw (distinct_append before list, shared, both) (and_false (distinct before)) in
    let all = twice_in_all a.source.now a.r a.row c.live-e-items.result.now v.e-index c.loop-e-test.true (rw (v.invariant.3, c.sent_keys-list.ensures.0) at two) in
    sym (rw c.live-e-items.ensures.0 at all)

pub loop-e-preserved : goal.loop-e-preserved
loop-e-preserved c =
    let v = c.loop-e in
    let a = c.args in
    let before = take v.joined v.ids in
    let list = listed c.sent_keys-list.result in
    let new = c.if-not-add_new_keys.false in
    let added = c.add_new_keys.ensures.1 new in
    let next : lists a.source.now a.r a.row (take (v.e-index + 1) c.live-e-items.result.now) ≡ before ++ list =
    rw (v.invariant.3, c.sent_keys-list.ensures.0) (lists_next a.source.now a.r a.row c.live-e-items.result.now v.e-index c.loop-e-test.true) in
    let once : distinct list ≡ true = not-false (distinct list) (sym c.has_repeat.ensures ∙ c.if-has_repeat.false) in
    let none : disjoint before list ≡ true = sym c.add_new_keys.ensures.0 ∙ new in
    let all : distinct (before ++ list) ≡ true = rw (distinct_append before list, v.invariant.4, once, none) in (
      added.room ∙ v.invariant.0,
      added.notes,
      omega (arith, c.sent_keys-list.ensures.1, v.invariant),
      added.joined ∙ sym next,
      rw added.joined all,
      rw added.joined added.noted,
    )
