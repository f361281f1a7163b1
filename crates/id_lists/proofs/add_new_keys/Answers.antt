-- `add_new_keys`: the first i keys are put and noted, and none of them was there.
-- Assumes nothing.
use Prim.Native.Nat.{ℕ, ◌+◌, ◌<◌}
use mathlib.Core.Path.{◌≡◌, refl, sym, ap, ◌∙◌}
use mathlib.Core.Bool.{true, false, false≢true}
use mathlib.Core.List.{[], ◌∷◌, ◌++◌, append-nil, append_assoc}
use native.Mathlib.Omega.{arith}
use borrow.Author.Rules.{scaled_Fits}
use lib.ListN.{length, get_or, take, set, length-set}
use lib.Seq.{take-set-le, get_or-take}
use Rattle.validity.specs.declared.keys.KeyIds.{KeyIds}
use Rattle.validity.specs.Keys.{key_number, key_of, key_at, listed, member, disjoint}
use Rattle.validity.specs.Notes.{Noted}
use Rattle.validity.proofs.Places.{keys, key_in, length-keys}
use Rattle.validity.proofs.Repeats.{not_noted, noted_last, before_next}
use Rattle.id_lists.proofs.Adding.{not_among, disjoint_one, shared_at, put_last}
use Rattle.id_lists.proofs.add_new_keys.Goals as goal

-- a key of the live ones
abbrev live_key : KeyIds → ℕ → ℕ
live_key l i = key_number (get_or (take l.count l.ids) i (key_of 0))

is_live : (l : KeyIds) (i : ℕ) → i < l.count → live_key l i ≡ key_at l i
is_live l i h = ap key_number (get_or-take l.count l.ids i (key_of 0) h)

pub loop-i-init : goal.loop-i-init
unfolding disjoint
loop-i-init c =
    let a = c.args in
    let none : a.count + 0 ≡ a.count = omega arith in (
      refl,
      c.requires.notes,
      refl,
      rw (none, append-nil (take a.count a.ids.now)),
      refl,
      rw (append-nil (take a.count a.ids.now)) c.requires.noted,
    )

pub bounds-seen-byte : goal.bounds-seen-byte
bounds-seen-byte c = omega (arith, c.last_byte-byte.ensures, c.loop-i.invariant)

pub is_among-requires : goal.is_among-requires
is_among-requires c =
    let a = c.args in
    let v = c.loop-i in (
      omega (arith, c.requires.room, v.invariant),
      λ n. ap (member (live_key a.list v.i)) v.invariant.2
          ∙ not_among _ (take a.count a.ids.now) (keys v.i a.list.ids)
          (not_noted v.seen _ _ v.invariant.5 (rw c.last_byte-byte.ensures at n)),
    )

pub returns-then-is_among : goal.returns-then-is_among
unfolding listed
returns-then-is_among c =
    let a = c.args in
    let v = c.loop-i in
    let before = take a.count a.ids.now in
    let there : member (live_key a.list v.i) before ≡ true =
    ap (member (live_key a.list v.i)) (sym v.invariant.2) ∙ sym c.is_among.ensures ∙ c.if-is_among.true in
    let size : length (listed a.list) ≡ a.list.count =
    length-keys a.list.ids a.list.count (omega (arith, c.requires.few, v.invariant)) in
    let here = key_in a.list.ids a.list.count v.i (omega arith) in
    (sym (shared_at before (listed a.list) v.i (omega (arith, size)) (rw (is_live a.list v.i (omega arith), ← here) at there)), λ e. absurd (false≢true e))

pub overflow_add-ids : goal.overflow_add-ids
overflow_add-ids c = omega (arith, c.requires.few)

pub offset_bounds-ids-count : goal.offset_bounds-ids-count
offset_bounds-ids-count c =
    scaled_Fits (c.args.count + c.loop-i.i) (length c.args.ids.now) 4 (omega (arith, c.requires.room))
    c.well_formed.0.1

pub bounds-ids-count : goal.bounds-ids-count
bounds-ids-count c =
    omega (arith, c.requires.room, c.loop-i.invariant)

pub bounds-seen-byte-in-loop-i : goal.bounds-seen-byte-in-loop-i
bounds-seen-byte-in-loop-i c =
    omega (arith, c.last_byte-byte.ensures, c.loop-i.invariant)

pub loop-i-preserved : goal.loop-i-preserved
loop-i-preserved c =
    let a = c.args in
    let v = c.loop-i in
    let before = take a.count a.ids.now in
    let ks = keys v.i a.list.ids in
    let key = live_key a.list v.i in
    let new : member key before ≡ false =
    ap (member key) (sym v.invariant.2) ∙ sym c.is_among.ensures ∙ c.if-is_among.false in
    let next = rw (← is_live a.list v.i (omega arith)) at (before_next a.list a.list.count v.i (omega arith) (omega (arith, c.requires.few, v.invariant))) in
    let last = c.last_byte-byte in
    let noted : Noted (set v.seen last.result true) (before ++ (ks ++ (key ∷ []))) =
    rw (append_assoc before ks (key ∷ []))
    at (noted_last v.seen (before ++ ks) key last.result last.ensures (omega (arith, last.ensures, v.invariant)) v.invariant.5) in (
      length-set v.ids (a.count + v.i) key ∙ v.invariant.0,
      length-set v.seen last.result true ∙ v.invariant.1,
      take-set-le a.count v.ids (a.count + v.i) key (omega arith) ∙ v.invariant.2,
      rw next (put_last v.ids a.count v.i key before ks (omega (arith, c.requires.room, v.invariant)) v.invariant.3),
      rw next (disjoint_one before ks key v.invariant.4 new),
      rw next noted,
    )

pub returns : goal.returns
unfolding listed
returns c =
    let v = c.loop-i in
    let all : v.i ≡ c.args.list.count = omega arith in (
      sym (rw all at v.invariant.4),
      λ e. record {
        room = v.invariant.0;
        notes = v.invariant.1;
        joined = rw all at v.invariant.3;
        noted = rw all at v.invariant.5;
      },
    )
