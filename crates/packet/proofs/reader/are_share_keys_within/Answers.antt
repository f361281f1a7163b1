-- The loop's invariant: the total and the key ids that are left make up all. The loop ends above 16, so the total fits.
-- Assumes nothing.
use Prim.Native.Nat.{ℕ, ◌+◌, ◌*◌, ◌<◌, ◌≤◌}
use mathlib.Core.Path.{◌≡◌, sym}
use mathlib.Core.List.{List}
use native.Mathlib.Nat.{sub-zero, zero-add}
use native.Mathlib.Omega.{arith}
use borrow.Author.Tests.{le-leb, lt-leb}
use lib.ListN.{length}
use Rattle.layout.specs.LaidOut.{part_at}
use Rattle.layout.specs.Decode.{share_in, key_count}
use Rattle.packet.proofs.Laws.{parts_step, parts_end, share_keys-le}
use Rattle.packet.proofs.reader.are_share_keys_within.Invariants.{keys}
use Rattle.packet.proofs.reader.are_share_keys_within.Goals as goal

-- the first of them, then those after it
step : (s : List ℕ) (i n : ℕ) → i < n → keys s i n ≡ length (share_in (part_at s (32 + 8 * i))).key_ids + keys s (i + 1) n
unfolding key_count
step s i n h = rw (parts_step s i n h)

none : (s : List ℕ) (i n : ℕ) → n ≤ i → keys s i n ≡ 0
unfolding key_count
none s i n h = rw (parts_end s (32 + 8 * i) i n h)

pub loop-i-init : goal.loop-i-init
loop-i-init c = (zero-add _, omega arith)

pub overflow_add-total : goal.overflow_add-total
overflow_add-total c = omega (arith, c.share_keys-total.ensures, share_keys-le c.args.s.now (32 + 8 * c.loop-i.i))

pub returns-then-total-gt-LIST_LIMIT : goal.returns-then-total-gt-LIST_LIMIT
returns-then-total-gt-LIST_LIMIT c = let a = c.args in
    let v = c.loop-i in
    rw (← sub-zero a.pairs) (sym (lt-leb (keys a.s.now 0 a.pairs) 16 (omega (arith, step a.s.now v.i a.pairs c.loop-i-test.true, c.share_keys-total.ensures, v.invariant.0))))

pub loop-i-preserved : goal.loop-i-preserved
loop-i-preserved c = let a = c.args in
    let v = c.loop-i in
    (omega (arith, step a.s.now v.i a.pairs c.loop-i-test.true, c.share_keys-total.ensures, v.invariant.0), omega arith)

pub returns : goal.returns
returns c = let a = c.args in
    let v = c.loop-i in
    rw (← sub-zero a.pairs) (sym (le-leb (keys a.s.now 0 a.pairs) 16 (omega (arith, none a.s.now v.i a.pairs c.loop-i-test.false, v.invariant.0))))
