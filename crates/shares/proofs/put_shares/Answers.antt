-- `put_shares`: the shares still to be written complete the store; the counts so far stand in their places.
-- Assumes nothing.
use Prim.Native.Nat.{ℕ, ◌+◌, ◌*◌, ◌<◌, ◌≤◌}
use mathlib.Core.Path.{◌≡◌, refl, ap, ◌∙◌}
use mathlib.Core.List.{List, ◌∷◌, map}
use native.Mathlib.Omega.{arith}
use lib.ListN.{set, take, drop, length-set}
use Rattle.layout.specs.LaidOut.{part_at, parts_from}
use Rattle.layout.proofs.Headed.{length-parts_from}
use Rattle.parts.proofs.Taken.{part_of}
use Rattle.state.specs.Counts.{sum}
use Rattle.shares.specs.Shares.{Shareable, part_keys, put_share, count_places}
use Rattle.shares.proofs.Parts.{parts_next, parts_end, keys_left, keys_few, pairs-few}
use Rattle.shares.proofs.Counts.{counts_next, slot-done}
use Rattle.shares.proofs.Apart.{shares_next, shares-done}
use Rattle.shares.proofs.put_shares.Goals as goal

-- a turn: the share at k has n key ids, and those after it have the rest
record Turn (packet : List ℕ) (pairs k n : ℕ) : Type 0 where
  pairs_16 : pairs ≤ 16
  live : drop k (parts_from packet 32 pairs) ≡ part_at packet (32 + 8 * k) ∷ drop (k + 1) (parts_from packet 32 pairs)
  counted : n ≡ part_keys (part_at packet (32 + 8 * k))
  rest : sum (map part_keys (drop k (parts_from packet 32 pairs))) ≡ n + sum (map part_keys (drop (k + 1) (parts_from packet 32 pairs)))
  total : sum (map part_keys (parts_from packet 32 pairs)) ≤ 16
  few : n ≤ 16

turn_of :
    (packet : List ℕ) (pairs k n : ℕ) → Shareable (parts_from packet 32 pairs) → k < pairs → n ≡ part_keys (part_at packet (32 + 8 * k))
    → Turn packet pairs k n
unfolding sum
turn_of packet pairs k n g h counted =
    let ps = parts_from packet 32 pairs in
    let live = parts_next packet 32 pairs k h in
    let rest : sum (map part_keys (drop k ps)) ≡ n + sum (map part_keys (drop (k + 1) ps)) = rw (counted, live) in
    let total = keys_few ps g in
    record { pairs_16 = pairs-few packet 32 pairs g; live = live; counted = counted; rest = rest; total = total; few = omega (arith, keys_left ps k) }

pub loop-k-init : goal.loop-k-init
unfolding count_places
loop-k-init c = (refl, omega arith, omega arith, refl, refl, refl)

pub overflow_cast-k : goal.overflow_cast-k
overflow_cast-k c = omega (arith, pairs-few c.args.packet.now 32 c.args.pairs c.requires.0)

pub overflow_cast-key_counts : goal.overflow_cast-key_counts
overflow_cast-key_counts c =
    let a = c.args in
    let t = turn_of a.packet.now a.pairs c.loop-k.k c.put_share-n.result c.requires.0 c.loop-k-test.true (c.put_share-n.ensures.value ∙ ap part_keys c.share.ensures.0) in
    omega (arith, t.few)

pub bounds-key_counts-k : goal.bounds-key_counts-k
bounds-key_counts-k c =
    let a = c.args in
    let t = turn_of a.packet.now a.pairs c.loop-k.k c.put_share-n.result c.requires.0 c.loop-k-test.true (c.put_share-n.ensures.value ∙ ap part_keys c.share.ensures.0) in
    omega (arith, t.pairs_16, c.loop-k-test.true)

pub overflow_add-at-in-loop-k : goal.overflow_add-at-in-loop-k
overflow_add-at-in-loop-k c =
    let a = c.args in
    let t = turn_of a.packet.now a.pairs c.loop-k.k c.put_share-n.result c.requires.0 c.loop-k-test.true (c.put_share-n.ensures.value ∙ ap part_keys c.share.ensures.0) in
    omega (arith, t.pairs_16, c.loop-k.invariant.2)

pub overflow_mul-keys : goal.overflow_mul-keys
overflow_mul-keys c =
    let a = c.args in
    let t = turn_of a.packet.now a.pairs c.loop-k.k c.put_share-n.result c.requires.0 c.loop-k-test.true (c.put_share-n.ensures.value ∙ ap part_keys c.share.ensures.0) in
    omega (arith, t.few)

pub overflow_add-keys-in-loop-k : goal.overflow_add-keys-in-loop-k
overflow_add-keys-in-loop-k c =
    let a = c.args in
    let t = turn_of a.packet.now a.pairs c.loop-k.k c.put_share-n.result c.requires.0 c.loop-k-test.true (c.put_share-n.ensures.value ∙ ap part_keys c.share.ensures.0) in
    omega (arith, t.few, t.total, c.loop-k.invariant.3)

pub loop-k-preserved : goal.loop-k-preserved
loop-k-preserved c =
    let a = c.args in
    let t = turn_of a.packet.now a.pairs c.loop-k.k c.put_share-n.result c.requires.0 c.loop-k-test.true (c.put_share-n.ensures.value ∙ ap part_keys c.share.ensures.0) in
    let packet = a.packet.now in
    let ps = parts_from packet 32 a.pairs in
    let v = c.loop-k in
    let n = c.put_share-n.result in
    let h = c.loop-k-test.true in
    let e = length-parts_from packet 32 a.pairs in
    let counts : set v.key_counts v.k n ≡ count_places (map part_keys (take (v.k + 1) ps)) =
    rw (v.invariant.4, t.counted, ← part_of packet 32 a.pairs v.k h) (counts_next ps v.k (omega arith) (omega (arith, t.pairs_16))) in (
      length-set v.key_counts v.k n ∙ v.invariant.0,
      omega arith,
      omega arith,
      omega (arith, v.invariant.3, t.rest),
      counts,
      shares_next v.at v.keys n (part_at packet (32 + 8 * v.k)) _ _ v.store _ t.live t.counted
          (c.put_share-n.ensures.store_after ∙ ap (λ (p : List ℕ). put_share v.at v.keys p v.store) c.share.ensures.0) v.invariant.5,
    )

-- no share is left to write after the loop
pub returns : goal.returns
returns c =
    let a = c.args in
    let v = c.loop-k in
    let packet = a.packet.now in record {
      value = slot-done (parts_from packet 32 a.pairs) a.pairs v.k v.key_counts (length-parts_from packet 32 a.pairs) c.loop-k-test.false v.invariant.4;
      store_after = shares-done v.at v.keys _ v.store (parts_end packet 32 a.pairs v.k c.loop-k-test.false) v.invariant.5;
    }
