-- `share_keys`: the keys so far, then those of the shares still to come, are all.
-- Assumes nothing.
use Prim.Native.Nat.{ℕ, ◌+◌, ◌*◌, ◌<◌, ◌≤◌}
use mathlib.Core.Path.{◌≡◌, refl, sym, ap, ◌∙◌}
use mathlib.Core.List.{List, ◌∷◌, ◌++◌, map, append-nil}
use native.Mathlib.Omega.{arith}
use lib.ListN.{drop}
use Rattle.layout.specs.LaidOut.{part_at, parts_from}
use Rattle.layout.specs.Decode.{ids_in}
use Rattle.validity.specs.declared.keys.KeyIds.{KeyIds}
use Rattle.validity.specs.Keys.{key_list, listed}
use Rattle.step_definition.specs.Effects.{share_key_ids}
use Rattle.state.specs.Counts.{sum}
use Rattle.shares.specs.Shares.{Shareable, part_keys}
use Rattle.shares.proofs.Parts.{parts_next, parts_end, keys_few, pairs-few}
use Rattle.shares.proofs.Joined.{share-joined, part_keys_law}
use Rattle.shares.proofs.share_keys.Goals as goal

-- a turn: the share at k, and its key ids by value
record Turn (packet : List ℕ) (pairs k count : ℕ) (more : KeyIds) : Type 0 where
  live : drop k (parts_from packet 32 pairs) ≡ part_at packet (32 + 8 * k) ∷ drop (k + 1) (parts_from packet 32 pairs)
  keys : listed more ≡ ids_in (drop 36 (part_at packet (32 + 8 * k)))
  rest : count + more.count + sum (map part_keys (drop (k + 1) (parts_from packet 32 pairs))) ≡ sum (map part_keys (parts_from packet 32 pairs))
  room : count + more.count ≤ 16

turn_of :
    (packet : List ℕ) (pairs k count : ℕ) (more : KeyIds) → Shareable (parts_from packet 32 pairs) → k < pairs → more ≡ key_list (drop 36 (part_at packet (32 + 8 * k)))
    → count + sum (map part_keys (drop k (parts_from packet 32 pairs))) ≡ sum (map part_keys (parts_from packet 32 pairs)) → Turn packet pairs k count more
unfolding sum
turn_of packet pairs k count more g h made so_far =
    let ps = parts_from packet 32 pairs in
    let p = part_at packet (32 + 8 * k) in
    let live = parts_next packet 32 pairs k h in
    let total = keys_few ps g in
    let all : count + (part_keys p + sum (map part_keys (drop (k + 1) ps))) ≡ sum (map part_keys ps) = rw live at so_far in
    let keys = part_keys_law p more made (omega arith) in
    record { live = live; keys = keys.0; rest = omega (arith, keys.1); room = omega (arith, keys.1) }

pub loop-k-init : goal.loop-k-init
unfolding listed
loop-k-init c = (omega arith, omega arith, refl)

pub overflow_cast-k : goal.overflow_cast-k
overflow_cast-k c = omega (arith, pairs-few c.args.packet.now 32 c.args.pairs c.requires)

pub join-list-requires : goal.join-list-requires
join-list-requires c =
    let a = c.args in
    let t = turn_of a.packet.now a.pairs c.loop-k.k c.loop-k.list.count c.key_list.result c.requires c.loop-k-test.true (c.key_list.ensures ∙ ap key_list (c.share_key_ids.ensures ∙ ap (drop 36) c.share-share.ensures.0)) c.loop-k.invariant.1 in
    omega (arith, t.room)

pub loop-k-preserved : goal.loop-k-preserved
loop-k-preserved c =
    let a = c.args in
    let v = c.loop-k in
    let t = turn_of a.packet.now a.pairs c.loop-k.k c.loop-k.list.count c.key_list.result c.requires c.loop-k-test.true (c.key_list.ensures ∙ ap key_list (c.share_key_ids.ensures ∙ ap (drop 36) c.share-share.ensures.0)) c.loop-k.invariant.1 in (
      omega arith,
      omega (arith, t.rest, c.join-list.ensures.1),
      share-joined (listed c.join-list.result) (listed v.list) _ _ _ t.live (c.join-list.ensures.0 ∙ ap (λ (l : List ℕ). listed v.list ++ l) t.keys) v.invariant.2,
    )

pub returns : goal.returns
unfolding share_key_ids
returns c =
    let a = c.args in
    let v = c.loop-k in
    sym (append-nil (listed v.list)) ∙ rw (parts_end a.packet.now 32 a.pairs v.k c.loop-k-test.false) at v.invariant.2
