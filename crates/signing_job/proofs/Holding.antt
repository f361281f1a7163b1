-- The places of a job lie in the store, so the writer takes them.
-- Assumes nothing.
use Prim.Native.Nat.{ℕ, ◌*◌, ◌-◌, ◌<◌, ◌≤◌}
use mathlib.Core.Path.{◌≡◌, refl}
use mathlib.Core.Bool.{Bool, true, false, cond, ◌&&◌}
use mathlib.Core.List.{List, [], ◌∷◌}
use native.Mathlib.Omega.{arith}
use borrow.Author.Tests.{le-leb, leb-true}
use lib.Dec.{leb}
use lib.ListN.{get_or, take, replicate}
use Rattle.wire.specs.Bytes.{every, All}
use Rattle.wire.proofs.Lists.{and_both, and_left, and_right}
use Rattle.layout.specs.Limits.{list_limit, signer_limit, record_limit, store_length}
use Rattle.framing.specs.Writing.{total}
use Rattle.pieces.specs.Places.{holds}
use Rattle.job.specs.Job.{key_counts, share_keys_of, job_holds}
use Rattle.state.specs.declared.fields.SignerSlot.{SignerSlot}
use Rattle.state.specs.declared.fields.SignRoundInfo.{SignRoundInfo}
use Rattle.state.specs.declared.fields.ShareSlot.{ShareSlot}
use Rattle.state.specs.declared.fields.Shares.{Shares}
use Rattle.state.specs.Counts.{sum, row_within_limits, shares_within}
use Rattle.state.specs.Slots.{collect, with_some, when}
use Rattle.state.specs.View.{keys_at, nonces_at, shares_at_place, share_keys_at, no_slot, no_shares}
use Rattle.state.proofs.Arrays.{every_get}
use Rattle.state.proofs.Within.{slot-few, row-slot}
use Rattle.signing_job.specs.Places.{held_shares, place_at, job_place_of, job_place_in}

sum-total : (ns : List ℕ) → sum ns ≡ total ns
unfolding sum total
sum-total [] = refl
sum-total (n ∷ ns) = rw (sum-total ns)

-- a signer's shares, held or not: few, with few key ids
record Few (s : ShareSlot) : Type 0 where
  shares : s.count ≤ list_limit
  keys : total (take s.count s.key_counts) ≤ list_limit

shares_few : (s : ShareSlot) → shares_within s ≡ true → Few (held_shares s)
unfolding shares_within held_shares total
shares_few s w = by s.held w
  where
    by : (b : Bool) → cond b (leb s.count list_limit && leb (sum (take s.count s.key_counts)) list_limit) true ≡ true
        → Few (cond b s (record { held = false; count = 0; key_counts = replicate list_limit 0 }))
    by true w =
        let n = leb s.count list_limit in
        let k = leb (sum (take s.count s.key_counts)) list_limit in
        let ks = take s.count s.key_counts in
        record { shares = leb-true s.count list_limit (and_left n k w); keys = omega (arith, leb-true (sum ks) list_limit (and_right n k w), sum-total ks) }
    by false w = record { shares = omega arith; keys = omega arith }

share_slot : (n j : ℕ) (ss : Shares) → every shares_within (take n ss.slots) ≡ true → j < n → shares_within (get_or ss.slots j no_shares) ≡ true
unfolding shares_within
share_slot n j ss w l = every_get shares_within n ss.slots j no_shares l refl w

place-holds :
    (size r : ℕ) (row : SignRoundInfo) (ss : Shares) (e : SignerSlot) → store_length ≤ size → r < record_limit → e.slot < signer_limit
    → (get_or row.slots e.slot no_slot).key_ids ≤ list_limit → (get_or row.slots e.slot no_slot).nonces ≤ list_limit
    → Few (held_shares (get_or ss.slots e.slot no_shares)) → job_holds size (job_place_of r row.slots ss.slots e) ≡ true
unfolding job_holds holds place_at share_keys_of key_counts
place-holds size r row ss e big low slot keys nonces few =
    let s = get_or row.slots e.slot no_slot in
    let k = held_shares (get_or ss.slots e.slot no_shares) in
    let n = total (take k.count k.key_counts) in
    let i = e.slot in
    and_both _ _ (and_both _ _ (and_both _ _
    (and_both _ _ (and_both _ _ (le-leb s.key_ids list_limit keys) (le-leb (keys_at r i) size (omega arith))) (le-leb (s.key_ids * 4) (size - keys_at r i) (omega arith)))
    (and_both _ _ (and_both _ _ (le-leb s.nonces list_limit nonces) (le-leb (nonces_at r i) size (omega arith))) (le-leb (s.nonces * 66) (size - nonces_at r i) (omega arith))))
    (and_both _ _ (and_both _ _ (le-leb k.count list_limit few.shares) (le-leb (shares_at_place i) size (omega arith))) (le-leb (k.count * 36) (size - shares_at_place i) (omega (arith, few.shares)))))
    (and_both _ _ (and_both _ _ (le-leb n list_limit few.keys) (le-leb (share_keys_at i) size (omega arith))) (le-leb (n * 4) (size - share_keys_at i) (omega (arith, few.keys))))

pub places_hold :
    (size r n : ℕ) (row : SignRoundInfo) (ss : Shares) (es : List SignerSlot) → store_length ≤ size → r < record_limit → n ≤ signer_limit → row_within_limits n row ≡ true
    → every shares_within (take n ss.slots) ≡ true → All (λ (e : SignerSlot). e.slot < n) es → every (job_holds size) (collect (job_place_in r row ss) es) ≡ true
unfolding collect with_some
places_hold size r n row ss [] big low few w v a = refl
places_hold size r n row ss (e ∷ es) big low few w v a = by (get_or row.slots e.slot no_slot).held refl (places_hold size r n row ss es big low few w v a.1)
  where
    by : (b : Bool) → (get_or row.slots e.slot no_slot).held ≡ b → every (job_holds size) (collect (job_place_in r row ss) es) ≡ true
        → every (job_holds size) (with_some (when b (job_place_of r row.slots ss.slots e)) (collect (job_place_in r row ss) es)) ≡ true
    by true h f =
        let k = slot-few (get_or row.slots e.slot no_slot) (row-slot n e.slot row w a.0) h in
        and_both (job_holds size (job_place_of r row.slots ss.slots e)) (every (job_holds size) (collect (job_place_in r row ss) es))
        (place-holds size r row ss e big low (omega (arith, a.0)) k.0 k.1 (shares_few _ (share_slot n e.slot ss v a.0))) f
    by false h f = f
