-- Laws of signers whose lists hold: how many, which, and their lengths in all.
-- Assumes nothing.
use Prim.Native.Nat.{ℕ, ◌+◌, ◌*◌, ◌≤◌, ◌<◌}
use mathlib.Core.Path.{◌≡◌, refl}
use mathlib.Core.Bool.{true, ◌&&◌}
use mathlib.Core.List.{List, [], ◌∷◌, ◌++◌, map}
use native.Mathlib.Nat.{le_refl, mul-le-mul, suc-mul}
use native.Mathlib.Omega.{arith}
use lib.ListN.{length, get_or, take, drop, length-take, length-map, length-append, drop_of_length-le}
use lib.Dec.{leb}
use borrow.Author.Tests.{leb-true}
use Rattle.wire.specs.Bytes.{joined, every}
use Rattle.wire.proofs.Lists.{and_left, and_right, the_every_at}
use Rattle.framing.specs.Writing.{total}
use Rattle.pieces.specs.Places.{holds}
use Rattle.pieces.proofs.Given.{Held, held}
use Rattle.job.specs.declared.JobPlace.{JobPlace}
use Rattle.job.specs.declared.JobPlaces.{JobPlaces}
use Rattle.job.specs.declared.JobList.{JobList}
use Rattle.job.specs.declared.JobList.TheVariants.{KeyIds, Nonces}
use Rattle.job.specs.Job.{key_counts, share_keys_of, job_holds, signers_in, jobs_hold, list_of, width, list_length, share_length, share_lengths}

-- what a read past the end of the signers would give
abbrev pub no_place : JobPlace
no_place =
    record { key_ids = record { at = 0; count = 0 }; nonces = record { at = 0; count = 0 }; shares = record { at = 0; count = 0 }; share_keys_at = 0; share_key_counts = [] }

-- nothing is live from the count on
pub live_none : {A : Type 0} (xs : List A) (n i : ℕ) → n ≤ i → drop i (take n xs) ≡ []
live_none xs n i h = drop_of_length-le (take n xs) {i = i} (rw length-take (omega arith))

-- sums of numbers, joined, and of shares' lengths
pub total_append : (ms ns : List ℕ) → total (ms ++ ns) ≡ total ms + total ns
unfolding total
total_append [] ns = omega arith
total_append (m ∷ ms) ns = rw (total_append ms ns) (omega arith)

total-shares : (ns : List ℕ) → total (map share_length ns) ≡ 36 * length ns + 4 * total ns
unfolding total
total-shares [] = refl
total-shares (n ∷ ns) = rw (total-shares ns) (omega arith)

-- what a signer's lists that hold say
pub record JobHeld (size : ℕ) (p : JobPlace) : Type 0 where
  pub list : (list : JobList) → Held size (width list) 16 (list_of list p)
  pub shares : Held size 36 16 p.shares
  pub share_keys : Held size 4 16 (share_keys_of p)

pub job_held : (size : ℕ) (p : JobPlace) → job_holds size p ≡ true → JobHeld size p
unfolding job_holds
job_held size p h =
    let abc : holds size 4 16 p.key_ids && holds size 66 16 p.nonces && holds size 36 16 p.shares ≡ true = and_left _ _ h in
    let ab : holds size 4 16 p.key_ids && holds size 66 16 p.nonces ≡ true = and_left _ _ abc in
    record {
      list = lists (and_left _ _ ab) (and_right (holds size 4 16 p.key_ids) _ ab);
      shares = held _ _ _ _ (and_right (holds size 4 16 p.key_ids && holds size 66 16 p.nonces) _ abc);
      share_keys = held _ _ _ _ (and_right (holds size 4 16 p.key_ids && holds size 66 16 p.nonces && holds size 36 16 p.shares) _ h);
    }
  where
    lists : holds size 4 16 p.key_ids ≡ true → holds size 66 16 p.nonces ≡ true → (list : JobList) → Held size (width list) 16 (list_of list p)
    lists k n KeyIds = held _ _ _ _ k
    lists k n Nonces = held _ _ _ _ n

-- a signer's shares are few and short
pub counts-few : (p : JobPlace) → length (key_counts p) ≤ p.shares.count
unfolding key_counts
counts-few p = rw length-take (omega arith)

shares_few : (size : ℕ) (p : JobPlace) → JobHeld size p → length (share_lengths p) ≤ 16
unfolding share_lengths
shares_few size p h = rw length-map (omega (arith, counts-few p))

pub shares-short : (size : ℕ) (p : JobPlace) → JobHeld size p → total (share_lengths p) ≤ 640
unfolding share_lengths share_keys_of
shares-short size p h = omega (arith, total-shares (key_counts p), counts-few p)

-- either list's entries are at most this wide
pub width_small : (list : JobList) → width list ≤ 66
width_small KeyIds = omega arith
width_small Nonces = omega arith

-- places that hold: how many, which, and their lengths in all
module _ (size : ℕ) (ps : JobPlaces) (h : jobs_hold size ps ≡ true) where
  pub signers_few : ps.count ≤ 10
  unfolding jobs_hold
  signers_few = leb-true ps.count 10 (and_left _ _ h)

  pub signers_hold : every (job_holds size) (signers_in ps) ≡ true
  unfolding jobs_hold
  signers_hold = and_right (leb ps.count 10) _ h

  -- a number of the signers to which each adds at most k
  in_all : (k : ℕ) (f : List JobPlace → ℕ) → f [] ≡ 0 → ((q : JobPlace) (qs : List JobPlace) → JobHeld size q → f (q ∷ qs) ≤ k + f qs) → f (signers_in ps) ≤ 10 * k
  unfolding signers_in
  in_all k f none more =
      let few : ps.count ≤ 10 = signers_few in
      let n : length (signers_in ps) ≤ 10 = rw length-take (omega arith) in
      omega (arith, walk (signers_in ps) signers_hold, mul-le-mul n (le_refl k))
    where
      walk : (qs : List JobPlace) → every (job_holds size) qs ≡ true → f qs ≤ length qs * k
      walk [] e = omega arith
      walk (q ∷ qs) e =
          omega (arith, suc-mul (length qs) k, more q qs (job_held size q (and_left _ _ e)), walk qs (and_right (job_holds size q) _ e))

  pub lists_short : (list : JobList) → total (map (list_length list) (signers_in ps)) ≤ 10 * (16 * width list)
  unfolding total
  lists_short list = in_all (16 * width list) (λ qs. total (map (list_length list) qs)) refl (λ q qs g. omega (arith, mul-le-mul (g.list list).few (le_refl (width list))))

  pub all_few : length (joined (map share_lengths (signers_in ps))) ≤ 160
  all_few = in_all 16 (λ qs. length (joined (map share_lengths qs))) refl (λ q qs g. rw length-append (omega (arith, shares_few size q g)))

  pub all_short : total (joined (map share_lengths (signers_in ps))) ≤ 6400
  unfolding total
  all_short = in_all 640 (λ qs. total (joined (map share_lengths qs))) refl (λ q qs g. rw total_append (omega (arith, shares-short size q g)))

  -- the signer at i of those that count, as a walk over them takes it
  module _ (live : List JobPlace) (e : live ≡ signers_in ps) where
    pub live_few : length live ≤ 10
    unfolding signers_in
    live_few = rw (e, length-take) (omega (arith, signers_few))

    pub live_holds : (i : ℕ) (d : JobPlace) → i < length live → job_holds size (get_or live i d) ≡ true
    live_holds i d l = the_every_at (job_holds size) live i d (rw e signers_hold) l

    pub live_held : (i : ℕ) (d : JobPlace) → i < length live → JobHeld size (get_or live i d)
    live_held i d l = job_held size (get_or live i d) (live_holds i d l)

    pub live_lists_short : (list : JobList) → total (map (list_length list) live) ≤ 10 * (16 * width list)
    live_lists_short list = rw e (lists_short list)

    pub live_all_few : length (joined (map share_lengths live)) ≤ 160
    live_all_few = rw e all_few

    pub live_all_short : total (joined (map share_lengths live)) ≤ 6400
    live_all_short = rw e all_short
