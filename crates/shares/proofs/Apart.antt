-- Shares that are written leave what lies apart from them.
-- Assumes nothing.
use Prim.Native.Nat.{ℕ, ◌+◌, ◌*◌, ◌≤◌}
use mathlib.Core.Path.{◌≡◌, refl, ◌∙◌}
use mathlib.Core.List.{List, [], ◌∷◌, map}
use native.Mathlib.Omega.{arith}
use lib.ListN.{length, take, drop}
use Rattle.wire.specs.Bytes.{put, All}
use Rattle.wire.proofs.Buffer.{length-put}
use Rattle.state.specs.Counts.{sum}
use Rattle.state.proofs.Store.{Same, same_all, same_then, put-after, put-before}
use Rattle.shares.specs.Shares.{part_keys, put_share, put_shares}
use Rattle.shares.proofs.Parts.{Whole}

-- the n places from `at` on, and the m from b on: below them, or above
pub data Apart (at n b m : ℕ) : Type 0 where
  below : at + n ≤ b → Apart at n b m
  above : b + m ≤ at → Apart at n b m

-- the first of them, and those from c on
pub apart_first : {at n b m : ℕ} (k : ℕ) → k ≤ m → Apart at n b m → Apart at n b k
apart_first k l (below h) = below h
apart_first k l (above h) = above (omega arith)

pub apart_rest : {at n b m : ℕ} (c k : ℕ) → b ≤ c → c + k ≤ b + m → Apart at n b m → Apart at n c k
apart_rest c k f l (below h) = below (omega arith)
apart_rest c k f l (above h) = above (omega arith)

pub put-apart : {at n b m : ℕ} (l bs : List ℕ) → length bs ≡ m → Apart at n b m → Same at n l (put l b bs)
put-apart {at} {n} {b} l bs e (below h) = put-after l b bs at n h
put-apart {at} {n} {b} l bs e (above h) = put-before l b bs at n (omega arith)

-- one share
pub share-apart : {at n : ℕ} (a k : ℕ) (p store : List ℕ) → Whole p → Apart at n a 36 → Apart at n k (part_keys p * 4) → Same at n store (put_share a k p store)
share-apart a k p store w h l = same_then (put-apart store (take 36 p) w.head h) (put-apart (put store a (take 36 p)) (drop 36 p) w.keys l)

-- all
pub shares-apart :
    {at n : ℕ} (a k : ℕ) (ps : List (List ℕ)) (store : List ℕ) → All Whole ps → Apart at n a (36 * length ps) → Apart at n k (4 * sum (map part_keys ps))
    → Same at n store (put_shares a k ps store)
unfolding put_shares sum
shares-apart a k [] store w h l = same_all _ _ store
shares-apart a k (p ∷ ps) store w h l =
    same_then
    (share-apart a k p store w.0 (apart_first 36 (omega arith) h) (apart_first (part_keys p * 4) (omega arith) l))
    (shares-apart (a + 36) (k + part_keys p * 4) ps (put_share a k p store) w.1
    (apart_rest (a + 36) (36 * length ps) (omega arith) (omega arith) h)
    (apart_rest (k + part_keys p * 4) (4 * sum (map part_keys ps)) (omega arith) (omega arith) l))

pub length-shares : (a k : ℕ) (ps : List (List ℕ)) (store : List ℕ) → length (put_shares a k ps store) ≡ length store
unfolding put_shares
length-shares a k [] store = refl
length-shares a k (p ∷ ps) store =
    length-shares (a + 36) (k + part_keys p * 4) ps (put_share a k p store) ∙ length-put (put store a (take 36 p)) k (drop 36 p) ∙ length-put store a (take 36 p)

-- one share written, those after it still to be written
pub shares_next :
    {t : List ℕ} (a k n : ℕ) (p : List ℕ) (ps qs : List (List ℕ)) (store store' : List ℕ) → qs ≡ p ∷ ps → n ≡ part_keys p → store' ≡ put_share a k p store
    → put_shares a k qs store ≡ t → put_shares (a + 36) (k + n * 4) ps store' ≡ t
unfolding put_shares
shares_next a k n p ps qs store store' e f g t = rw (g, f) (rw e at t)

pub shares-done : {t : List ℕ} (a k : ℕ) (qs : List (List ℕ)) (store : List ℕ) → qs ≡ [] → put_shares a k qs store ≡ t → store ≡ t
unfolding put_shares
shares-done a k qs store e t = rw e at t
