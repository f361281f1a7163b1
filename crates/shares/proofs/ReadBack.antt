-- Shares are read back as they were written.
-- Assumes nothing.
use Prim.Native.Nat.{ℕ, ◌+◌, ◌*◌, ◌≤◌}
use mathlib.Core.Path.{◌≡◌, refl, sym, ap, ◌∙◌}
use mathlib.Core.List.{List, [], ◌∷◌, map}
use native.Mathlib.Omega.{arith}
use lib.ListN.{length, take, drop}
use lib.Seq.{take-take, drop-drop}
use Rattle.wire.specs.Bytes.{put, All}
use Rattle.wire.proofs.Buffer.{length-put}
use Rattle.layout.specs.Decode.{share_in}
use Rattle.job.specs.Job.{shares_from}
use Rattle.state.specs.Counts.{sum}
use Rattle.state.proofs.Store.{same_bytes, same_then, put-after, put_read}
use Rattle.shares.specs.Shares.{part_keys, put_shares}
use Rattle.shares.proofs.Parts.{Whole}
use Rattle.shares.proofs.Apart.{below, above, shares-apart}

-- from the same 36 bytes, the same id and z_i
head_id : (s p : List ℕ) (a : ℕ) → take 36 (drop a s) ≡ take 36 p → take 4 (drop a s) ≡ take 4 p
head_id s p a e = sym (take-take 4 36 (drop a s) (omega arith)) ∙ ap (take 4) e ∙ take-take 4 36 p (omega arith)

head_z : (s p : List ℕ) (a : ℕ) → take 36 (drop a s) ≡ take 36 p → take 32 (drop (a + 4) s) ≡ take 32 (drop 4 p)
head_z s p a e = rw (← drop-drop 4 a s) (sym (after_4 (drop a s)) ∙ ap (drop 4) e ∙ after_4 p)
  where
    after_4 : (l : List ℕ) → drop 4 (take 36 l) ≡ take 32 (drop 4 l)
    after_4 [] = refl
    after_4 (w ∷ []) = refl
    after_4 (w ∷ (x ∷ [])) = refl
    after_4 (w ∷ (x ∷ (y ∷ []))) = refl
    after_4 (w ∷ (x ∷ (y ∷ (z ∷ l)))) = refl

-- the shares end before their key ids begin, and these in the store
pub read_back :
    (a k : ℕ) (ps : List (List ℕ)) (store : List ℕ) → All Whole ps → a + 36 * length ps ≤ k → k + 4 * sum (map part_keys ps) ≤ length store
    → shares_from (put_shares a k ps store) a k (map part_keys ps) ≡ map share_in ps
unfolding put_shares shares_from sum share_in
read_back a k [] store w h l = refl
read_back a k (p ∷ ps) store w h l =
    let n = part_keys p in
    let store₁ = put store a (take 36 p) in
    let store₂ = put store₁ k (drop 36 p) in
    let after = put_shares (a + 36) (k + n * 4) ps store₂ in
    let head = w.0.head in
    let size = w.0.keys in
    let long = length-put store a (take 36 p) in
    let long₂ = length-put store₁ k (drop 36 p) in
    let a₁ : take 36 (drop a store₁) ≡ take 36 p = put_read store a (take 36 p) 36 (sym head) (omega arith) in
    let a₂ : take 36 (drop a store₁) ≡ take 36 (drop a after) =
    same_bytes {at = a} {n = 36} (same_then (put-after store₁ k (drop 36 p) a 36 (omega arith)) (shares-apart (a + 36) (k + n * 4) ps store₂ w.1 (below (omega arith)) (below (omega arith)))) in
    let b₁ : take (n * 4) (drop k store₂) ≡ drop 36 p = put_read store₁ k (drop 36 p) (n * 4) (sym size) (omega arith) in
    let b₂ : take (n * 4) (drop k store₂) ≡ take (n * 4) (drop k after) =
    same_bytes {at = k} {n = n * 4} (shares-apart (a + 36) (k + n * 4) ps store₂ w.1 (above (omega arith)) (below (omega arith))) in
    let e : take 36 (drop a after) ≡ take 36 p = sym a₂ ∙ a₁ in
    rw (head_id after p a e, head_z after p a e, sym b₂ ∙ b₁, read_back (a + 36) (k + n * 4) ps store₂ w.1 (omega arith) (omega arith))
