-- The packet of a job: message, root, key ids and nonces, then a part per share.
-- Assumes nothing.
use Prim.Native.Nat.{ℕ, ◌+◌, ◌*◌}
use mathlib.Core.Path.{◌≡◌, refl, ap, ◌∙◌}
use mathlib.Core.Bool.{true}
use mathlib.Core.List.{List, [], ◌∷◌, ◌++◌, map, append-nil, append_assoc}
use native.Mathlib.Omega.{arith}
use lib.ListN.{length, length-append, length-map}
use Rattle.wire.specs.Bytes.{Bytes, put, joined, every}
use Rattle.wire.proofs.Numbers.{length-le}
use Rattle.wire.proofs.Buffer.{put_next}
use Rattle.layout.specs.declared.Header.{Header}
use Rattle.layout.specs.Types.{type_number}
use Rattle.layout.specs.Encode.{header_bytes, header_of, packet, share_bytes, encode_job}
use Rattle.body.specs.declared.RequestHead.{RequestHead}
use Rattle.framing.specs.Writing.{pairs, total}
use Rattle.body.specs.Body.{root_of}
use Rattle.framing.proofs.Laws.{pairs_append, put_lots, length-parts}
use Rattle.job.specs.declared.JobPlaces.{JobPlaces}
use Rattle.job.specs.declared.JobList.TheVariants.{KeyIds, Nonces}
use Rattle.job.specs.Job.{job_holds, signers_in, shares_of, job_of, list_bytes, share_lengths}
use Rattle.job.proofs.Lists.{the_key_bytes, nonces_bytes, share_count}

-- pairs, then those after them
length_pairs : (at : ℕ) (ns : List ℕ) → length (pairs at ns) ≡ 8 * length ns
unfolding pairs
length_pairs at [] = refl
length_pairs at (n ∷ ns) = rw (length-append, length-append, length-le, length-le, length_pairs (at + n) ns) (omega arith)

pub put_pairs_next :
    (l : List ℕ) (p at : ℕ) (ms ns : List ℕ) → put (put l p (pairs at ms)) (p + 8 * length ms) (pairs (at + total ms) ns) ≡ put l p (pairs at (ms ++ ns))
put_pairs_next l p at ms ns =
    put_next l p (pairs at ms) (p + 8 * length ms) (pairs (at + total ms) ns) (ap (λ (k : ℕ). p + k) (length_pairs at ms)) ∙ ap (put l p) (pairs_append at ms ns)

-- frame, pairs of the shares, the lists one by one, the shares
module _ (h : Header) (message root keys nonces : List ℕ) (rs : List (List ℕ)) (at : ℕ) (e : at ≡ 64 + 8 * length rs) where
  pub put-job :
      (out : List ℕ) (k n ends : ℕ) → k ≡ at + length message + length root → n ≡ k + length keys → ends ≡ n + length nonces
      → let lens = length message ∷ (length root ∷ (length keys ∷ (length nonces ∷ []))) in
      put (put (put (put (put (put out 0 (header_bytes h ++ pairs at lens)) 64 (pairs ends (map length rs))) at (message ++ root)) k keys) n nonces) ends (joined rs)
      ≡ put out 0 (packet h (message ∷ (root ∷ (keys ∷ (nonces ∷ rs)))))
  put-job out k n ends ek en ee =
      let lists = message ∷ (root ∷ (keys ∷ (nonces ∷ []))) in
      let body : joined lists ≡ ((message ++ root) ++ keys) ++ nonces = rw (append-nil, append_assoc, append_assoc) in
      let size₁ : length (message ++ root) ≡ length message + length root = length-append message root in
      let size₂ : length ((message ++ root) ++ keys) ≡ length (message ++ root) + length keys = length-append (message ++ root) keys in
      let size₃ : length (((message ++ root) ++ keys) ++ nonces) ≡ length ((message ++ root) ++ keys) + length nonces = length-append ((message ++ root) ++ keys) nonces in
      rw (put_next _ at (message ++ root) k keys (omega arith), put_next _ at ((message ++ root) ++ keys) n nonces (omega arith), ← body)
      (put_lots out h lists rs at 64 ends (omega arith) refl (rw body (omega arith)))

  pub length-job :
      length (packet h (message ∷ (root ∷ (keys ∷ (nonces ∷ rs))))) ≡ at + length message + length root + length keys + length nonces + total (map length rs)
  unfolding total
  length-job = rw length-parts (omega arith)

-- the packet, from what lies at the places
pub encode_at :
    (head : RequestHead) (message source : List ℕ) (b : Bytes source) (ps : JobPlaces) → every (job_holds (length source)) (signers_in ps) ≡ true
    → encode_job (job_of head message source ps)
    ≡ packet (header_of 32 (type_number head.signature_type) (4 + length (joined (map share_lengths (signers_in ps)))) 0 head.ids)
    (message ∷ (root_of head ∷ (joined (map (list_bytes KeyIds source) (signers_in ps)) ∷ (joined (map (list_bytes Nonces source) (signers_in ps)) ∷ map share_bytes (shares_of source (signers_in ps))))))
unfolding encode_job job_of
encode_at head message source b ps e =
    rw (the_key_bytes source b (signers_in ps) e, nonces_bytes source b (signers_in ps) e, ← share_count source b (signers_in ps) e, length-map)
