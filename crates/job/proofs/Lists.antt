-- Laws of the lists as bytes: what the signers' lists say is what lies at their places.
-- Assumes nothing.
use Prim.Native.Nat.{ℕ, ◌+◌, ◌*◌, ◌≤◌}
use mathlib.Core.Path.{◌≡◌, refl, sym, ap, ◌∙◌}
use mathlib.Core.Bool.{true}
use mathlib.Core.List.{List, [], ◌∷◌, ◌++◌, map, map-append, append_assoc}
use native.Mathlib.Nat.{mul-mod_left}
use native.Mathlib.Omega.{arith}
use lib.ListN.{length, take, drop, length-append, length-drop, length-map}
use lib.Seq.{length-take-le, take-add, drop-drop}
use Rattle.wire.specs.Bytes.{Bytes, le, joined, every}
use Rattle.wire.proofs.Numbers.{bytes_take, bytes_drop}
use Rattle.wire.proofs.Fields.{field_back}
use Rattle.wire.proofs.Lists.{and_left, and_right, joined_append}
use Rattle.layout.specs.Encode.{id_bytes, nonce_bytes, share_bytes}
use Rattle.layout.specs.Decode.{ids_in, nonces_in}
use Rattle.layout.proofs.Entries.{id_bytes-ids_in}
use Rattle.framing.specs.Writing.{total}
use Rattle.framing.proofs.Laws.{total_lengths}
use Rattle.pieces.proofs.Given.{length_bytes_at, ids_at, nonces_at}
use Rattle.job.specs.declared.JobPlace.{JobPlace}
use Rattle.job.specs.declared.JobList.{JobList}
use Rattle.job.specs.declared.JobList.TheVariants.{KeyIds, Nonces}
use Rattle.job.specs.Job.{key_counts, share_keys_of, job_holds, shares_from, shares_at_place, keys_of, nonces_of, shares_of, list_of, width, list_length, list_bytes, share_length, share_lengths}
use Rattle.job.proofs.Held.{JobHeld, job_held, counts-few}

-- entries after entries
pub joined-map :
    {A : Type 0} (enc : A → List ℕ) (xs ys : List A) {bytes : List ℕ} → joined (map enc xs) ≡ bytes → joined (map enc (xs ++ ys)) ≡ bytes ++ joined (map enc ys)
joined-map enc xs ys e = rw (map-append enc xs ys, joined_append, e)

module _ (source : List ℕ) (b : Bytes source) where
  -- the part of a share: id and z_i in 36 bytes, then its key ids
  module _ (at keys n : ℕ) where
    pub length-share : at + 36 ≤ length source → keys + n * 4 ≤ length source → length (take 36 (drop at source) ++ take (n * 4) (drop keys source)) ≡ share_length n
    length-share h k =
        rw (length-append, length-take-le 36 (drop at source) (rw length-drop (omega arith)), length-take-le (n * 4) (drop keys source) (rw length-drop (omega arith)))

    pub shares_next :
        (ns : List ℕ) → at + 36 ≤ length source → keys + n * 4 ≤ length source
        → map share_bytes (shares_from source at keys (n ∷ ns))
        ≡ (take 36 (drop at source) ++ take (n * 4) (drop keys source)) ∷ map share_bytes (shares_from source (at + 36) (keys + n * 4) ns)
    unfolding shares_from share_bytes
    shares_next ns h k =
        let ids = take (n * 4) (drop keys source) in
        let size : length ids ≡ n * 4 = length-take-le (n * 4) (drop keys source) (rw length-drop (omega arith)) in
        let head : take 36 (drop at source) ≡ take 4 (drop at source) ++ take 32 (drop (at + 4) source) = rw (← drop-drop 4 at source) (take-add 4 32 (drop at source)) in
        ap (λ (p : List ℕ). p ∷ map share_bytes (shares_from source (at + 36) (keys + n * 4) ns))
        (rw (field_back 4 at source b (omega arith), id_bytes-ids_in ids (bytes_take (n * 4) (drop keys source) (bytes_drop keys source b)) (rw size (mul-mod_left n 4)), head, append_assoc))

  -- the lengths of the parts
  lengths-from :
      (at keys : ℕ) (ns : List ℕ) → at + 36 * length ns ≤ length source → keys + total ns * 4 ≤ length source
      → map length (map share_bytes (shares_from source at keys ns)) ≡ map share_length ns
  unfolding shares_from total
  lengths-from at keys [] h k = refl
  lengths-from at keys (n ∷ ns) h k =
      ap (map length) (shares_next at keys n ns (omega arith) (omega arith))
      ∙ rw (length-share at keys n (omega arith) (omega arith), lengths-from (at + 36) (keys + n * 4) ns (omega arith) (omega arith))

  -- a signer's shares
  module _ (p : JobPlace) (h : JobHeld (length source) p) where
    lengths_at : map length (map share_bytes (shares_at_place source p)) ≡ share_lengths p
    unfolding shares_at_place share_lengths share_keys_of
    lengths_at =
        lengths-from p.shares.at p.share_keys_at (key_counts p) (omega (arith, h.shares, counts-few p)) (omega (arith, h.share_keys))

    pub length-shares : length (joined (map share_bytes (shares_at_place source p))) ≡ total (share_lengths p)
    length-shares = rw (← lengths_at) (sym (total_lengths (map share_bytes (shares_at_place source p))))

  -- what each signer adds, joined
  joined_of :
      (F : List JobPlace → List ℕ) (f : JobPlace → List ℕ) → F [] ≡ [] → ((q : JobPlace) (qs : List JobPlace) → JobHeld (length source) q → F (q ∷ qs) ≡ f q ++ F qs)
      → (qs : List JobPlace) → every (job_holds (length source)) qs ≡ true → F qs ≡ joined (map f qs)
  joined_of F f none more [] e = none
  joined_of F f none more (q ∷ qs) e =
      rw (more q qs (job_held (length source) q (and_left _ _ e)), joined_of F f none more qs (and_right (job_holds (length source) q) _ e))

  -- the lists of all signers as bytes, the shares' lengths and number, the lists' lengths
  module _ (qs : List JobPlace) (e : every (job_holds (length source)) qs ≡ true) where
    pub the_key_bytes : id_bytes (keys_of source qs) ≡ joined (map (list_bytes KeyIds source) qs)
    unfolding id_bytes keys_of
    the_key_bytes =
        joined_of (λ ps. id_bytes (keys_of source ps)) (list_bytes KeyIds source) refl
        (λ q rest h. joined-map (le 4) (ids_in (list_bytes KeyIds source q)) (keys_of source rest) (ids_at source b 16 q.key_ids (h.list KeyIds)))
        qs e

    pub nonces_bytes : joined (map nonce_bytes (nonces_of source qs)) ≡ joined (map (list_bytes Nonces source) qs)
    unfolding nonces_of
    nonces_bytes =
        joined_of (λ ps. joined (map nonce_bytes (nonces_of source ps))) (list_bytes Nonces source) refl
        (λ q rest h. joined-map nonce_bytes (nonces_in (list_bytes Nonces source q)) (nonces_of source rest) (nonces_at source b 16 q.nonces (h.list Nonces)))
        qs e

    pub the_share_lengths : map length (map share_bytes (shares_of source qs)) ≡ joined (map share_lengths qs)
    unfolding shares_of
    the_share_lengths =
        joined_of (λ ps. map length (map share_bytes (shares_of source ps))) share_lengths refl (λ q rest h. rw (map-append share_bytes, map-append length, lengths_at q h)) qs e

    pub share_count : length (map share_bytes (shares_of source qs)) ≡ length (joined (map share_lengths qs))
    share_count = rw (← the_share_lengths) (sym (length-map (map share_bytes (shares_of source qs)) length))

    pub length_lists : (list : JobList) → length (joined (map (list_bytes list source) qs)) ≡ total (map (list_length list) qs)
    unfolding total
    length_lists list = walk qs e
      where
        walk : (ps : List JobPlace) → every (job_holds (length source)) ps ≡ true → length (joined (map (list_bytes list source) ps)) ≡ total (map (list_length list) ps)
        walk [] e = refl
        walk (p ∷ ps) e =
            let h = job_held (length source) p (and_left _ _ e) in
            rw (length-append, length_bytes_at source b 16 (list_of list p) (width list) (h.list list), walk ps (and_right (job_holds (length source) p) _ e))
