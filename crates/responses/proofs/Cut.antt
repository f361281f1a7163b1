-- Lists cut into shares, and shares joined to lists again.
-- Assumes nothing.
use Prim.Native.Nat.{ℕ, zero, suc, ◌*◌, ◌≤◌}
use mathlib.Core.Path.{◌≡◌, refl, sym, ap, ◌∙◌}
use mathlib.Core.Bool.{true, ◌&&◌}
use mathlib.Core.List.{List, [], ◌∷◌, map}
use native.Mathlib.Nat.{suc-mul}
use native.Mathlib.Omega.{arith}
use lib.Dec.{eqb}
use lib.ListN.{length, take, drop, length-append, length-drop, length-map, take-append-drop}
use lib.Seq.{length-take-le, take_at, drop_at}
use borrow.Author.Tests.{eq-eqb, eqb-true}
use Rattle.wire.specs.Bytes.{Bytes, All}
use Rattle.wire.proofs.Lists.{and_left, and_right, and_both, all_imp, all_map, length-joined}
use Rattle.wire.proofs.Numbers.{bytes_take, bytes_drop}
use Rattle.layout.specs.Messages.{SignatureShare}
use Rattle.layout.specs.Decode.{key_count}
use Rattle.layout.specs.Fits.{IdsListed, ShareFits}
use Rattle.framing.specs.Writing.{total}
use Rattle.responses.specs.Responses.{shares_given, lists_agree}
use Rattle.responses.specs.ReadBack.{ids_of, z_is_of, counts_of, key_ids_of, SharesRead, Agree}

-- the test is passed where the lists agree
module _ (ids z_i counts key_ids : List ℕ) where
  pub agreed : lists_agree ids z_i counts key_ids ≡ true → Agree ids z_i counts key_ids
  unfolding lists_agree
  agreed e =
      let l : eqb (length z_i) (length ids * 32) && eqb (length counts) (length ids) ≡ true = and_left _ _ e in
      record {
        z_i_each = eqb-true _ _ (and_left _ _ l);
        counts_each = eqb-true _ _ (and_right (eqb (length z_i) (length ids * 32)) _ l);
        counts_sum = eqb-true _ _ (and_right (eqb (length z_i) (length ids * 32) && eqb (length counts) (length ids)) _ e);
      }

  pub agreeing : Agree ids z_i counts key_ids → lists_agree ids z_i counts key_ids ≡ true
  unfolding lists_agree
  agreeing a =
      let scalars = eq-eqb (length z_i) (length ids * 32) a.z_i_each in
      and_both _ _ (and_both _ _ scalars (eq-eqb (length counts) (length ids) a.counts_each))
      (eq-eqb (total counts) (length key_ids) a.counts_sum)

-- lists that agree, after their first share
pub agree_next :
    (id n : ℕ) (ids z_i counts key_ids : List ℕ) → Agree (id ∷ ids) z_i (n ∷ counts) key_ids
    → Agree ids (drop 32 z_i) counts (drop n key_ids) × (32 ≤ length z_i) × (n ≤ length key_ids)
unfolding total
agree_next id n ids z_i counts key_ids a = (
  record {
    z_i_each = rw length-drop (omega (arith, a.z_i_each, suc-mul (length ids) 32));
    counts_each = omega (arith, a.counts_each);
    counts_sum = rw length-drop (omega (arith, a.counts_sum));
  },
  omega (arith, a.z_i_each, suc-mul (length ids) 32),
  omega (arith, a.counts_sum),
)

-- an empty list, by its length
none : (xs : List ℕ) → length xs ≡ 0 → [] ≡ xs
none [] e = refl
none (x ∷ xs) e = let z : ⊥ = omega arith in absurd z

-- where the lists agree, the shares cut from them have each of the four lists
pub shares_read :
    (ids z_i counts key_ids : List ℕ) → Agree ids z_i counts key_ids
    → SharesRead ids z_i counts key_ids (shares_given ids z_i counts key_ids)
unfolding shares_given total
shares_read [] z_i [] key_ids a =
    record {
      ids_read = refl;
      z_i_read = none z_i (omega (arith, a.z_i_each));
      counts_read = refl;
      key_ids_read = none key_ids (sym a.counts_sum);
    }
shares_read [] z_i (n ∷ counts) key_ids a = let z : ⊥ = omega (arith, a.counts_each) in absurd z
shares_read (id ∷ ids) z_i [] key_ids a = let z : ⊥ = omega (arith, a.counts_each) in absurd z
shares_read (id ∷ ids) z_i (n ∷ counts) key_ids a =
    let next = agree_next id n ids z_i counts key_ids a in
    let more = shares_read ids (drop 32 z_i) counts (drop n key_ids) next.0 in
    record {
      ids_read = rw more.ids_read;
      z_i_read = rw more.z_i_read (take-append-drop 32 z_i);
      counts_read = rw (more.counts_read, length-take-le n key_ids next.2);
      key_ids_read = rw more.key_ids_read (take-append-drop n key_ids);
    }

-- what holds of a list holds of its parts
module _ {A : Type 0} (P : A → Type 0) where
  all_take : (n : ℕ) (xs : List A) → All P xs → All P (take n xs)
  all_take zero xs a = tt
  all_take (suc n) [] a = tt
  all_take (suc n) (x ∷ xs) a = (a.0, all_take n xs a.1)

  all_drop : (n : ℕ) (xs : List A) → All P xs → All P (drop n xs)
  all_drop zero xs a = a
  all_drop (suc n) [] a = tt
  all_drop (suc n) (x ∷ xs) a = all_drop n xs a.1

-- and they fit, where the lists do
pub shares_fit :
    (ids z_i counts key_ids : List ℕ) → Agree ids z_i counts key_ids → IdsListed ids → Bytes z_i → IdsListed key_ids
    → All ShareFits (shares_given ids z_i counts key_ids)
unfolding shares_given
shares_fit [] z_i counts key_ids a i b k = tt
shares_fit (id ∷ ids) z_i [] key_ids a i b k = tt
shares_fit (id ∷ ids) z_i (n ∷ counts) key_ids a i b k =
    let next = agree_next id n ids z_i counts key_ids a in (
      record {
        id = i.0;
        z_i = record { bytes = bytes_take 32 z_i b; size = length-take-le 32 z_i next.1 };
        key_ids = all_take _ n key_ids k;
      },
      shares_fit ids (drop 32 z_i) counts (drop n key_ids) next.0 i.1 (bytes_drop 32 z_i b) (all_drop _ n key_ids k),
    )

-- as many key ids as the counts say
pub keys-counted : (ss : List SignatureShare) → length (key_ids_of ss) ≡ key_count ss
unfolding key_count
keys-counted [] = refl
keys-counted (x ∷ ss) = rw (length-append, keys-counted ss)

-- as many shares and key ids as were given
pub counted :
    (ids z_i counts key_ids : List ℕ) → Agree ids z_i counts key_ids
    → let ss = shares_given ids z_i counts key_ids in (length ss ≡ length ids) × (key_count ss ≡ length key_ids)
counted ids z_i counts key_ids a =
    let ss = shares_given ids z_i counts key_ids in
    let lists = shares_read ids z_i counts key_ids a in (
      sym (length-map ss (λ (x : SignatureShare). x.id)) ∙ ap length lists.ids_read,
      sym (keys-counted ss) ∙ ap length lists.key_ids_read,
    )

counts-counted : (ss : List SignatureShare) → total (counts_of ss) ≡ key_count ss
unfolding key_count total
counts-counted [] = refl
counts-counted (x ∷ ss) = rw (counts-counted ss)

-- the other way: the four lists of shares that fit agree, and are cut into the shares
pub agree_of : (ss : List SignatureShare) → All ShareFits ss → Agree (ids_of ss) (z_is_of ss) (counts_of ss) (key_ids_of ss)
agree_of ss f =
    let z : SignatureShare → List ℕ = λ x. x.z_i in
    let sized = all_map (λ (p : List ℕ). length p ≡ 32) z ss (all_imp ss (λ x h. h.z_i.size) f) in
    record {
      z_i_each = rw (length-joined 32 (map z ss) sized, length-map ss z, length-map ss (λ (x : SignatureShare). x.id));
      counts_each = rw (length-map, length-map);
      counts_sum = counts-counted ss ∙ sym (keys-counted ss);
    }

pub shares_given_law : (ss : List SignatureShare) → All ShareFits ss → shares_given (ids_of ss) (z_is_of ss) (counts_of ss) (key_ids_of ss) ≡ ss
unfolding shares_given
shares_given_law [] f = refl
shares_given_law (x ∷ ss) f =
    let zs = z_is_of ss in
    let ks = key_ids_of ss in
    rw (
      take_at x.z_i zs 32 f.0.z_i.size,
      drop_at x.z_i zs 32 f.0.z_i.size,
      take_at x.key_ids ks (length x.key_ids) refl,
      drop_at x.key_ids ks (length x.key_ids) refl,
      shares_given_law ss f.1,
    )
