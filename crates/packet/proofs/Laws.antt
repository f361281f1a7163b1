-- Laws of what the reader asks.
-- Assumes nothing.
use Prim.Native.Nat.{ℕ, zero, suc, ◌/◌, ◌+◌, ◌*◌, ◌-◌, ◌≤◌, ◌<◌}
use mathlib.Core.Path.{◌≡◌, refl, ap, ◌∙◌}
use mathlib.Core.Bool.{Bool, ◌&&◌}
use mathlib.Core.List.{List, [], ◌∷◌, map}
use native.Mathlib.Omega.{arith}
use lib.ListN.{length, length-take, length-drop}
use Rattle.wire.specs.Bytes.{every}
use Rattle.layout.specs.LaidOut.{part_at, parts_from}
use Rattle.layout.specs.Decode.{share_in, response_in, response_within}
use Rattle.layout.proofs.Entries.{length-ids_in, length-nonces_in}
use Rattle.std.specs.List.{list_all, range_with_len}
use Rattle.std.proofs.lemmas.List.Folds.{list_all-map}

-- the parts from part i on: part i and those after it
pub parts_step : (s : List ℕ) (i n : ℕ) → i < n → parts_from s (32 + 8 * i) (n - i) ≡ part_at s (32 + 8 * i) ∷ parts_from s (32 + 8 * (i + 1)) (n - (i + 1))
unfolding parts_from
parts_step s i n h =
    let e : n - i ≡ suc (n - (i + 1)) = omega arith in
    let p : 32 + 8 * i + 8 ≡ 32 + 8 * (i + 1) = omega arith in
    rw (e, p)

pub parts_end : (s : List ℕ) (p i n : ℕ) → n ≤ i → parts_from s p (n - i) ≡ []
unfolding parts_from
parts_end s p i n h = let e : n - i ≡ 0 = omega arith in rw e

-- no share has more key ids than bytes of the packet
pub share_keys-le : (s : List ℕ) (p : ℕ) → length (share_in (part_at s p)).key_ids ≤ length s
unfolding share_in part_at
share_keys-le s p = rw (length-ids_in, length-drop, length-take, length-drop) (omega arith)

-- a test of the n parts from part i on is one of the pairs' numbers
parts_every : (f : List ℕ → Bool) (s : List ℕ) (i n : ℕ)
    → every f (parts_from s (32 + 8 * i) n) ≡ list_all (λ k. f (part_at s (32 + 8 * k))) (range_with_len i n)
unfolding parts_from
parts_every f s i zero = refl
parts_every f s i (suc n) =
    let p : 32 + 8 * i + 8 ≡ 32 + 8 * (i + 1) = omega arith in
    rw p (ap (λ (b : Bool). f (part_at s (32 + 8 * i)) && b) (parts_every f s (i + 1) n))

pub every_nested : (f : List ℕ → Bool) (s : List ℕ) (n : ℕ)
    → every f (parts_from s 48 n) ≡ list_all (λ k. f (part_at s (32 + 8 * k))) (range_with_len 2 n)
every_nested f s n = parts_every f s 2 n

pub every_share : (f : List ℕ → Bool) (s : List ℕ) (n : ℕ)
    → every f (parts_from s 32 n) ≡ list_all (λ k. f (part_at s (32 + 8 * k))) (range_with_len 0 n)
every_share f s n = parts_every f s 0 n

-- the limits of the nested responses are those of their parts
pub nested_within : (s : List ℕ) (n : ℕ) → every response_within (map response_in (parts_from s 48 n))
    ≡ list_all (λ k. response_within (response_in (part_at s (32 + 8 * k)))) (range_with_len 2 n)
nested_within s n = list_all-map response_within response_in (parts_from s 48 n) ∙ every_nested (λ r. response_within (response_in r)) s n

pub ruleset tests = (every_nested, every_share)

pub ruleset counts = (length-ids_in, length-nonces_in)

pub share_keys_counted : (s : List ℕ) → length (share_in s).key_ids ≡ (length s - 36) / 4
unfolding share_in
share_keys_counted s = rw (length-ids_in, length-drop)
