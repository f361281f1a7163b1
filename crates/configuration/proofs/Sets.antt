-- The keys of one signer, in an array of their numbers, and 2 of one set.
-- Assumes nothing.
use Prim.Native.Nat.{ℕ, ◌≤◌}
use mathlib.Core.Path.{◌≡◌, refl}
use mathlib.Core.Bool.{Bool, true, false}
use mathlib.Core.List.{List, [], map}
use borrow.Author.Tests.{leb-true}
use lib.Dec.{leb}
use lib.ListN.{length, take, length-take}
use Rattle.std.proofs.lemmas.List.{take_min, take-map}
use Rattle.wire.proofs.Lists.{and_left}
use Rattle.layout.specs.Limits.{list_limit}
use Rattle.validity.specs.Keys.{key_number}
use Rattle.step_definition.specs.Ids.{distinct}
use Rattle.step_definition.specs.Configuration as D
use Rattle.state.specs.Slots.{when}
use Rattle.configuration.specs.declared.new_config.NewSigner.{NewSigner}
use Rattle.configuration.specs.NewConfig.{numbers_in, keys_given, is_set_within}

-- as many as there are in the first n places
pub take_taken : {A : Type 0} (n : ℕ) (xs : List A) → take (length (take n xs)) xs ≡ take n xs
take_taken n xs = rw length-take (take_min n xs)

pub map_taken : {A B : Type 0} (f : A → B) (n : ℕ) (xs : List A) → take (length (take n xs)) (map f xs) ≡ map f (take n xs)
map_taken f n xs = rw (take-map f, take_taken)

-- the first places, as many as there are keys
pub keys_first : (s : NewSigner) → take (length (keys_given s)) (map key_number s.keys.ids) ≡ keys_given s
unfolding keys_given numbers_in
keys_first s = by s.has_keys
  where
    by : (b : Bool) → take (length (D.keys_in (when b (numbers_in s.keys)))) (map key_number s.keys.ids) ≡ D.keys_in (when b (numbers_in s.keys))
    by true = take_taken s.keys.count (map key_number s.keys.ids)
    by false = refl

-- a set within the limits has few keys
pub keys_few : (s : NewSigner) → is_set_within s ≡ true → length (keys_given s) ≤ list_limit
unfolding is_set_within
keys_few s w = leb-true (length (keys_given s)) list_limit (and_left (leb (length (keys_given s)) list_limit) (distinct (keys_given s)) w)

-- a signer with this id: what stands past an array's end is one, and nothing reads it
abbrev pub signer_of : ℕ → NewSigner
signer_of n = record { id = record { 0 = n }; has_keys = false; keys = record { ids = []; count = 0 } }
