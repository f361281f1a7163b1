-- Bytes, little-endian numbers, and a buffer that is written in part.
use Rattle.std.specs.Prelude.{ℕ, zero, suc, ◌+◌, ◌*◌, ◌/◌, ◌%◌, ◌<◌, List, [], ◌∷◌, Bool, nat_eq, get_or, set, take, drop}
use Rattle.std.specs.List.{concat, list_all}
use Rattle.std.specs.Cmp.Lexicographic.{pointwise}

-- every element is a byte (what a slice of bytes holds; past the end get_or gives 0)
abbrev pub Bytes : List ℕ → Type 0
Bytes s = (i : ℕ) → get_or s i 0 < 256

-- x in n bytes, little-endian: the lowest byte first
unfoldable pub le : ℕ → ℕ → List ℕ
le zero x = []
le (suc n) x = (x % 256) ∷ le n (x / 256)

-- the number that little-endian bytes stand for
unfoldable pub number : List ℕ → ℕ
number [] = 0
number (b ∷ bs) = b + 256 * number bs

-- the number in the n bytes of s from at on; a byte past the end counts 0
abbrev pub number_at : ℕ → ℕ → List ℕ → ℕ
number_at n at s = number (take n (drop at s))

-- the buffer l with bs in the place of its bytes from at on; what would lie past the end is dropped
unfoldable pub put : List ℕ → ℕ → List ℕ → List ℕ
put l at [] = l
put l at (b ∷ bs) = put (set l at b) (suc at) bs

-- lists one after the other
abbrev pub joined : List (List ℕ) → List ℕ
joined ps = concat ps

-- the test f passes at every element
abbrev pub every : {A : Type 0} → (A → Bool) → List A → Bool
every f xs = list_all f xs

-- P holds of every element
abbrev pub All : {A : Type 0} → (A → Type 0) → List A → Type 0
All P [] = Unit {0}
All P (x ∷ xs) = P x × All P xs

-- the same bytes, one by one
abbrev pub are_same_bytes : List ℕ → List ℕ → Bool
are_same_bytes xs ys = pointwise nat_eq xs ys
