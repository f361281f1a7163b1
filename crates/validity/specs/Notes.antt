-- Which last bytes the ids of a list have: an id whose last byte is not noted is none of them, so they need not be looked through.
use Rattle.std.specs.Prelude.{ℕ, ◌%◌, ◌≡◌, Bool, true, false, List, get_or}
use Rattle.validity.specs.Keys.{member}

-- the last byte of each id of the list is noted
abbrev pub Noted : List Bool → List ℕ → Type 0
Noted seen xs = (x : ℕ) → member x xs ≡ true → get_or seen (x % 256) false ≡ true
