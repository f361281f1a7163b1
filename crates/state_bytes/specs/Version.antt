-- What a saved state says of itself, in front of its fields.
use Rattle.std.specs.Prelude.{ℕ, List, [], ◌∷◌, length}

-- "ROUNDCAB"
abbrev pub mark : List ℕ
mark = 82 ∷ 79 ∷ 85 ∷ 78 ∷ 68 ∷ 67 ∷ 65 ∷ 66 ∷ []

-- The digest of every description that there has been, the newest first: that is the present one's (`described`, proofs). Another
-- description is refused until its digest stands in front of them, and then the version, which is how many there are, has gone up.
-- Version 2 has the clock reading of each recorded response; version 1 had none.
abbrev pub digests : List ℕ
digests = 205961693544826872 ∷ 2150585145698405247 ∷ []

abbrev pub version : ℕ
version = length digests
