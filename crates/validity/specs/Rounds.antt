-- Rounds for the comparison: a list, a set, and the answer.
use Rattle.std.specs.Prelude.{ℕ, Bool, true, false, List, [], ◌∷◌}
use Rattle.validity.specs.declared.keys.KeyComparison.{KeyComparison}
use Rattle.validity.specs.Keys.{comparison}

pub record Round : Type 0 where
  pub list : List ℕ
  pub set : List ℕ
  pub told : KeyComparison

abbrev pub round : List ℕ → List ℕ → Bool → ℕ → Round
round list set same repeats = record { list = list; set = set; told = record { same = same; repeats = repeats } }

abbrev pub comparing : Round → Round
comparing r = record { list = r.list; set = r.set; told = comparison r.list r.set }

unfoldable pub rounds : List Round
rounds =
    -- "3, 2, 3 gives 1, the empty list 0"
    round (3 ∷ 2 ∷ 3 ∷ []) (2 ∷ 3 ∷ []) true 1
    ∷ round [] (1 ∷ []) false 0
    ∷ round [] [] true 0
    -- each entry but the first of a key counts, wherever it stands
    ∷ round (3 ∷ 3 ∷ 3 ∷ []) (3 ∷ []) true 2
    ∷ round (1 ∷ 2 ∷ 2 ∷ 1 ∷ []) (1 ∷ 2 ∷ []) true 2
    ∷ round (2 ∷ 3 ∷ []) (2 ∷ 3 ∷ []) true 0
    ∷ round (3 ∷ 2 ∷ []) (2 ∷ 3 ∷ []) true 0
    -- "A set that differs still gives its count."
    ∷ round (3 ∷ 3 ∷ 3 ∷ []) (1 ∷ []) false 2
    ∷ round (5 ∷ 5 ∷ []) (1 ∷ []) false 1
    ∷ round (2 ∷ 2 ∷ []) (2 ∷ 3 ∷ []) false 1
    ∷ round (2 ∷ []) (2 ∷ 3 ∷ []) false 0
    -- the set's own repeats are not counted
    ∷ round (3 ∷ []) (3 ∷ 3 ∷ []) true 0
    ∷ []
