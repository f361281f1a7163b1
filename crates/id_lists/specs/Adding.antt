-- A list's keys put after those that are there, in an array of ids and beside notes of their last bytes.
use Rattle.std.specs.Prelude.{ℕ, ◌+◌, ◌≤◌, ◌≡◌, Bool, List, ◌++◌, length, take}
use Rattle.layout.specs.Limits.{list_limit}
use Rattle.validity.specs.declared.keys.KeyIds.{KeyIds}
use Rattle.validity.specs.Keys.{listed}
use Rattle.validity.specs.Notes.{Noted}

-- what is asked: a key list, room for it after the first `count` ids, and notes of these
pub record Adding (ids : List ℕ) (count : ℕ) (seen : List Bool) (list : KeyIds) : Type 0 where
  pub few : list.count ≤ list_limit
  pub room : count + list.count ≤ length ids
  pub notes : length seen ≡ 256
  pub noted : Noted seen (take count ids)

-- what is given where none of the keys was there
pub record Added (ids : List ℕ) (count : ℕ) (after : List ℕ) (seen : List Bool) (list : KeyIds) : Type 0 where
  pub room : length after ≡ length ids
  pub notes : length seen ≡ 256
  pub joined : take (count + list.count) after ≡ take count ids ++ listed list
  pub noted : Noted seen (take count ids ++ listed list)
