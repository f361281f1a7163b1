-- The length of a list's array.
-- Assumes nothing.
use mathlib.Core.Path.{◌≡◌}
use mathlib.Core.List.{List}
use lib.ListN.{length}
use mir.Val.{Val}
use denote.Laws.{Is}
use Rattle.id_lists.specs.declared.IdList.{IdList}
use Rattle.id_lists.specs.contracts.IdList as IdList-row

pub ids_160 : (l : IdList) (vs : List Val) → Is IdList-row.the_row l vs → length l.ids ≡ 160
ids_160 l vs g = g.1.1.0.1.0.1
