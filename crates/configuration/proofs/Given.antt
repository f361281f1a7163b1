-- The lengths of the arrays, from what a struct's value is known to be.
-- Assumes nothing.
use mathlib.Core.Path.{◌≡◌}
use mathlib.Core.List.{List}
use lib.ListN.{length}
use mir.Val.{Val}
use denote.Laws.{Is}
use Rattle.configuration.specs.declared.new_config.NewConfig.{NewConfig}
use Rattle.configuration.specs.contracts.new_config.NewConfig as NewConfig-row

pub signers_11 : (x : NewConfig) (vs : List Val) → Is NewConfig-row.the_row x vs → length x.signers ≡ 11
signers_11 x vs g = g.1.1.1.1.1.1.1.1.0.1.0.1
