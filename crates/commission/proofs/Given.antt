-- The length that `commission-refines` asks for is that of the struct's type.
-- Assumes nothing.
use mathlib.Core.Path.{◌≡◌}
use mathlib.Core.List.{List}
use lib.ListN.{length}
use mir.Val.{Val}
use denote.Laws.{Is}
use Rattle.configuration.specs.declared.new_config.NewConfig.{NewConfig}
use Rattle.configuration.specs.contracts.new_config.NewConfig as NewConfig-row
use Rattle.configuration.proofs.Given.{signers_11}

pub all_sized : (g : NewConfig) (vs : List Val) → Is NewConfig-row.the_row g vs → length g.signers ≡ 11
all_sized g vs h = signers_11 g vs h
