-- `has_repeat`: the count is not 0.
-- Assumes nothing.
use mathlib.Core.Path.{ap, ◌∙◌}
use mathlib.Core.Bool.{not}
use lib.Dec.{eqb}
use Rattle.validity.specs.declared.keys.KeyComparison.{KeyComparison}
use Rattle.validity.specs.Keys.{listed}
use Rattle.step_definition.proofs.Repeats.{no_repeats_law}
use mathlib.Core.Path.{sym}
use borrow.Author.Rules.{rules}
use native.Mathlib.Omega.{arith}
use Rattle.std.proofs.lemmas.Grind.{common_steps}
use Rattle.signing_job.proofs.keys.has_repeat.Goals as goal

pub returns : goal.returns
returns c =
    ap (λ (k : KeyComparison). not (eqb k.repeats 0)) c.compare-found.ensures
    ∙ ap not (no_repeats_law (listed c.args.list))
