-- `is_left`: each part's test.
-- Assumes nothing.
use mathlib.Core.Path.{refl, ◌∙◌}
use Rattle.state_bytes.specs.Description.{description}
use Rattle.saved_test.proofs.Testing.{twelve, and_same}
use Rattle.saved_test.proofs.states.is_left.Goals as goal

pub returns : goal.returns
unfolding description
returns c =
    twelve c.stands.result c.is_version.result c.is_flag.result c.is_config.result c.is_position.result c.are_records.result
    c.are_left.result c.are_marks.result c.are_clocks.result c.are_keys.result c.is_flag-2.result c.stands-2.result
    ∙ and_same c.stands.ensures
    (and_same c.is_version.ensures
    (and_same c.is_flag.ensures
    (and_same c.is_config.ensures
    (and_same c.is_position.ensures
    (and_same c.are_records.ensures
    (and_same c.are_left.ensures
    (and_same c.are_marks.ensures
    (and_same c.are_clocks.ensures
    (and_same c.are_keys.ensures
    (and_same c.is_flag-2.ensures
    (and_same c.stands-2.ensures refl)))))))))))
