-- "Share timeout strikes every waiter", and the keys that are left then.
use Rattle.std.specs.Prelude.{◌-◌, Bool, ◌||◌, List, [], ◌∷◌, ltb}
use Rattle.step_definition.specs.Configuration.{num_key_ids}
use Rattle.state.specs.declared.fields.Coordinator.{Coordinator}
use Rattle.state.specs.Setters.{set_marks}
use Rattle.state.specs.View.{config_of}
use Rattle.timeouts.specs.Named.{flagged_signers}

-- a flag is set where it is in one of the two
unfoldable pub joined_flags : List Bool → List Bool → List Bool
joined_flags [] ys = ys
joined_flags (x ∷ xs) [] = x ∷ xs
joined_flags (x ∷ xs) (y ∷ ys) = (x || y) ∷ joined_flags xs ys

-- those who are waited for malicious (01: struck), beside those that were
unfoldable pub excluded_in : List Bool → Coordinator → Coordinator
excluded_in waits s = set_marks (record { ended = s.marks.ended; malicious = joined_flags waits s.marks.malicious }) s

-- "num_keys − struck keys < `threshold`"
unfoldable pub too_few_keys : List Bool → Coordinator → Bool
too_few_keys flags s =
    ltb (s.config.num_keys - num_key_ids (config_of s.config) (flagged_signers s.config flags)) s.config.threshold
