-- Key generation's results: the dkg id is replaced, and the flags of the signers that ended are exactly those of the ids that are named.
use Rattle.std.specs.Prelude.{Option, Some, None, Err, Ok, ℕ, Bool, true, false, cond, List, [], ◌∷◌, leb, length, set, replicate}
use Rattle.wire.specs.Bytes.{every}
use Rattle.layout.specs.Limits.{signer_limit}
use Rattle.step_definition.specs.Calls as A
use Rattle.step_definition.specs.Lists.{is_some}
use Rattle.step_definition.specs.Phases.{phase_of, is_idle}
use Rattle.state.specs.declared.fields.Config.{Config}
use Rattle.state.specs.declared.fields.Marks.{Marks}
use Rattle.state.specs.declared.fields.Coordinator.{Coordinator}
use Rattle.state.specs.Setters.{set_ids, set_marks}
use Rattle.state.specs.Turns.{Turn, turn, asked, unless}
use Rattle.state.specs.Passed.{Passed}
use Rattle.records.specs.Admits.{slot_of}
use Rattle.calls.specs.Calls.{asking_no_job}

-- whether a signer with this id is configured
abbrev pub is_known : Config → ℕ → Bool
is_known g id = is_some (slot_of id g)

-- the flag of a slot set, where there is one
unfoldable pub flag_at : Option ℕ → List Bool → List Bool
flag_at None flags = flags
flag_at (Some i) flags = set flags i true

-- no flag but those of the ids' slots
unfoldable pub flags_of : Config → List ℕ → List Bool
flags_of g [] = replicate signer_limit false
flags_of g (id ∷ ids) = flag_at (slot_of id g) (flags_of g ids)

abbrev pub flagged : Option ℕ → Marks → Marks
flagged o m = record { ended = flag_at o m.ended; malicious = m.malicious }

abbrev pub ended_marks : Config → List ℕ → Marks → Marks
ended_marks g ended old = record { ended = flags_of g ended; malicious = old.malicious }

-- 24, then 25
unfoldable pub results_asked : List ℕ → Coordinator → Passed
results_asked ended s =
    cond (is_idle (phase_of s.position.state))
    (cond (leb (length ended) signer_limit) (cond (every (is_known s.config) ended) (Ok tt) (Err 25)) (Err 25))
    (Err 24)

unfoldable pub with_results : ℕ → List ℕ → Coordinator → Coordinator
with_results dkg ended s =
    set_marks (ended_marks s.config ended s.marks)
    (set_ids (record { dkg_id = dkg; sign_id = s.ids.sign_id; sign_iter_id = s.ids.sign_iter_id }) s)

unfoldable pub results_turn : ℕ → List ℕ → Coordinator → List ℕ → Turn
results_turn dkg ended s store =
    unless (asked asking_no_job (length store) 0 s) s store
    (unless (results_asked ended s) s store (turn A.plain (with_results dkg ended s) store))
