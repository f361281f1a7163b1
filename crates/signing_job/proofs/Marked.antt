-- The definition's mark is a test of each slot, and of the signers' lists.
-- Assumes nothing.
use Prim.Native.Nat.{ℕ}
use mathlib.Core.Path.{◌≡◌}
use mathlib.Core.Bool.{◌&&◌}
use mathlib.Core.List.{List}
use lib.ListN.{get_or}
use Rattle.wire.specs.Bytes.{every}
use Rattle.step_definition.specs.Ids.{distinct}
use Rattle.step_definition.specs.Effects.{joined_keys, whole}
use Rattle.state.specs.declared.fields.Coordinator.{Coordinator}
use Rattle.state.specs.declared.fields.SignRoundInfo.{SignRoundInfo}
use Rattle.state.specs.View.{slots_of, no_row}
use Rattle.signing_job.specs.SigningJob.{responses, shares_are_held, job_mark}
use Rattle.signing_job.proofs.Found.{shared_walked}

pub mark-walked :
    (s : Coordinator) (store : List ℕ) (r : ℕ)
    → let row : SignRoundInfo = get_or s.records.rows r no_row in
    job_mark s store r
    ≡ every (shares_are_held row.slots s.shares.slots) (slots_of s.config)
    && distinct (joined_keys (responses (slots_of s.config) store r row))
unfolding whole
mark-walked s store r = rw (shared_walked store s.shares s.config r (get_or s.records.rows r no_row))
