-- The job written is the step's, of the coordinator that struct and store stand for.
-- Assumes nothing.
use Rattle.std.specs.Prelude.{Some}
use Prim.Native.Nat.{ℕ}
use mathlib.Core.Path.{◌≡◌, refl}
use mathlib.Core.List.{List}
use lib.ListN.{take, get_or}
use Rattle.layout.specs.declared.SignatureType.{SignatureType}
use Rattle.layout.specs.Messages.{NonceResponse}
use Rattle.state_table.specs.States.{type_in}
use Rattle.step_definition.specs.Effects.{root_for, job_of}
use Rattle.state.specs.declared.fields.Coordinator.{Coordinator}
use Rattle.state.specs.View.{slots_of, no_row, root_bytes, position_of, round_of, coordinator_of}
use Rattle.signing_job.specs.SigningJob.{responses, shares_held, job_for}

module _ (s : Coordinator) (store : List ℕ) (r : ℕ) where
  abbrev qs : List NonceResponse
  qs = responses (slots_of s.config) store r (get_or s.records.rows r no_row)

  -- the shares held are the view's, in the job and in its mark
  pub shares_viewed : shares_held (slots_of s.config) store s.shares ≡ (coordinator_of s store).round.signature_shares
  unfolding coordinator_of round_of
  shares_viewed = refl

  module _ (t : SignatureType) where
    -- of the type, whatever the state
    pub the_job_of : job_for s store r (take s.message.len s.message.bytes) t ≡ job_of t (root_for t s.position.root) qs (coordinator_of s store)
    unfolding coordinator_of round_of root_for
    the_job_of = refl

    -- of the type that the state carries
    pub job_viewed : type_in s.position.state ≡ Some t
        → job_for s store r (take s.message.len s.message.bytes) t ≡ job_of t (coordinator_of s store).position.root qs (coordinator_of s store)
    unfolding coordinator_of position_of root_bytes round_of
    job_viewed e = rw e
