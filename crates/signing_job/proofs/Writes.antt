-- The writer takes the lists as the walk finds them, and what it writes is the view's job.
-- Assumes nothing.
use Prim.Native.Nat.{ℕ, ◌≤◌}
use mathlib.Core.Path.{◌≡◌}
use mathlib.Core.Bool.{true}
use mathlib.Core.List.{List}
use borrow.Author.Tests.{le-leb, le-ltb}
use lib.Dec.{leb}
use lib.ListN.{length, get_or}
use Rattle.wire.specs.Bytes.{every}
use Rattle.wire.proofs.Lists.{and_both}
use Rattle.layout.specs.Limits.{message_limit, signer_limit, answer_length}
use Rattle.layout.specs.declared.SignatureType.{SignatureType}
use Rattle.framing.specs.Writing.{written, writing}
use Rattle.body.specs.Body.{root_of}
use Rattle.job.specs.declared.JobPlaces.{JobPlaces}
use Rattle.job.specs.Job.{signers_in, job_holds, jobs_hold, job_of, write_job}
use Rattle.state.specs.declared.fields.Coordinator.{Coordinator}
use Rattle.state.specs.declared.fields.SignRoundInfo.{SignRoundInfo}
use Rattle.state.specs.Slots.{collect}
use Rattle.state.specs.View.{slots_of, no_row}
use Rattle.state.proofs.SignerSlots.{slots-live}
use Rattle.signing_job.specs.Places.{job_place_in}
use Rattle.signing_job.specs.SigningJob.{JobReady, job_bytes}
use Rattle.signing_job.proofs.Joined.{keys-joined, nonces-joined, shares-joined}
use Rattle.signing_job.proofs.Holding.{places_hold}

module _ (s : Coordinator) (store : List ℕ) (r : ℕ) (m : List ℕ) (t : SignatureType) (room : ℕ) (ok : JobReady s r (length store) (length m) room)
    (ps : JobPlaces) (few : ps.count ≤ signer_limit)
    (walked : signers_in ps ≡ collect (job_place_in r (get_or s.records.rows r no_row) s.shares) (slots_of s.config)) where
  abbrev row : SignRoundInfo
  row = get_or s.records.rows r no_row

  pub holds : jobs_hold (length store) ps ≡ true
  unfolding jobs_hold
  holds =
      and_both (leb ps.count signer_limit) (every (job_holds (length store)) (signers_in ps)) (le-leb ps.count signer_limit few)
      (rw walked
      (places_hold (length store) r s.config.count row s.shares (slots_of s.config) ok.stored ok.row ok.signers
      ok.within ok.shares (slots-live s.config)))

  pub writes :
      write_job room (record { ids = s.ids; signature_type = t; root = s.position.root }) m store ps ≡ written (job_bytes s store r m t)
  unfolding write_job writing job_of root_of
  writes =
      rw (
        le-ltb room answer_length ok.wide,
        le-leb (length m) message_limit ok.short,
        holds,
        walked,
        keys-joined r store row s.shares (slots_of s.config),
        nonces-joined r store row s.shares (slots_of s.config),
        shares-joined r store row s.shares s.config,
      )
