-- One place more among the job's.
-- Assumes nothing.
use Prim.Native.Nat.{ℕ, ◌+◌, ◌<◌}
use mathlib.Core.Path.{◌≡◌, sym}
use mathlib.Core.Bool.{true, false}
use mathlib.Core.List.{[], ◌++◌, append-nil}
use native.Mathlib.Numerals.{add-one}
use native.Mathlib.Omega.{arith}
use lib.ListN.{length, get_or, set}
use lib.Seq.{take-suc-set}
use Rattle.layout.specs.Limits.{signer_limit}
use Rattle.job.specs.declared.JobPlace.{JobPlace}
use Rattle.job.specs.declared.JobPlaces.{JobPlaces}
use Rattle.job.specs.Job.{signers_in}
use Rattle.state.specs.declared.fields.SignerSlot.{SignerSlot}
use Rattle.state.specs.declared.fields.ResponseSlot.{ResponseSlot}
use Rattle.state.specs.declared.fields.SignRoundInfo.{SignRoundInfo}
use Rattle.state.specs.declared.fields.ShareSlot.{ShareSlot}
use Rattle.state.specs.declared.fields.Shares.{Shares}
use Rattle.state.specs.Slots.{with_some}
use Rattle.state.specs.View.{keys_at, nonces_at, shares_at_place, share_keys_at, no_slot}
use Rattle.signing_job.specs.Places.{held_shares, place_at, job_place_of, job_place_in}

-- a place whose sums are those of the store's layout
pub place_built :
    (r i : ℕ) (response : ResponseSlot) (shares kept : ShareSlot) (at₁ at₂ at₃ at₄ : ℕ) → kept ≡ held_shares shares
    → at₁ ≡ keys_at r i → at₂ ≡ nonces_at r i → at₃ ≡ shares_at_place i → at₄ ≡ share_keys_at i
    → ◌≡◌ {A = JobPlace} (record {
      key_ids = record { at = at₁; count = response.key_ids };
      nonces = record { at = at₂; count = response.nonces };
      shares = record { at = at₃; count = kept.count };
      share_keys_at = at₄;
      share_key_counts = kept.key_counts;
    }) (place_at r i response shares)
unfolding place_at
place_built r i response shares kept at₁ at₂ at₃ at₄ k p q x y = rw (k, p, q, x, y)
