-- A removed waiter's good shares, at the level of struct and store.
use Rattle.std.specs.Prelude.{Some, ℕ, ◌<◌, ◌≤◌, ◌≡◌, true, cond, List, [], ◌∷◌, length, take, get_or}
use Rattle.layout.specs.Limits.{store_length, answer_length}
use Rattle.layout.specs.declared.Header.{Header}
use Rattle.layout.specs.declared.SignatureType.{SignatureType}
use Rattle.layout.specs.LaidOut.{parts_from}
use Rattle.step_definition.specs.Calls as A
use Rattle.step_definition.specs.SigShareGather.{any_waits}
use Rattle.state.specs.declared.fields.Coordinator.{Coordinator}
use Rattle.state.specs.Counts.{is_within_limits}
use Rattle.state.specs.View.{slots_of, row_of, no_row, no_shares}
use Rattle.state.specs.Setters.{set_shares, set_job}
use Rattle.state.specs.Turns.{Turn, turn}
use Rattle.records.specs.Admits.{slot_of}
use Rattle.shares.specs.Shares.{Shareable, kept_store, kept_shares}
use Rattle.signing_job.specs.SigningJob.{job_for, job_bytes, job_mark}

-- what is known of a removed waiter whose shares are good; id is its signer's
pub record Taking (s : Coordinator) (store p : List ℕ) (h : Header) (r i room : ℕ) : Type 0 where
  pub within : is_within_limits s ≡ true
  pub stored : store_length ≤ length store
  pub wide : answer_length ≤ room
  pub shares : Shareable (parts_from p 32 h.pairs)
  pub found : slot_of h.signer_id s.config ≡ Some i
  pub known : r < s.records.count

-- what is known once the last waiter's shares are recorded
pub record SharesRecorded (s : Coordinator) (r store room : ℕ) : Type 0 where
  pub within : is_within_limits s ≡ true
  pub known : r < s.records.count
  pub stored : store_length ≤ store
  pub wide : answer_length ≤ room

-- "When the last waiter's shares are recorded, the job is written out", with "a mark, whole"; a job is out then. id: the last waiter's
unfoldable pub job_turn : SignatureType → ℕ → ℕ → Coordinator → List ℕ → Turn
job_turn t id r s store =
    let m = take s.message.len s.message.bytes in
    record {
      answer = A.handing (job_mark s store r) (job_bytes s store r m t);
      events = A.shares_taken id ∷ (A.job_written (job_for s store r m t) ∷ []);
      after = set_job true s;
      store = store;
    }

-- shares held already stay, and nothing comes of it; else they are recorded, and where nobody is waited for any more, the job is written
unfoldable pub take_turn : SignatureType → List ℕ → Header → ℕ → ℕ → Coordinator → List ℕ → Turn
take_turn t p h r i s store =
    let parts = parts_from p 32 h.pairs in
    let kept = set_shares (kept_shares i parts s.shares) s in
    let store' = kept_store i parts store in
    cond (get_or s.shares.slots i no_shares).held (turn A.plain s store)
    (cond (any_waits (row_of (slots_of s.config) store r (get_or s.records.rows r no_row)).sign_wait_signer_ids)
    (record { answer = A.plain; events = A.shares_taken h.signer_id ∷ []; after = kept; store = store' })
    (job_turn t h.signer_id r kept store'))
