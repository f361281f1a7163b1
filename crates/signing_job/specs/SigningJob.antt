-- The job of a record in the view's lists, the mark beside it, and what is asked of struct and buffers before it is written.
use Rattle.std.specs.Prelude.{ℕ, ◌<◌, ◌≤◌, ◌≡◌, Bool, true, cond, List, get_or, take}
use Rattle.wire.specs.Bytes.{every}
use Rattle.layout.specs.Limits.{message_limit, signer_limit, record_limit, store_length, answer_length}
use Rattle.layout.specs.declared.SignatureType.{SignatureType}
use Rattle.layout.specs.Types.{type_number, root_length}
use Rattle.layout.specs.Messages.{NonceResponse, Job}
use Rattle.layout.specs.Encode.{encode_job}
use Rattle.step_definition.specs.Coordinator.{SignerShares}
use Rattle.step_definition.specs.Effects.{joined_keys, joined_nonces, joined_shares, whole}
use Rattle.state.specs.declared.fields.Coordinator.{Coordinator}
use Rattle.state.specs.declared.fields.SignerSlot.{SignerSlot}
use Rattle.state.specs.declared.fields.ResponseSlot.{ResponseSlot}
use Rattle.state.specs.declared.fields.SignRoundInfo.{SignRoundInfo}
use Rattle.state.specs.declared.fields.ShareSlot.{ShareSlot}
use Rattle.state.specs.declared.fields.Shares.{Shares}
use Rattle.state.specs.Counts.{row_within_limits, shares_within}
use Rattle.state.specs.Slots.{collect}
use Rattle.state.specs.View.{row_of, shares_in, slots_of, no_row, no_slot, no_shares}

-- a record's responses and the shares held, ascending by signer
abbrev pub responses : List SignerSlot → List ℕ → ℕ → SignRoundInfo → List NonceResponse
responses es store r row = (row_of es store r row).public_nonces

abbrev pub shares_held : List SignerSlot → List ℕ → Shares → List SignerShares
shares_held es store ss = collect (shares_in store ss.slots) es

-- the message, the type with its root, and the lists of the responders of the record r, joined; shares where they are held
abbrev pub job_for : Coordinator → List ℕ → ℕ → List ℕ → SignatureType → Job
job_for s store r m t =
    let es = slots_of s.config in
    let qs = responses es store r (get_or s.records.rows r no_row) in
    record {
      ids = s.ids;
      message = m;
      signature_type = t;
      root = take (root_length (type_number t)) s.position.root;
      key_ids = joined_keys qs;
      nonces = joined_nonces qs;
      signature_shares = joined_shares qs (shares_held es store s.shares);
    }

abbrev pub job_bytes : Coordinator → List ℕ → ℕ → List ℕ → SignatureType → List ℕ
job_bytes s store r m t = encode_job (job_for s store r m t)

-- the mark beside it
abbrev pub job_mark : Coordinator → List ℕ → ℕ → Bool
job_mark s store r =
    let es = slots_of s.config in
    whole (responses es store r (get_or s.records.rows r no_row)) (shares_held es store s.shares)

-- "every responder's shares are held", of one signer
unfoldable pub shares_are_held : List ResponseSlot → List ShareSlot → SignerSlot → Bool
shares_are_held slots ss e = cond (get_or slots e.slot no_slot).held (get_or ss e.slot no_shares).held true

-- what question 4 and the questions after it have found: counts within the limits, a record that is there, buffers that are long enough
pub record JobReady (s : Coordinator) (r store message room : ℕ) : Type 0 where
  pub signers : s.config.count ≤ signer_limit
  pub row : r < record_limit
  pub within : row_within_limits s.config.count (get_or s.records.rows r no_row) ≡ true
  pub shares : every shares_within (take s.config.count s.shares.slots) ≡ true
  pub stored : store_length ≤ store
  pub short : message ≤ message_limit
  pub wide : answer_length ≤ room
