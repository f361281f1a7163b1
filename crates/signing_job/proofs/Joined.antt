-- The lists at the job's places are those that the step joins.
-- Assumes nothing.
use Prim.Native.Nat.{ℕ}
use mathlib.Core.Path.{◌≡◌, refl}
use mathlib.Core.Bool.{Bool, true, false, cond}
use mathlib.Core.List.{List, [], ◌∷◌}
use lib.ListN.{get_or, take, replicate}
use Rattle.wire.specs.Bytes.{All}
use Rattle.layout.specs.Limits.{list_limit}
use Rattle.layout.specs.Messages.{SignatureShare}
use Rattle.pieces.specs.Places.{response_at}
use Rattle.job.specs.Job.{key_counts, shares_from, keys_of, nonces_of}
use Rattle.job.specs.Job.{shares_at_place as shares_of_place, shares_of as shares_of_places}
use Rattle.step_definition.specs.Lists.{given}
use Rattle.step_definition.specs.Coordinator.{SignerShares}
use Rattle.step_definition.specs.Effects.{joined_keys, joined_nonces, joined_shares}
use Rattle.state.specs.declared.fields.Config.{Config}
use Rattle.state.specs.declared.fields.SignerSlot.{SignerSlot}
use Rattle.state.specs.declared.fields.SignRoundInfo.{SignRoundInfo}
use Rattle.state.specs.declared.fields.ShareSlot.{ShareSlot}
use Rattle.state.specs.declared.fields.Shares.{Shares}
use Rattle.state.specs.Slots.{collect, with_some, when}
use Rattle.state.specs.View.{shares_at_place, share_keys_at, shares_in, slots_of, row_of, place_of, no_slot, no_shares}
use Rattle.signing_job.specs.Places.{held_shares, place_at, job_place_of, job_place_in}
use Rattle.signing_job.specs.SigningJob.{responses, shares_held}
use Rattle.signing_job.proofs.Found.{Found, found}

abbrev the_shares : SignerShares → List SignatureShare
the_shares s = s.signature_shares

module _ (r : ℕ) (store : List ℕ) (row : SignRoundInfo) (ss : Shares) where
  pub keys-joined : (es : List SignerSlot) → keys_of store (collect (job_place_in r row ss) es) ≡ joined_keys (responses es store r row)
  unfolding row_of collect with_some keys_of joined_keys place_at response_at place_of
  keys-joined [] = refl
  keys-joined (e ∷ es) = by (get_or row.slots e.slot no_slot).held (keys-joined es)
    where
      by : (b : Bool) → keys_of store (collect (job_place_in r row ss) es) ≡ joined_keys (responses es store r row)
          → keys_of store (with_some (when b (job_place_of r row.slots ss.slots e)) (collect (job_place_in r row ss) es))
          ≡ joined_keys (with_some (when b (response_at store (place_of r row.message row.slots e))) (responses es store r row))
      by true h = rw h
      by false h = h

  pub nonces-joined : (es : List SignerSlot) → nonces_of store (collect (job_place_in r row ss) es) ≡ joined_nonces (responses es store r row)
  unfolding row_of collect with_some nonces_of joined_nonces place_at response_at place_of
  nonces-joined [] = refl
  nonces-joined (e ∷ es) = by (get_or row.slots e.slot no_slot).held (nonces-joined es)
    where
      by : (b : Bool) → nonces_of store (collect (job_place_in r row ss) es) ≡ joined_nonces (responses es store r row)
          → nonces_of store (with_some (when b (job_place_of r row.slots ss.slots e)) (collect (job_place_in r row ss) es))
          ≡ joined_nonces (with_some (when b (response_at store (place_of r row.message row.slots e))) (responses es store r row))
      by true h = rw h
      by false h = h

  -- the shares at a signer's place are those of its slot, none where they are not held
  slot_shares : (e : SignerSlot) → shares_of_place store (job_place_of r row.slots ss.slots e) ≡ given (shares_in store ss.slots e) the_shares []
  unfolding shares_of_place key_counts place_at held_shares shares_from
  slot_shares e = by (get_or ss.slots e.slot no_shares).held (get_or ss.slots e.slot no_shares)
    where
      by : (b : Bool) (s : ShareSlot) → let kept = cond b s (record { held = false; count = 0; key_counts = replicate list_limit 0 }) in
          shares_from store (shares_at_place e.slot) (share_keys_at e.slot) (take kept.count kept.key_counts)
          ≡ given (when b (record { signer_id = e.id; signature_shares = shares_from store (shares_at_place e.slot) (share_keys_at e.slot) (take s.count s.key_counts) })) the_shares []
      by true s = refl
      by false s = refl

  module _ (held : List SignerShares) where
    the_shares_in : (es : List SignerSlot) → All (Found store ss held) es
        → shares_of_places store (collect (job_place_in r row ss) es) ≡ joined_shares (responses es store r row) held
    unfolding row_of collect with_some shares_of_places joined_shares response_at place_of
    the_shares_in [] a = refl
    the_shares_in (e ∷ es) a = by (get_or row.slots e.slot no_slot).held (the_shares_in es a.1)
      where
        by : (b : Bool) → shares_of_places store (collect (job_place_in r row ss) es) ≡ joined_shares (responses es store r row) held
            → shares_of_places store (with_some (when b (job_place_of r row.slots ss.slots e)) (collect (job_place_in r row ss) es))
            ≡ joined_shares (with_some (when b (response_at store (place_of r row.message row.slots e))) (responses es store r row)) held
        by true h = rw (a.0, slot_shares e, h)
        by false h = h

  pub shares-joined : (g : Config) → shares_of_places store (collect (job_place_in r row ss) (slots_of g)) ≡ joined_shares (responses (slots_of g) store r row) (shares_held (slots_of g) store ss)
  shares-joined g = the_shares_in (shares_held (slots_of g) store ss) (slots_of g) (found store ss g)
