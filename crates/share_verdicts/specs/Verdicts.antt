-- What is to be done with a share response, at the level of struct and store.
use Rattle.std.specs.Prelude.{ℕ, ◌≡◌, Bool, true, false, cond, ◌&&◌, List, eqb, ltb, get_or}
use Rattle.layout.specs.declared.Header.{Header}
use Rattle.layout.specs.LaidOut.{header_in, parts_from}
use Rattle.layout.specs.Messages.{SignatureShareResponse}
use Rattle.validity.specs.Keys.{listed, same_set}
use Rattle.step_definition.specs.Lists.{given}
use Rattle.step_definition.specs.Effects.{share_key_ids}
use Rattle.step_definition.specs.SigShareGather.{ShareVerdict, unawaited, wrong_id, refused, unended, good}
use Rattle.state.specs.declared.fields.Records.{Records}
use Rattle.state.specs.declared.fields.ResponseSlot.{ResponseSlot}
use Rattle.state.specs.declared.fields.Coordinator.{Coordinator}
use Rattle.state.specs.Counts.{is_within_limits}
use Rattle.state.specs.View.{no_entry, no_row, no_slot}
use Rattle.records.specs.Admits.{slot_of}
use Rattle.timeouts.specs.NonceTimeout.{current_place}
use Rattle.shares.specs.Shares.{Shareable}
use Rattle.share_verdicts.specs.declared.Verdict.{Verdict}
use Rattle.share_verdicts.specs.declared.Verdict.TheVariants.{Unawaited, Wrong, Refused, Unended, Good}

-- the slot i of the record r, and whether its signer is waited for there
abbrev pub slot_at : Records → ℕ → ℕ → ResponseSlot
slot_at rs r i = get_or (get_or rs.rows r no_row).slots i no_slot

unfoldable pub awaited_at : Records → ℕ → ℕ → Bool
awaited_at rs r i = cond (ltb r rs.count) ((slot_at rs r i).held && (slot_at rs r i).waits) false

-- "Key generation ended, else nothing; key set entry (21)? Set equal (22)?", of the waiter in slot i and the key ids of all its shares
unfoldable pub shares_verdict : Coordinator → ℕ → ℕ → List ℕ → Verdict
shares_verdict s r i keys =
    cond (get_or s.marks.ended i false)
    (cond (get_or s.config.signers i no_entry).has_keys
    (cond (same_set keys (listed (get_or s.config.signers i no_entry).keys)) (Good r i) (Refused 22 r i))
    (Refused 21 r i))
    (Unended r i)

-- "waiting is tested before the ids, the iteration never": "dkg id (16), sign id (17) current?"
unfoldable pub waiter_verdict : Coordinator → SignatureShareResponse → ℕ → ℕ → Verdict
waiter_verdict s q r i =
    let got = q.ids in
    let current = s.ids in
    cond (awaited_at s.records r i)
    (cond (eqb got.dkg_id current.dkg_id)
    (cond (eqb got.sign_id current.sign_id)
    (shares_verdict s r i (share_key_ids q.signature_shares))
    (Wrong 17 got.sign_id current.sign_id))
    (Wrong 16 got.dkg_id current.dkg_id))
    Unawaited

-- the record is that of the current message. A waiter is a live signer, so that 20 is never answered no
unfoldable pub verdict_of : Coordinator → List ℕ → SignatureShareResponse → Verdict
verdict_of s store q = given (slot_of q.signer_id s.config) (waiter_verdict s q (current_place s store)) Unawaited

-- a verdict, in the step's words
unfoldable pub meaning : Verdict → ShareVerdict
meaning Unawaited = unawaited
meaning (Wrong n got expected) = wrong_id n got expected
meaning (Refused n r i) = refused n
meaning (Unended r i) = unended
meaning (Good r i) = good

-- what 4, 8 and 9 have found of struct and packet; h is the packet's header
pub record Asked (s : Coordinator) (p : List ℕ) (h : Header) : Type 0 where
  pub within : is_within_limits s ≡ true
  pub header : h ≡ header_in p
  pub shares : Shareable (parts_from p 32 h.pairs)
