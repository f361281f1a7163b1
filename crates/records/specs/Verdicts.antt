-- What is to be done with a nonce response.
use Rattle.std.specs.Prelude.{ℕ, ◌≤◌, Bool, false, cond, List, eqb, ltb, length, get_or}
use Rattle.layout.specs.Limits.{signer_limit, record_limit}
use Rattle.layout.specs.declared.Ids.{Ids}
use Rattle.layout.specs.Decode.{ids_in, nonces_in}
use Rattle.step_definition.specs.Lists.{given}
use Rattle.step_definition.specs.NonceGather.{NonceVerdict, wrong_id, ignored, no_room, records}
use Rattle.state.specs.declared.fields.Records.{Records}
use Rattle.state.specs.declared.fields.Coordinator.{Coordinator}
use Rattle.state.specs.View.{key_bytes, no_row, no_slot}
use Rattle.records.specs.declared.verdicts.Verdict.{Verdict}
use Rattle.records.specs.declared.verdicts.Verdict.TheVariants.{Wrong, Full, Nothing, Record}
use Rattle.records.specs.Records.{record_place}
use Rattle.records.specs.Admits.{slot_of, admitted_at}

-- whether the signer in slot i has a response on record r
unfoldable pub held_at : Records → ℕ → ℕ → Bool
held_at rs r i = cond (ltb r rs.count) (get_or (get_or rs.rows r no_row).slots i no_slot).held false

unfoldable pub verdict_on : Records → ℕ → ℕ → Verdict
verdict_on rs r i = cond (ltb r record_limit) (cond (held_at rs r i) Nothing (Record r i)) Full

unfoldable pub verdict_at : Coordinator → List ℕ → List ℕ → List ℕ → List ℕ → ℕ → Verdict
verdict_at s store m keys nonces i =
    cond (admitted_at s i (ids_in keys) (nonces_in nonces)) (verdict_on s.records (record_place m s.records store) i) Nothing

unfoldable pub verdict_of : Coordinator → Ids → ℕ → List ℕ → List ℕ → List ℕ → List ℕ → Verdict
verdict_of s got id store m keys nonces =
    cond (eqb got.dkg_id s.ids.dkg_id)
    (cond (eqb got.sign_id s.ids.sign_id)
    (cond (eqb got.sign_iter_id s.ids.sign_iter_id)
    (given (slot_of id s.config) (verdict_at s store m keys nonces) Nothing)
    (Wrong 18 got.sign_iter_id s.ids.sign_iter_id))
    (Wrong 17 got.sign_id s.ids.sign_id))
    (Wrong 16 got.dkg_id s.ids.dkg_id)

-- a verdict, in the step's words
unfoldable pub meaning : Verdict → NonceVerdict
meaning (Wrong n got expected) = wrong_id n got expected
meaning Full = no_room
meaning Nothing = ignored
meaning (Record r i) = records

-- the counts that question 4 lets through, and 9
pub record VerdictReady (s : Coordinator) (keys : List ℕ) : Type 0 where
  pub signers : s.config.count ≤ signer_limit
  pub records : s.records.count ≤ record_limit
  pub keys_few : length keys ≤ key_bytes
