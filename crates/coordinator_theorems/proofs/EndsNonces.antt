-- How a nonce response ends.
-- Assumes nothing.
use Prim.Native.Nat.{ℕ}
use mathlib.Core.Path.{◌≡◌, refl}
use mathlib.Core.Bool.{false}
use mathlib.Core.List.{List}
use Rattle.std.specs.Prelude.{Some}
use lib.Dec.{eqb, leb, ltb}
use Rattle.layout.specs.declared.Ids.{Ids}
use Rattle.layout.specs.declared.SignatureType.{SignatureType}
use Rattle.layout.specs.Limits.{record_limit}
use Rattle.layout.specs.LaidOut.{header_in, part_at}
use Rattle.layout.specs.Decode.{ids_in, nonces_in}
use Rattle.step_definition.specs.Phases.{gathering_nonces, phase_of}
use Rattle.step_definition.proofs.Cases.{cond_both, given_case}
use Rattle.state.specs.declared.fields.Coordinator.{Coordinator}
use Rattle.records.specs.Admits.{slot_of, admitted_at}
use Rattle.records.specs.declared.verdicts.Verdict.{Verdict}
use Rattle.records.specs.declared.verdicts.Verdict.TheVariants.{Wrong, Full, Nothing, Record}
use Rattle.records.specs.Records.{record_place}
use Rattle.records.specs.Verdicts.{held_at, verdict_on, verdict_at, verdict_of}
use Rattle.share_request.specs.Asking.{share_request_turn}
use Rattle.nonce_gather.specs.NonceGather.{received_keys, record_turn, recorded_turn, verdict_turn, gather_turn}
use Rattle.packet_entry.specs.declared.Entry.{Entry}
use Rattle.coordinator_theorems.specs.Host.{receive}
use Rattle.coordinator_theorems.specs.Refusals.{changing, gathering, otherwise}
use Rattle.coordinator_theorems.proofs.Ends.{Ended, took, refused, as_before, recorded, shares_asked, with_record, record_stored, ends_cond}

-- what a verdict says: a number that changes nothing, or the places of message and signer
module _ (id : ℕ) (m keys nonces : List ℕ) (s : Coordinator) (store : List ℕ) where
  abbrev Says : Verdict → Type 0
  Says (Wrong n got expected) = changing n ≡ false
  Says Full = Unit {0}
  Says Nothing = Unit {0}
  Says (Record r i) = (r ≡ record_place m s.records store) × (slot_of id s.config ≡ Some i)

  at_says : (i : ℕ) → slot_of id s.config ≡ Some i → Says (verdict_at s store m keys nonces i)
  unfolding verdict_at verdict_on
  at_says i e =
      let r = record_place m s.records store in
      cond_both Says (admitted_at s i (ids_in keys) (nonces_in nonces))
      (cond_both Says (ltb r record_limit) (cond_both Says (held_at s.records r i) tt (refl, e)) tt)
      tt

  verdict_says : (got : Ids) → Says (verdict_of s got id store m keys nonces)
  unfolding verdict_of
  verdict_says got =
      cond_both Says (eqb got.dkg_id s.ids.dkg_id)
      (cond_both Says (eqb got.sign_id s.ids.sign_id)
      (cond_both Says (eqb got.sign_iter_id s.ids.sign_iter_id) (given_case Says (slot_of id s.config) at_says (λ e. tt)) refl)
      refl)
      refl

module _ (clock : ℕ) (t : SignatureType) (entry : Entry) (p : List ℕ) (s : Coordinator) (store : List ℕ)
    (here : phase_of s.position.state ≡ gathering_nonces t) (two : (header_in p).kind ≡ 2) where
  abbrev id : ℕ
  id = (header_in p).signer_id

  abbrev m : List ℕ
  m = part_at p 32

  -- the response is recorded, then its message's keys are too few, or no group key is held (10), or the shares are asked for
  recorded-ends :
      (r i : ℕ) → r ≡ record_place m s.records store → slot_of id s.config ≡ Some i
      → Ended clock (receive entry p) s store (recorded_turn clock t r i (header_in p).ids id m (part_at p 40) (part_at p 48) s store)
  unfolding recorded_turn record_turn share_request_turn
  recorded-ends r i place slot =
      let s' = with_record clock p r i s in
      let store' = record_stored p r i s store in
      ends_cond (leb s.config.sign_threshold (received_keys m s' store'))
      (λ e. ends_cond s.keys.aggregate (λ f. took refl (shares_asked clock t r i))
      (λ f. refused (gathering entry p t r i here two place slot)))
      (λ e. took refl (recorded clock r i))

  verdict-ends :
      (v : Verdict) → Says id m (part_at p 40) (part_at p 48) s store v
      → Ended clock (receive entry p) s store (verdict_turn clock t (header_in p).ids id m (part_at p 40) (part_at p 48) s store v)
  unfolding verdict_turn
  verdict-ends (Wrong n got expected) says = refused (otherwise (receive entry p) n refl says)
  verdict-ends Full says = refused (otherwise (receive entry p) 19 refl refl)
  verdict-ends Nothing says = took refl as_before
  verdict-ends (Record r i) says = recorded-ends r i says.0 says.1

  pub gather_ends : Ended clock (receive entry p) s store (gather_turn clock t (header_in p).ids id m (part_at p 40) (part_at p 48) s store)
  unfolding gather_turn
  gather_ends =
      verdict-ends (verdict_of s (header_in p).ids id store m (part_at p 40) (part_at p 48))
      (verdict_says id m (part_at p 40) (part_at p 48) s store (header_in p).ids)
