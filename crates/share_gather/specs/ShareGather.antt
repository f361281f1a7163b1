-- SigShareGather on a response, at the level of struct and store.
use Rattle.std.specs.Prelude.{ℕ, ◌≤◌, ◌≡◌, true, false, List, [], ◌∷◌, length, get_or}
use Rattle.layout.specs.Limits.{store_length, answer_length}
use Rattle.layout.specs.declared.Header.{Header}
use Rattle.layout.specs.declared.SignatureType.{SignatureType}
use Rattle.layout.specs.LaidOut.{header_in, parts_from}
use Rattle.layout.specs.Decode.{share_response_in}
use Rattle.step_definition.specs.Calls as A
use Rattle.state.specs.declared.fields.ResponseSlot.{ResponseSlot}
use Rattle.state.specs.declared.fields.Records.{Records}
use Rattle.state.specs.declared.fields.Coordinator.{Coordinator}
use Rattle.state.specs.Counts.{is_within_limits}
use Rattle.state.specs.View.{no_row}
use Rattle.state.specs.Setters.{set_slot, set_row, set_records}
use Rattle.state.specs.Turns.{Turn, turn}
use Rattle.shares.specs.Shares.{Shareable}
use Rattle.share_verdicts.specs.declared.Verdict.{Verdict}
use Rattle.share_verdicts.specs.declared.Verdict.TheVariants.{Unawaited, Wrong, Refused, Unended, Good}
use Rattle.share_verdicts.specs.Verdicts.{slot_at, verdict_of}
use Rattle.share_taking.specs.Taking.{take_turn}

-- "Waiter removed": nothing else of its slot changes
abbrev pub freed_slot : ResponseSlot → ResponseSlot
freed_slot x = record { held = x.held; waits = false; ids = x.ids; key_ids = x.key_ids; nonces = x.nonces; clock = x.clock }

abbrev pub freed_records : ℕ → ℕ → Records → Records
freed_records r i rs = set_row r (set_slot i (freed_slot (slot_at rs r i)) (get_or rs.rows r no_row)) rs

abbrev pub freed : ℕ → ℕ → Coordinator → Coordinator
freed r i s = set_records (freed_records r i s.records) s

-- share errors are results: 16 and 17 tell got and expected, 21 and 22 the signer; these two leave the waiter removed
unfoldable pub verdict_turn : SignatureType → List ℕ → Header → Coordinator → List ℕ → Verdict → Turn
verdict_turn t p h s store Unawaited = turn A.plain s store
verdict_turn t p h s store (Wrong n got expected) = turn (A.refusing A.result n (got ∷ (expected ∷ []))) s store
verdict_turn t p h s store (Refused n r i) = turn (A.refusing A.result n (h.signer_id ∷ [])) (freed r i s) store
verdict_turn t p h s store (Unended r i) = turn A.plain (freed r i s) store
verdict_turn t p h s store (Good r i) = take_turn t p h r i (freed r i s) store

unfoldable pub gather_shares_turn : SignatureType → List ℕ → Coordinator → List ℕ → Turn
gather_shares_turn t p s store = verdict_turn t p (header_in p) s store (verdict_of s store (share_response_in p))

-- what 4, 7, 8 and 9 have found of struct, store, packet and buffer; h is the packet's header
pub record SharesGathering (s : Coordinator) (store p : List ℕ) (h : Header) (room : ℕ) : Type 0 where
  pub within : is_within_limits s ≡ true
  pub stored : store_length ≤ length store
  pub wide : answer_length ≤ room
  pub header : h ≡ header_in p
  pub shares : Shareable (parts_from p 32 h.pairs)
