-- The step: what each call answers and changes. Total: defined for every value and every call. The questions of each call stand in its
-- own definition in the order in which they are asked.
use Rattle.std.specs.Prelude.{ℕ, Bool, true, false, not, ◌||◌, List, [], ◌∷◌, None, Some}
use Rattle.layout.specs.declared.SignatureType.{SignatureType}
use Rattle.layout.specs.declared.SignatureType.TheVariants.{Frost}
use Rattle.layout.specs.declared.ResultKind.{ResultKind}
use Rattle.layout.specs.declared.ResultKind.TheVariants.{Sign, SignSchnorr, SignTaproot}
use Rattle.layout.specs.Types.{result_of}
use Rattle.layout.specs.Messages.{NonceResponse, SignatureShareResponse, Message}
use Rattle.layout.specs.Encode.{encode_arrivals}
use Rattle.layout.specs.Decode.{Decoded, taken, refused, decode}
use Rattle.state_table.specs.declared.State.TheVariants.{Idle}
use Rattle.state_table.specs.States.{position, type_in, StateType}
use Rattle.state_table.specs.Moves.{can_move_to}
use Rattle.step_definition.specs.Lists.{given}
use Rattle.step_definition.specs.Ids.{insert_all}
use Rattle.step_definition.specs.Configuration.{Config, question1, question2, question3, ascending}
use Rattle.step_definition.specs.Coordinator.{Coordinator, Held, uncommissioned, miscounted, commissioned, fresh}
use Rattle.step_definition.specs.Coordinator.{arrivals_of, current_record, with_position, with_keys, with_ended, with_job, with_dkg_id}
use Rattle.step_definition.specs.Calls.{Entry, process, process_message, Request, commission, other, Call, setting}
use Rattle.step_definition.specs.Calls.{Operation, set_key, take_results, can_move, start_signing, receive, process_timeout, aggregated}
use Rattle.step_definition.specs.Calls.{reset, tell_arrivals}
use Rattle.step_definition.specs.Calls.{result, error, Outcome, outcome, plain, refusing, sending, telling, quiet, failing, failed}
use Rattle.step_definition.specs.Effects.{abandon, forget}
use Rattle.step_definition.specs.Phases.{Phase, idling, gathering_nonces, gathering_shares, resting, phase_of}
use Rattle.step_definition.specs.Phases.{Content, content_of, nonce_response_in, share_response_in}
use Rattle.step_definition.specs.Questions.{before, question9, question13, question14, question24, question25}
use Rattle.step_definition.specs.Starts.{ask, start_round, idle}
use Rattle.step_definition.specs.Timeouts.{timeout}
use Rattle.step_definition.specs.NonceGather.{gather_nonces}
use Rattle.step_definition.specs.SigShareGather.{gather_shares}

-- a message by state
unfoldable pub message_in : ℕ → Phase → Content → Coordinator → Outcome
message_in now idling m c = idle now m c
message_in now (gathering_nonces t) m c =
    given (nonce_response_in m) (λ (q : NonceResponse). gather_nonces now t c.position.root q c) (quiet c)
message_in now (gathering_shares t) m c =
    given (share_response_in m) (λ (r : SignatureShareResponse). gather_shares t c.position.root r c) (quiet c)
message_in now resting m c = quiet c

-- "Message, where verification is on: coordinator key held (13)? Signer configured, for signer kinds, and host verdict good (14)?"
unfoldable pub on_message : ℕ → Bool → Message → Coordinator → Outcome
on_message now verdict m c =
    let g = c.standing.config in
    let verify = g.verify_packet_sigs in
    ask (not verify || question13 c) (failing 13 [] c)
    (ask (not verify || question14 g m verdict) (failing 14 [] c)
    (message_in now (phase_of c.position.state) (content_of m) c))

-- "When it yields a packet, a result or an error, `process` drops the inbound packet."
abbrev pub unless_late : ℕ → Coordinator → Outcome → Outcome
unless_late now c rest = given (timeout now c) (λ (o : Outcome). o) rest

-- a packet's message, by the call that brings it
abbrev pub on_entry : Entry → ℕ → Bool → Message → Coordinator → Outcome
on_entry process now verdict m c = unless_late now c (on_message now verdict m c)
on_entry process_message now verdict m c = on_message now verdict m c

-- a packet: 8 and 9, then what its message does
unfoldable pub on_packet : Entry → ℕ → Bool → Decoded → Coordinator → Outcome
on_packet entry now verdict (taken m) c = on_entry entry now verdict m c
on_packet entry now verdict (refused n) c = failing n [] c

-- the result kind as a value
abbrev pub result_number : ResultKind → ℕ
result_number Sign = 0
result_number SignSchnorr = 1
result_number SignTaproot = 2

-- a state without a type gives the result kind of type 0
abbrev pub type_or : StateType → SignatureType
type_or None = Frost
type_or (Some t) = t

-- "Aggregator's answer: success (23)?" "Success moves to Idle with the result kind; failure is 23", and "the job is no longer out"
unfoldable pub on_aggregated : Bool → Coordinator → Outcome
on_aggregated ok c =
    let kind = result_number (result_of (type_or (type_in c.position.state))) in
    ask ok (failed 23 [] (with_job false c))
    (outcome (telling (kind ∷ [])) [] (commissioned (with_job false (with_position (position Idle []) c))))

-- "Taking key-generation results (dkg id and signers that ended): state Idle (24)? At most 10 ids, repeats counted, all configured (25)?
-- Results taken replace the dkg id and the earlier ended signers."
unfoldable pub on_results : ℕ → List ℕ → Coordinator → Outcome
on_results dkg ended c =
    ask (question24 c) (failing 24 [] c)
    (ask (question25 c ended) (failing 25 [] c)
    (quiet (with_ended (insert_all ended []) (with_dkg_id dkg c))))

-- 02, e): "A new query writes kind 35, with two parts for the current message: responder ids ascending, and their readings ..; both parts
-- are empty where no record exists." No timeout is tested, and nothing changes
unfoldable pub on_arrivals : Coordinator → Outcome
on_arrivals c = outcome (sending result (encode_arrivals (arrivals_of (current_record c)))) [] (commissioned c)

abbrev pub yes_no : Bool → ℕ
yes_no true = 1
yes_no false = 0

-- what a call does once 4, 5, 6 and 7 are yes
unfoldable pub own : Call → Operation → Coordinator → Outcome
own k (set_key which held) c = quiet (with_keys (setting which held c.standing.keys) c)
own k (take_results dkg ended) c = on_results dkg ended c
own k (can_move p) c = outcome (telling (yes_no (can_move_to c.position p) ∷ [])) [] (commissioned c)
own k (start_signing s) c = ask (question9 s.message) (failing 9 [] c) (start_round k.clock s c)
own k (receive entry bytes) c = on_packet entry k.clock k.verdict (decode bytes) c
own k process_timeout c = unless_late k.clock c (quiet c)
own k (aggregated ok) c = on_aggregated ok c
own k reset c = quiet (forget (abandon c))
own k tell_arrivals c = on_arrivals c

-- "After 1 to 3 the state is uncommissioned"; otherwise the Rust's `new`. It is asked nothing else: not 4, and not 5
unfoldable pub on_commission : Config → Outcome
on_commission g =
    ask (question1 g) (outcome (refusing error 1 []) [] uncommissioned)
    (ask (question2 g) (outcome (refusing error 2 []) [] uncommissioned)
    (ask (question3 g) (outcome (refusing error 3 []) [] uncommissioned)
    (outcome plain [] (commissioned (fresh (ascending g))))))

-- every other call: "state commissioned, its counts within these limits (4)?"
unfoldable pub on_held : Call → Operation → Held → Outcome
on_held k o uncommissioned = outcome (refusing error 4 []) [] uncommissioned
on_held k o miscounted = outcome (refusing error 4 []) [] miscounted
on_held k o (commissioned c) = given (before k o c) (λ (n : ℕ). failing n [] c) (own k o c)

unfoldable pub step_of : Call → Request → Held → Outcome
step_of k (commission g) h = on_commission g
step_of k (other o) h = on_held k o h

abbrev pub step : Call → Held → Outcome
step k h = step_of k k.request h
