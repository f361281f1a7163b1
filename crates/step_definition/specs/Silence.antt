-- Who was asked for shares and has not answered, kept beside a run from the share requests that leave and the packets that come: what the
-- share timeout may exclude as malicious.
use Rattle.std.specs.Prelude.{Option, Some, None, ℕ, Bool, true, false, cond, ◌&&◌, not, ◌||◌, List, [], ◌∷◌, map, eqb}
use Rattle.layout.specs.Messages.{SignatureShareRequest, SignatureShareResponse, Message}
use Rattle.layout.specs.Decode.{Decoded, taken, refused, decode}
use Rattle.step_definition.specs.Lists.{is_some}
use Rattle.step_definition.specs.Ids.{remove}
use Rattle.step_definition.specs.Coordinator.{Coordinator, Held, uncommissioned, miscounted, commissioned, responder_id}
use Rattle.step_definition.specs.Calls.{Entry, process, process_message, Operation, Request, commission, other, Call, share_request_in}
use Rattle.step_definition.specs.Calls.{Brought, a_packet, a_start, a_key, no_more, brings, brought}
use Rattle.step_definition.specs.Phases.{content_of, share_response_in}
use Rattle.step_definition.specs.Questions.{before, question13, question14}
use Rattle.step_definition.specs.Timeouts.{timeout}
use Rattle.step_definition.specs.Step.{step}

-- no share request yet; a start since the last one was refused with 11; the last one, and who of its responders has not answered it
pub data Watch : Type 0 where
  unasked : Watch
  broken : Watch
  watching : SignatureShareRequest → List ℕ → Watch

-- 13 and 14, where verification is on
unfoldable pub sealed : Coordinator → Bool → Message → Bool
sealed c verdict m = not c.standing.config.verify_packet_sigs || (question13 c && question14 c.standing.config m verdict)

-- a packet of `process` is not heard where the timeout fired
abbrev pub unless_fired : Entry → ℕ → Coordinator → Option SignatureShareResponse → Option SignatureShareResponse
unless_fired process now c a = cond (is_some (timeout now c)) None a
unless_fired process_message now c a = a

-- the kind 4 packet of a call of which 4, 5, 7, 8, 9, 13 and 14 are answered yes and whose own timeout, if it tests it, didn't fire
unfoldable pub heard_in : Call → Entry → Decoded → Coordinator → Option SignatureShareResponse
heard_in k entry (taken m) c = unless_fired entry k.clock c (cond (sealed c k.verdict m) (share_response_in (content_of m)) None)
heard_in k entry (refused n) c = None

unfoldable pub heard_by : Call → Brought → Coordinator → Option SignatureShareResponse
heard_by k (a_packet entry bytes) c = heard_in k entry (decode bytes) c
heard_by k (a_start s) c = None
heard_by k (a_key which on) c = None
heard_by k no_more c = None

unfoldable pub heard_on : Call → Operation → Held → Option SignatureShareResponse
heard_on k o uncommissioned = None
heard_on k o miscounted = None
heard_on k o (commissioned c) = cond (is_some (before k o c)) None (heard_by k (brings o) c)

unfoldable pub heard : Call → Request → Held → Option SignatureShareResponse
heard k (commission g) h = None
heard k (other o) h = heard_on k o h

-- the packet answers the request where its dkg and sign id are the request's; its signer is silent no more
unfoldable pub listen : SignatureShareRequest → List ℕ → Option SignatureShareResponse → List ℕ
listen r silent None = silent
listen r silent (Some a) =
    cond (eqb a.ids.dkg_id r.ids.dkg_id && eqb a.ids.sign_id r.ids.sign_id) (remove a.signer_id silent) silent

unfoldable pub listening : Watch → Option SignatureShareResponse → Watch
listening unasked a = unasked
listening broken a = broken
listening (watching r silent) a = watching r (listen r silent a)

abbrev pub is_start : Brought → Bool
is_start (a_packet entry bytes) = false
is_start (a_start s) = true
is_start (a_key which on) = false
is_start no_more = false

unfoldable pub watch_after : Option SignatureShareRequest → Bool → Watch → Watch
watch_after None refused11 w = cond refused11 broken w
watch_after (Some r) refused11 w = watching r (map responder_id r.nonce_responses)

-- a call's part: a share request that leaves is watched from then on; a start that is refused with 11 ends the watch
unfoldable pub watch : Call → Held → Watch → Watch
watch k h w =
    let o = step k h in
    watch_after (share_request_in o.events) (is_start (brought k.request) && eqb o.answer.number 11)
    (listening w (heard k k.request h))

-- over a list of calls
unfoldable pub watched : List Call → Held → Watch → Watch
watched [] h w = w
watched (k ∷ ks) h w = watched ks (step k h).after (watch k h w)

abbrev pub is_commission : Request → Bool
is_commission (commission g) = true
is_commission (other o) = false
