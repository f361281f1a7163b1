-- Demand 3's words: the opening call, lists of later calls, and the first share request of a run.
use Rattle.std.specs.Prelude.{Option, Some, None, ℕ, ◌<◌, ◌≡◌, Bool, true, false, List, [], ◌∷◌, map}
use Rattle.wire.specs.Bytes.{All}
use Rattle.layout.specs.declared.Ids.{Ids}
use Rattle.layout.specs.Messages.{NonceRequest, NonceResponse, SignatureShareRequest}
use Rattle.validity.specs.Keys.{member, same_set}
use Rattle.step_definition.specs.Configuration.{configured, key_set_of}
use Rattle.step_definition.specs.Coordinator.{Coordinator, Standing, SignRoundInfo, Held, uncommissioned, miscounted, commissioned, responder_id}
use Rattle.step_definition.specs.Calls.{Request, commission, other, Call, nonce_request_in, share_request_in}
use Rattle.step_definition.specs.Calls.{Operation, set_key, take_results, can_move, start_signing, receive, process_timeout, aggregated}
use Rattle.step_definition.specs.Calls.{reset, tell_arrivals}
use Rattle.step_definition.specs.Step.{step}
use Rattle.step_definition.specs.ResponseLog.{Opened, Page, Place, or_later}

-- the call k on what h holds sends the nonce request r and leaves the coordinator c: "the opening call, which sends the nonce request"
pub record Opens (k : Call) (h : Held) (r : NonceRequest) (c : Coordinator) : Type 0 where
  pub sends : nonce_request_in (step k h).events ≡ Some r
  pub leaves : (step k h).after ≡ commissioned c

-- "equal configuration, key-generation results, held keys and struck list once that call has answered"
pub record SameFour (c d : Coordinator) : Type 0 where
  pub standing : c.standing ≡ d.standing
  pub dkg_id : c.ids.dkg_id ≡ d.ids.dkg_id

-- what the log is fed of an opening call
unfoldable pub opened_by : Call → NonceRequest → Coordinator → Opened
opened_by k r c = record { request = r; clock = k.clock; standing = c.standing }

-- "a list without start, reset or commissioning"
unfoldable pub plain_operation : Operation → Bool
plain_operation (set_key which held) = true
plain_operation (take_results dkg ended) = true
plain_operation (can_move p) = true
plain_operation (start_signing s) = false
plain_operation (receive entry bytes) = true
plain_operation process_timeout = true
plain_operation (aggregated ok) = true
plain_operation reset = false
plain_operation tell_arrivals = true

unfoldable pub plain_request : Request → Bool
plain_request (commission g) = false
plain_request (other o) = plain_operation o

-- the group key is held
unfoldable pub group_key_in : Held → Bool
group_key_in uncommissioned = false
group_key_in miscounted = false
group_key_in (commissioned c) = c.standing.keys.aggregate_public_key

-- such a list, "the group key held throughout": before each of its calls
abbrev pub Plain : List Call → Held → Type 0
Plain [] h = Unit {0}
Plain (k ∷ ks) h = (plain_request k.request ≡ true) × (group_key_in h ≡ true) × Plain ks (step k h).after

-- the first call of a run that sends a share request, by its place, with the request
unfoldable pub first_share_request : List Call → Held → Option Place
first_share_request [] h = None
first_share_request (k ∷ ks) h = or_later (share_request_in (step k h).events) (first_share_request ks (step k h).after)

-- a record as the log has it: the message and its responses
abbrev pub page_of : SignRoundInfo → Page
page_of i = record { message = i.message; entries = i.public_nonces }

-- "each from a configured, key-generated, unstruck signer with its exact key set and this request's ids"
pub record FromSigner (s : Standing) (current : Ids) (q : NonceResponse) : Type 0 where
  pub configured : configured s.config q.signer_id ≡ true
  pub key_generated : member q.signer_id s.dkg_end_messages ≡ true
  pub not_malicious : member q.signer_id s.malicious_signer_ids ≡ false
  pub key_set : List ℕ
  pub entry : key_set_of s.config q.signer_id ≡ Some key_set
  pub exact : same_set q.key_ids key_set ≡ true
  pub ids : q.ids ≡ current

-- signers ascend, each once
abbrev pub Ascending : List ℕ → Type 0
Ascending [] = Unit {0}
Ascending (x ∷ xs) = All (λ (y : ℕ). x < y) xs × Ascending xs

-- demand 3's last clause, of a share request, by the four things and the ids of the nonce request
pub record Authentic (s : Standing) (current : Ids) (r : SignatureShareRequest) : Type 0 where
  pub ids : r.ids ≡ current
  pub responses : All (FromSigner s current) r.nonce_responses
  pub signers : Ascending (map responder_id r.nonce_responses)
