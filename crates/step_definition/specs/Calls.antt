-- Calls with all that a host gives, answers, and a step's outcome.
use Rattle.std.specs.Prelude.{Option, Some, None, ℕ, Bool, true, false, List, []}
use Rattle.layout.specs.declared.SignatureType.{SignatureType}
use Rattle.layout.specs.Messages.{NonceRequest, SignatureShareRequest, Job}
use Rattle.state_table.specs.States.{Position}
use Rattle.step_definition.specs.Lists.{first}
use Rattle.step_definition.specs.Configuration.{Config}
use Rattle.step_definition.specs.Coordinator.{Keys, Coordinator, Held, commissioned}

-- start_signing_round's arguments; no sign id: the next one
pub record Start : Type 0 where
  pub message : List ℕ
  pub signature_type : SignatureType
  pub root : List ℕ
  pub sign_id : Option ℕ

-- the two calls that bring a packet: `process` tests the timeout first, `process_message` doesn't
pub data Entry : Type 0 where
  process process_message : Entry

-- which of the two keys a call sets or clears
pub data HeldKey : Type 0 where
  coordinator_key aggregate_key : HeldKey

-- the calls on a coordinator, each with its own arguments; a packet as bytes
pub data Operation : Type 0 where
  set_key : HeldKey → Bool → Operation
  take_results : ℕ → List ℕ → Operation
  can_move : Position → Operation
  start_signing : Start → Operation
  receive : Entry → List ℕ → Operation
  process_timeout : Operation
  aggregated : Bool → Operation
  reset : Operation
  tell_arrivals : Operation

-- "Commissioning", and "Every other call"
pub data Request : Type 0 where
  commission : Config → Request
  other : Operation → Request

-- clock: u64 nanoseconds, one reading a call; verdict: the host's on the packet's seal; the lengths of the store and of the answer
-- buffer as lent in this call
pub record Call : Type 0 where
  pub request : Request
  pub clock : ℕ
  pub verdict : Bool
  pub store : ℕ
  pub room : ℕ

-- what a call brings, for those who keep a log beside a run: a packet, a start, a key set or cleared, or nothing that they look at
pub data Brought : Type 0 where
  a_packet : Entry → List ℕ → Brought
  a_start : Start → Brought
  a_key : HeldKey → Bool → Brought
  no_more : Brought

abbrev pub brings : Operation → Brought
brings (set_key which held) = a_key which held
brings (take_results dkg ended) = no_more
brings (can_move p) = no_more
brings (start_signing s) = a_start s
brings (receive entry bytes) = a_packet entry bytes
brings process_timeout = no_more
brings (aggregated ok) = no_more
brings reset = no_more
brings tell_arrivals = no_more

abbrev pub brought : Request → Brought
brought (commission g) = no_more
brought (other o) = brings o

-- the keys held after one was set or cleared
abbrev pub setting : HeldKey → Bool → Keys → Keys
setting coordinator_key held keys = record { coordinator_public_key = held; aggregate_public_key = keys.aggregate_public_key }
setting aggregate_key held keys = record { coordinator_public_key = keys.coordinator_public_key; aggregate_public_key = held }

-- the Rust tells errors (Err) and results (OperationResult) apart; a packet goes out; a job goes to the aggregator
pub data Class : Type 0 where
  nothing packet job result error : Class

abbrev pub is_nothing : Class → Bool
is_nothing nothing = true
is_nothing packet = false
is_nothing job = false
is_nothing result = false
is_nothing error = false

-- number: 01's, 0 where no question is answered no. values: got and expected (16 to 18), the signer (20 to 22), the result kind, yes or
-- no. mark: whether the job is whole. bytes: what is written to the answer buffer
pub record Answer : Type 0 where
  pub class : Class
  pub number : ℕ
  pub values : List ℕ
  pub mark : Bool
  pub bytes : List ℕ

-- what happened, beside the answer: a signer's response recorded, its shares taken, signers newly malicious (01: struck), a nonce
-- request, whether it is a retry, a share request, a job
pub data Event : Type 0 where
  recorded : ℕ → Event
  shares_taken : ℕ → Event
  newly_malicious : List ℕ → Event
  requested : NonceRequest → Event
  retried : Event
  share_requested : SignatureShareRequest → Event
  job_written : Job → Event

-- the parts of an event that theorems about runs look at
pub record Shown : Type 0 where
  pub nonce_request : Option NonceRequest
  pub share_request : Option SignatureShareRequest
  pub malicious_ids : Option (List ℕ)

abbrev pub shown_of : Option NonceRequest → Option SignatureShareRequest → Option (List ℕ) → Shown
shown_of n s m = record { nonce_request = n; share_request = s; malicious_ids = m }

abbrev pub shown : Event → Shown
shown (recorded id) = shown_of None None None
shown (shares_taken id) = shown_of None None None
shown (newly_malicious ids) = shown_of None None (Some ids)
shown (requested r) = shown_of (Some r) None None
shown retried = shown_of None None None
shown (share_requested r) = shown_of None (Some r) None
shown (job_written j) = shown_of None None None

-- the nonce request and the share request that a step sends, and whom its share timeout excludes, if it fires
abbrev pub nonce_request_in : List Event → Option NonceRequest
nonce_request_in es = first (λ (e : Event). (shown e).nonce_request) es

abbrev pub share_request_in : List Event → Option SignatureShareRequest
share_request_in es = first (λ (e : Event). (shown e).share_request) es

abbrev pub newly_malicious_in : List Event → Option (List ℕ)
newly_malicious_in es = first (λ (e : Event). (shown e).malicious_ids) es

pub record Outcome : Type 0 where
  pub answer : Answer
  pub events : List Event
  pub after : Held

abbrev pub outcome : Answer → List Event → Held → Outcome
outcome a es h = record { answer = a; events = es; after = h }

abbrev pub plain : Answer
plain = record { class = nothing; number = 0; values = []; mark = false; bytes = [] }

-- a number with its values
abbrev pub refusing : Class → ℕ → List ℕ → Answer
refusing k n vs = record { class = k; number = n; values = vs; mark = false; bytes = [] }

-- bytes for the answer buffer
abbrev pub sending : Class → List ℕ → Answer
sending k bs = record { class = k; number = 0; values = []; mark = false; bytes = bs }

-- a job's bytes with its mark
abbrev pub handing : Bool → List ℕ → Answer
handing whole bs = record { class = job; number = 0; values = []; mark = whole; bytes = bs }

abbrev pub telling : List ℕ → Answer
telling vs = record { class = result; number = 0; values = vs; mark = false; bytes = [] }

-- nothing answered; an error and a result with a number
abbrev pub quiet : Coordinator → Outcome
quiet c = outcome plain [] (commissioned c)

abbrev pub failing : ℕ → List ℕ → Coordinator → Outcome
failing n vs c = outcome (refusing error n vs) [] (commissioned c)

abbrev pub failed : ℕ → List ℕ → Coordinator → Outcome
failed n vs c = outcome (refusing result n vs) [] (commissioned c)
