-- 01's worked rounds marked P: calls from commissioning on, and what they tell. "Signers 0, 1, 2; keys {1}, {2, 3}, {4}; num_keys 4, both
-- thresholds 3, both timeouts 10." First the words in which this round and those of the other tables are told.
use Rattle.std.specs.Prelude.{Option, Some, None, ℕ, ◌^◌, ◌-◌, Bool, true, false, List, [], ◌∷◌, ◌++◌, map, replicate, drop}
use Rattle.layout.specs.Limits.{store_length, answer_length}
use Rattle.layout.specs.declared.Ids.{Ids}
use Rattle.layout.specs.declared.SignatureType.{SignatureType}
use Rattle.layout.specs.declared.SignatureType.TheVariants.{Frost}
use Rattle.layout.specs.Messages.{Nonce, SignatureShare, NonceResponse, NonceRequest, SignatureShareRequest, Job, Message}
use Rattle.layout.specs.Messages.{nonce_request, nonce_response, signature_share_request, signature_share_response}
use Rattle.layout.specs.Encode.{encode, encode_job, encode_nonce_timeout, encode_insufficient_signers}
use Rattle.validity.specs.Nonces.{generator}
use Rattle.step_definition.specs.Configuration.{Config, SignerConfig}
use Rattle.step_definition.specs.Coordinator.{Held, uncommissioned, miscounted, commissioned}
use Rattle.step_definition.specs.Calls.{process, process_message, coordinator_key, aggregate_key, Request, commission, other, Call}
use Rattle.step_definition.specs.Calls.{Operation, set_key, take_results, start_signing, receive, process_timeout}
use Rattle.step_definition.specs.Calls.{Class, nothing, packet, job, result, error, Answer}
use Rattle.step_definition.specs.Calls.{Event, recorded, shares_taken, newly_malicious, requested, retried, share_requested, job_written}
use Rattle.step_definition.specs.Step.{step}
use Rattle.step_definition.specs.Run.{final}

-- Configurations.
abbrev pub signer : ℕ → List ℕ → SignerConfig
signer id keys = record { id = id; key_ids = Some keys }

-- with num_keys, the threshold that limits exclusion and the one that ends gathering, the nonce and the share timeout, the signers, and
-- whether packets are verified. What signing doesn't look at, the key generation's threshold and timeouts, has a value of its own
abbrev pub configuration : ℕ → ℕ → ℕ → Option ℕ → Option ℕ → List SignerConfig → Bool → Config
configuration num_keys threshold sign_threshold nonce sign signers verify =
    record {
      num_signers = 3;
      num_keys = num_keys;
      threshold = threshold;
      dkg_threshold = 9;
      sign_threshold = sign_threshold;
      timeouts = record { dkg_public = Some 6; dkg_private = Some 7; dkg_end = Some 8; nonce = nonce; sign = sign };
      signers = signers;
      verify_packet_sigs = verify;
    }

abbrev pub three : List SignerConfig
three = signer 0 (1 ∷ []) ∷ signer 1 (2 ∷ 3 ∷ []) ∷ signer 2 (4 ∷ []) ∷ []

abbrev pub example : Config
example = configuration 4 3 3 (Some 10) (Some 10) three true

-- Calls. With a clock reading, the host's verdict, the lengths of store and answer buffer that are lent
abbrev pub lending : ℕ → Bool → ℕ → ℕ → Request → Call
lending now verdict store room r = record { request = r; clock = now; verdict = verdict; store = store; room = room }

-- buffers at full size, the verdict good
abbrev pub calling : ℕ → Request → Call
calling now r = lending now true store_length answer_length r

abbrev pub at : ℕ → Operation → Call
at now o = calling now (other o)

-- a message brought by `process_message`, and by `process`
abbrev pub sends : ℕ → Message → Call
sends now m = at now (receive process_message (encode m))

abbrev pub processes : ℕ → Message → Call
processes now m = at now (receive process (encode m))

-- a start of a message, with its type, its root, and a sign id or none
abbrev pub starts : ℕ → List ℕ → SignatureType → List ℕ → Option ℕ → Call
starts now message t root id = at now (start_signing (record { message = message; signature_type = t; root = root; sign_id = id }))

-- What is sent. dkg id, sign id, iteration
abbrev pub ids_of : ℕ → ℕ → ℕ → Ids
ids_of dkg sign iteration = record { dkg_id = dkg; sign_id = sign; sign_iter_id = iteration }

abbrev pub ids : ℕ → Ids
ids iteration = ids_of 1 1 iteration

-- messages
abbrev pub nine : List ℕ
nine = 9 ∷ []

abbrev pub five : List ℕ
five = 5 ∷ []

-- a Taproot root
abbrev pub root : List ℕ
root = replicate 32 6

-- points and scalars stand as bytes that are neither identity nor G
abbrev pub point : List ℕ
point = replicate 33 2

abbrev pub nonce : List ℕ → List ℕ → Nonce
nonce D E = record { D = D; E = E }

abbrev pub good : Nonce
good = nonce point point

abbrev pub response_of : Ids → ℕ → List ℕ → List ℕ → List Nonce → NonceResponse
response_of i id message keys nonces = record { ids = i; signer_id = id; message = message; key_ids = keys; nonces = nonces }

-- a signer's response to message 9, for these keys, with this nonce
abbrev pub respond : ℕ → List ℕ → Nonce → NonceResponse
respond id keys n = response_of (ids 1) id nine keys (n ∷ [])

abbrev pub q0 : NonceResponse
q0 = respond 0 (1 ∷ []) good

abbrev pub q1 : NonceResponse
q1 = respond 1 (2 ∷ 3 ∷ []) good

abbrev pub q2 : NonceResponse
q2 = respond 2 (4 ∷ []) good

-- a response with other ids; to another message
abbrev pub under : Ids → NonceResponse → NonceResponse
under i q = response_of i q.signer_id q.message q.key_ids q.nonces

abbrev pub to : List ℕ → NonceResponse → NonceResponse
to message q = response_of q.ids q.signer_id message q.key_ids q.nonces

abbrev pub answers : ℕ → NonceResponse → Call
answers now q = sends now (nonce_response q)

abbrev pub share : ℕ → List ℕ → SignatureShare
share id keys = record { id = id; z_i = replicate 32 7; key_ids = keys }

abbrev pub shares_of : Ids → ℕ → List SignatureShare → Message
shares_of i id ss = signature_share_response (record { ids = i; signer_id = id; signature_shares = ss })

-- a signer's one share, for these keys
abbrev pub shares : ℕ → ℕ → List ℕ → Call
shares now id keys = sends now (shares_of (ids 1) id (share id keys ∷ []))

-- the good shares of the first two signers of the example
abbrev pub shares0 : Call
shares0 = shares 0 0 (1 ∷ [])

abbrev pub shares1 : Call
shares1 = shares 0 1 (2 ∷ 3 ∷ [])

abbrev pub request : Ids → List ℕ → SignatureType → List ℕ → NonceRequest
request i message t root = record { ids = i; message = message; signature_type = t; root = root }

abbrev pub request9 : ℕ → NonceRequest
request9 iteration = request (ids iteration) nine Frost []

abbrev pub share_request : Ids → List ℕ → SignatureType → List ℕ → List NonceResponse → SignatureShareRequest
share_request i message t root qs = record { ids = i; message = message; signature_type = t; root = root; nonce_responses = qs }

abbrev pub shares9 : List NonceResponse → SignatureShareRequest
shares9 qs = share_request (ids 1) nine Frost [] qs

abbrev pub job_of : Ids → List ℕ → SignatureType → List ℕ → List ℕ → List Nonce → List SignatureShare → Job
job_of i message t root keys nonces ss =
    record { ids = i; message = message; signature_type = t; root = root; key_ids = keys; nonces = nonces; signature_shares = ss }

-- of 0 and 1, with these shares
abbrev pub job9 : List SignatureShare → Job
job9 ss = job_of (ids 1) nine Frost [] (1 ∷ 2 ∷ 3 ∷ []) (good ∷ good ∷ []) ss

-- Openings. Commissioned, keys held, key generation ended; and then a round for message 9 begun at clock 0
abbrev pub ready_of : Config → List ℕ → List Call
ready_of g ended =
    calling 0 (commission g)
    ∷ at 0 (set_key coordinator_key true)
    ∷ at 0 (set_key aggregate_key true)
    ∷ at 0 (take_results 1 ended)
    ∷ []

abbrev pub begun_of : Config → List ℕ → List Call
begun_of g ended = ready_of g ended ++ (starts 0 nine Frost [] None ∷ [])

abbrev pub ready : List Call
ready = ready_of example (0 ∷ 1 ∷ 2 ∷ [])

abbrev pub begun : List Call
begun = begun_of example (0 ∷ 1 ∷ 2 ∷ [])

-- gathered from 0 and 1, the share request sent at clock 0
abbrev pub gathered : List Call
gathered = begun ++ (answers 0 q0 ∷ answers 0 q1 ∷ [])

-- Answers, written out: nothing; a number with its values; bytes; a job's bytes with its mark; a value.
abbrev pub answer_of : Class → ℕ → List ℕ → Bool → List ℕ → Answer
answer_of class number values mark bytes = record { class = class; number = number; values = values; mark = mark; bytes = bytes }

abbrev pub nothing_said : Answer
nothing_said = answer_of nothing 0 [] false []

abbrev pub numbered : Class → ℕ → List ℕ → Answer
numbered class n values = answer_of class n values false []

abbrev pub written : Class → List ℕ → Answer
written class bytes = answer_of class 0 [] false bytes

abbrev pub handed : Bool → List ℕ → Answer
handed whole bytes = answer_of job 0 [] whole bytes

abbrev pub valued : List ℕ → Answer
valued values = answer_of result 0 values false []

-- What a call tells: its answer, and what happened.
pub record Told : Type 0 where
  pub answer : Answer
  pub events : List Event

abbrev pub tells : Answer → List Event → Told
tells a es = record { answer = a; events = es }

abbrev pub nothing_told : Told
nothing_told = tells nothing_said []

-- an error with a number; with values; a result with a number and values
abbrev pub refuses : ℕ → Told
refuses n = tells (numbered error n []) []

abbrev pub refuses_with : ℕ → List ℕ → Told
refuses_with n values = tells (numbered error n values) []

abbrev pub fails : ℕ → List ℕ → Told
fails n values = tells (numbered result n values) []

-- a value: a result kind, yes (1) or no (0)
abbrev pub saying : ℕ → Told
saying n = tells (valued (n ∷ [])) []

-- a nonce request leaves; after a share timeout that excluded these
abbrev pub nonces_asked : NonceRequest → Told
nonces_asked r = tells (written packet (encode (nonce_request r))) (requested r ∷ [])

abbrev pub retried_with : List ℕ → NonceRequest → Told
retried_with new r = tells (written packet (encode (nonce_request r))) (newly_malicious new ∷ requested r ∷ retried ∷ [])

-- a signer's response is recorded; with it the share request leaves
abbrev pub recorded_of : ℕ → Told
recorded_of id = tells nothing_said (recorded id ∷ [])

abbrev pub shares_asked : ℕ → SignatureShareRequest → Told
shares_asked id r = tells (written packet (encode (signature_share_request r))) (recorded id ∷ share_requested r ∷ [])

-- a signer's shares are taken; with them the job goes out, with its mark
abbrev pub taken_of : ℕ → Told
taken_of id = tells nothing_said (shares_taken id ∷ [])

abbrev pub job_given : ℕ → Bool → Job → Told
job_given id whole j = tells (handed whole (encode_job j)) (shares_taken id ∷ job_written j ∷ [])

-- NonceTimeout with waiters and malicious signers; InsufficientSigners with the malicious signers, of whom these are new
abbrev pub nonces_late : List ℕ → List ℕ → Told
nonces_late waiters malicious = tells (written result (encode_nonce_timeout waiters malicious)) []

abbrev pub insufficient : List ℕ → List ℕ → Told
insufficient new malicious = tells (written result (encode_insufficient_signers malicious)) (newly_malicious new ∷ [])

-- A call with what it tells: `call ⇒ told`.
pub record Line : Type 0 where
  pub call : Call
  pub told : Told

infix 68 ◌⇒◌
abbrev pub ◌⇒◌ : Call → Told → Line
◌⇒◌ k t = record { call = k; told = t }

-- What is left in the end of a coordinator: its ids, its message and its malicious signers.
pub record Left : Type 0 where
  pub ids : Ids
  pub message : List ℕ
  pub malicious : List ℕ

abbrev pub left : Ids → List ℕ → List ℕ → Option Left
left i message malicious = Some (record { ids = i; message = message; malicious = malicious })

-- message 9 in this iteration, nobody malicious
abbrev pub left9 : ℕ → Option Left
left9 iteration = left (ids iteration) nine []

unfoldable pub left_in : Held → Option Left
left_in uncommissioned = None
left_in miscounted = None
left_in (commissioned c) = left c.ids c.round.message c.standing.malicious_signer_ids

-- A round: the calls that open it, the calls that are looked at, each with what it tells, and what is left.
pub record Round : Type 0 where
  pub opening : List Call
  pub lines : List Line
  pub end : Option Left

abbrev pub round : List Call → List Line → Option Left → Round
round opening lines end = record { opening = opening; lines = lines; end = end }

-- the same from something held that calls may never leave, with all that is held in the end
pub record From : Type 0 where
  pub held : Held
  pub lines : List Line
  pub after : Held

abbrev pub from : Held → List Line → Held → From
from held lines after = record { held = held; lines = lines; after = after }

-- The calls of a round, played: what the step tells, and what it leaves.
abbrev pub call_of : Line → Call
call_of l = l.call

unfoldable pub played : List Line → Held → List Line
played [] h = []
played (l ∷ ls) h =
    let o = step l.call h in
    l.call ⇒ tells o.answer o.events ∷ played ls o.after

unfoldable pub play : Round → Round
play r =
    let h = final r.opening uncommissioned in
    round r.opening (played r.lines h) (left_in (final (map call_of r.lines) h))

unfoldable pub play_from : From → From
play_from r = from r.held (played r.lines r.held) (final (map call_of r.lines) r.held)

-- 01's worked rounds.
-- "elapsed 10 nothing, 11 fires."
abbrev pub elapsed : Round
elapsed =
    round (begun ++ (answers 0 q0 ∷ []))
    (at 10 process_timeout ⇒ nothing_told ∷ at 11 process_timeout ⇒ nonces_late (0 ∷ []) [] ∷ [])
    (left9 1)

-- "0 and 2 answer: 2 keys, gathering."
abbrev pub two_keys : Round
two_keys = round begun (answers 0 q0 ⇒ recorded_of 0 ∷ answers 0 q2 ⇒ recorded_of 2 ∷ []) (left9 1)

-- "0 and 1: 3 keys, request leaves."
abbrev pub three_keys : Round
three_keys = round begun (answers 0 q0 ⇒ recorded_of 0 ∷ answers 0 q1 ⇒ shares_asked 1 (shares9 (q0 ∷ q1 ∷ [])) ∷ []) (left9 1)

-- "1 lists 3, 2, 3: recorded."
abbrev pub repeats_listed : Round
repeats_listed = round begun (answers 0 (respond 1 (3 ∷ 2 ∷ 3 ∷ []) good) ⇒ recorded_of 1 ∷ []) (left9 1)

-- "Lists 2: nothing."
abbrev pub one_listed : Round
one_listed = round begun (answers 0 (respond 1 (2 ∷ []) good) ⇒ nothing_told ∷ []) (left9 1)

-- "D = G: nothing."
abbrev pub generator_sent : Round
generator_sent = round begun (answers 0 (respond 0 (1 ∷ []) (nonce generator point)) ⇒ nothing_told ∷ []) (left9 1)

-- "D with first byte 03, G otherwise: recorded."
abbrev pub other_sign : Round
other_sign = round begun (answers 0 (respond 0 (1 ∷ []) (nonce (3 ∷ drop 1 generator) point)) ⇒ recorded_of 0 ∷ []) (left9 1)

-- "after 0 and 1, only 0 silent: 4 − 1 = 3, retry."
abbrev pub zero_silent : Round
zero_silent =
    round gathered
    (shares1 ⇒ taken_of 1 ∷ at 11 process_timeout ⇒ retried_with (0 ∷ []) (request9 2) ∷ [])
    (left (ids 2) nine (0 ∷ []))

-- "Only 1 silent: 2, InsufficientSigners."
abbrev pub one_silent : Round
one_silent =
    round gathered
    (shares0 ⇒ taken_of 0 ∷ at 11 process_timeout ⇒ insufficient (1 ∷ []) (1 ∷ []) ∷ [])
    (left (ids 1) nine (1 ∷ []))

-- "nonce timeout, no response: 12."
abbrev pub no_response : Round
no_response = round begun (at 11 process_timeout ⇒ refuses 12 ∷ []) (left9 1)

-- "1 shares only key 2: 22; then 0's good shares: job, whole no."
abbrev pub not_whole : Round
not_whole =
    round gathered
    (shares 0 1 (2 ∷ []) ⇒ fails 22 (1 ∷ []) ∷ shares0 ⇒ job_given 0 false (job9 (share 0 (1 ∷ []) ∷ [])) ∷ [])
    (left9 1)

-- "Idle request, iteration 0: sent with 0;"
abbrev pub idle_request : Round
idle_request = round ready (sends 0 (nonce_request (request9 0)) ⇒ nonces_asked (request9 0) ∷ []) (left9 0)

-- "with no group key 10, and 2^64 − 1 is left."
abbrev pub idle_request_refused : Round
idle_request_refused =
    round (ready ++ (at 0 (set_key aggregate_key false) ∷ []))
    (sends 0 (nonce_request (request9 0)) ⇒ refuses 10 ∷ [])
    (left (ids_of 1 0 (2 ^ 64 - 1)) [] [])

-- "0 answers four messages, then a fifth: 19."
abbrev pub fifth_message : Round
fifth_message =
    round begun
    (answers 0 (to (1 ∷ []) q0) ⇒ recorded_of 0
    ∷ answers 0 (to (2 ∷ []) q0) ⇒ recorded_of 0
    ∷ answers 0 (to (3 ∷ []) q0) ⇒ recorded_of 0
    ∷ answers 0 (to (4 ∷ []) q0) ⇒ recorded_of 0
    ∷ answers 0 (to (5 ∷ []) q0) ⇒ refuses 19
    ∷ [])
    (left9 1)

unfoldable pub rounds : List Round
rounds =
    elapsed
    ∷ two_keys
    ∷ three_keys
    ∷ repeats_listed
    ∷ one_listed
    ∷ generator_sent
    ∷ other_sign
    ∷ zero_silent
    ∷ one_silent
    ∷ no_response
    ∷ not_whole
    ∷ idle_request
    ∷ idle_request_refused
    ∷ fifth_message
    ∷ []
