-- "The questions, in order", those of commissioning (1 to 3) and those that calls are asked before their own work (4 to 7): who is asked
-- what, and what comes first.
use Rattle.std.specs.Prelude.{Some, None, ℕ, ◌+◌, ◌-◌, true, false, List, [], ◌∷◌, ◌++◌, map, replicate}
use Rattle.layout.specs.Limits.{store_length, answer_length}
use Rattle.layout.specs.declared.SignatureType.TheVariants.{Frost}
use Rattle.layout.specs.Messages.{nonce_response, dkg_begin}
use Rattle.layout.specs.Encode.{encode}
use Rattle.state_table.specs.declared.State.TheVariants.{Idle, NonceRequest, NonceGather}
use Rattle.state_table.specs.States.{position}
use Rattle.step_definition.specs.Configuration.{Config, SignerConfig}
use Rattle.step_definition.specs.Calls.{process, process_message, coordinator_key, aggregate_key, commission, Call, other}
use Rattle.step_definition.specs.Calls.{Operation, set_key, take_results, can_move, start_signing, receive, process_timeout, aggregated, reset}
use Rattle.step_definition.specs.rounds.Rounds.{signer, configuration, example, lending, at, sends, starts, ids_of, nine, five, q0}
use Rattle.step_definition.specs.rounds.Rounds.{shares0, shares1, request, ready, begun, gathered}
use Rattle.step_definition.specs.rounds.Rounds.{nothing_told, refuses, saying, nonces_asked, recorded_of, ◌⇒◌, left, left9, Round, round}

-- a call with these lengths of store and answer buffer, at clock 0
abbrev lends : ℕ → ℕ → Operation → Call
lends store room o = lending 0 true store room (other o)

-- commissioning is lent a store and no answer buffer
abbrev commissions : ℕ → Config → Call
commissions store g = lending 0 false store 0 (commission g)

-- whether there is a coordinator: Idle may always be entered
abbrev may_idle : Operation
may_idle = can_move (position Idle [])

-- a configuration with num_keys and signers
abbrev having : ℕ → List SignerConfig → Config
having num_keys signers = configuration num_keys 3 3 None None signers true

abbrev keyless : ℕ → SignerConfig
keyless id = record { id = id; key_ids = None }

abbrev ten : List ℕ
ten = 0 ∷ 1 ∷ 2 ∷ 3 ∷ 4 ∷ 5 ∷ 6 ∷ 7 ∷ 8 ∷ 9 ∷ []

abbrev sixteen : List ℕ
sixteen = ten ++ (10 ∷ 11 ∷ 12 ∷ 13 ∷ 14 ∷ 15 ∷ [])

-- taken, and after it there is a coordinator: "Idle, ids 0, nothing held, nobody struck"
abbrev takes : Config → Round
takes g = round [] (commissions store_length g ⇒ nothing_told ∷ at 0 may_idle ⇒ saying 1 ∷ []) (left (ids_of 0 0 0) [] [])

-- refused, and "the state is uncommissioned", also where there was a coordinator
abbrev refuses_to : ℕ → Config → Round
refuses_to n g = round begun (commissions store_length g ⇒ refuses n ∷ at 0 may_idle ⇒ refuses 4 ∷ []) None

-- Commissioning: "at most 10 signers, ids distinct (1)?"
abbrev pub ten_signers : Round
ten_signers = takes (having 0 (map keyless ten))

abbrev pub eleven_signers : Round
eleven_signers = refuses_to 1 (having 0 (map keyless (ten ++ (10 ∷ []))))

abbrev pub id_twice : Round
id_twice = refuses_to 1 (having 4 (signer 1 [] ∷ signer 3 (1 ∷ []) ∷ signer 2 (2 ∷ []) ∷ signer 3 (3 ∷ []) ∷ []))

-- "Every key set at most 16 keys, none twice (2)?" Two signers may have the same key
abbrev pub sixteen_keys : Round
sixteen_keys = takes (having 17 (signer 0 sixteen ∷ signer 1 (7 ∷ []) ∷ []))

abbrev pub seventeen_keys : Round
seventeen_keys = refuses_to 2 (having 20 (signer 1 (7 ∷ []) ∷ signer 0 (sixteen ++ (16 ∷ [])) ∷ []))

abbrev pub key_twice : Round
key_twice = refuses_to 2 (having 5 (signer 0 (1 ∷ []) ∷ signer 1 (4 ∷ 2 ∷ 3 ∷ 2 ∷ []) ∷ []))

-- "Set sizes together at most num_keys (3)?" A key of two signers counts twice
abbrev pub sizes_at_most : Round
sizes_at_most = takes (having 4 (signer 0 (1 ∷ 2 ∷ []) ∷ signer 1 (2 ∷ 3 ∷ []) ∷ []))

abbrev pub sizes_too_many : Round
sizes_too_many = refuses_to 3 (having 3 (signer 0 (1 ∷ 2 ∷ []) ∷ signer 1 (2 ∷ 3 ∷ []) ∷ []))

-- the questions in order
abbrev pub one_before_two : Round
one_before_two = refuses_to 1 (having 0 (signer 0 (1 ∷ 1 ∷ []) ∷ signer 0 (2 ∷ []) ∷ []))

abbrev pub two_before_three : Round
two_before_three = refuses_to 2 (having 0 (signer 0 (1 ∷ 1 ∷ []) ∷ signer 1 (2 ∷ []) ∷ []))

-- "A signer may have no key set entry", and an empty set
abbrev pub no_entry : Round
no_entry = takes (having 0 (keyless 0 ∷ signer 1 [] ∷ []))

-- a job is out, and 1 is malicious
abbrev handed_malicious : List Call
handed_malicious = gathered ++ (shares0 ∷ at 11 process_timeout ∷ shares1 ∷ [])

-- it is not asked 4 (a short store is zeroed whole; later calls give 4) and not 5 (a job is out), and all that was held is gone
abbrev pub commissioned_again : Round
commissioned_again =
    round handed_malicious
    (commissions 0 example ⇒ nothing_told
    ∷ lends 0 answer_length may_idle ⇒ refuses 4
    ∷ at 0 (aggregated true) ⇒ refuses 6
    ∷ starts 0 nine Frost [] None ⇒ refuses 10
    ∷ sends 0 (dkg_begin 0) ⇒ refuses 13
    ∷ [])
    (left (ids_of 0 0 0) [] [])

-- Every other call. The key calls, the results call, the move question and a start, with arguments of their own
abbrev set_coordinator : Operation
set_coordinator = set_key coordinator_key false

abbrev set_group : Operation
set_group = set_key aggregate_key false

abbrev results : Operation
results = take_results 2 (0 ∷ [])

abbrev move : Operation
move = can_move (position (NonceRequest Frost) [])

abbrev start : Operation
start = start_signing (record { message = five; signature_type = Frost; root = []; sign_id = Some 7 })

abbrev by_process : List ℕ → Operation
by_process bytes = receive process bytes

abbrev by_message : List ℕ → Operation
by_message bytes = receive process_message bytes

-- a byte is no packet
abbrev no_packet : List ℕ
no_packet = 1 ∷ []

-- "state commissioned, its counts within these limits, lent store of 52,224 bytes or more (4)?"
abbrev pub uncommissioned4 : Round
uncommissioned4 =
    round []
    (at 0 set_coordinator ⇒ refuses 4
    ∷ at 0 set_group ⇒ refuses 4
    ∷ at 0 results ⇒ refuses 4
    ∷ at 0 move ⇒ refuses 4
    ∷ at 0 start ⇒ refuses 4
    ∷ at 0 (by_process no_packet) ⇒ refuses 4
    ∷ at 0 (by_message no_packet) ⇒ refuses 4
    ∷ at 0 process_timeout ⇒ refuses 4
    ∷ at 0 (aggregated false) ⇒ refuses 4
    ∷ at 0 reset ⇒ refuses 4
    ∷ [])
    None

-- a store of 52,223 bytes, at which 4 comes before 6 and 7 ...
abbrev pub short_store : Round
short_store =
    let short : Operation → Call = λ o. lends (store_length - 1) 0 o in
    round ready
    (short set_coordinator ⇒ refuses 4
    ∷ short set_group ⇒ refuses 4
    ∷ short results ⇒ refuses 4
    ∷ short move ⇒ refuses 4
    ∷ short start ⇒ refuses 4
    ∷ short (by_process no_packet) ⇒ refuses 4
    ∷ short (by_message no_packet) ⇒ refuses 4
    ∷ short process_timeout ⇒ refuses 4
    ∷ short (aggregated false) ⇒ refuses 4
    ∷ short reset ⇒ refuses 4
    ∷ lends (store_length + 1) answer_length start ⇒ nonces_asked (request (ids_of 1 7 1) five Frost [])
    ∷ [])
    (left (ids_of 1 7 1) five [])

-- a job is out
abbrev handed : List Call
handed = gathered ++ (shares0 ∷ shares1 ∷ [])

-- ... and before 5
abbrev pub short_store_job_out : Round
short_store_job_out =
    let short : Operation → Call = λ o. lends 0 0 o in
    round handed
    (short move ⇒ refuses 4
    ∷ short reset ⇒ refuses 4
    ∷ short (aggregated false) ⇒ refuses 4
    ∷ at 0 (aggregated true) ⇒ saying 0
    ∷ [])
    (left9 1)

-- "Any call but reset and the aggregator's answer: no job out (5)?" It comes before 7, and the move question is asked it too
abbrev pub job_out : Round
job_out =
    let roomless : Operation → Call = λ o. lends store_length 0 o in
    round handed
    (roomless set_coordinator ⇒ refuses 5
    ∷ roomless set_group ⇒ refuses 5
    ∷ roomless results ⇒ refuses 5
    ∷ roomless move ⇒ refuses 5
    ∷ roomless start ⇒ refuses 5
    ∷ roomless (by_process no_packet) ⇒ refuses 5
    ∷ roomless (by_message no_packet) ⇒ refuses 5
    ∷ roomless process_timeout ⇒ refuses 5
    ∷ at 99 (by_process (encode (nonce_response q0))) ⇒ refuses 5
    ∷ roomless (aggregated true) ⇒ saying 0
    ∷ [])
    (left9 1)

abbrev pub reset_job_out : Round
reset_job_out = round handed (lends store_length 0 reset ⇒ nothing_told ∷ at 0 move ⇒ saying 1 ∷ []) (left9 1)

-- "Aggregator's answer: job out (6)?"
abbrev pub no_job_held : Round
no_job_held =
    round gathered
    (at 0 (aggregated true) ⇒ refuses 6
    ∷ at 0 (aggregated false) ⇒ refuses 6
    ∷ at 0 reset ⇒ nothing_told
    ∷ at 0 (aggregated false) ⇒ refuses 6
    ∷ [])
    (left9 1)

-- "Start, `process`, `process_timeout`, `process_message`: answer buffer of at least 19,232 bytes (7)?" It comes before 8, 9, 10 and the
-- timeout
abbrev pub short_room : Round
short_room =
    let short : Operation → Call = λ o. lending 99 true store_length (answer_length - 1) (other o) in
    round (begun ++ (at 0 set_group ∷ []))
    (short start ⇒ refuses 7
    ∷ short (start_signing (record { message = replicate 257 1; signature_type = Frost; root = []; sign_id = None })) ⇒ refuses 7
    ∷ short (by_process no_packet) ⇒ refuses 7
    ∷ short (by_message no_packet) ⇒ refuses 7
    ∷ short (by_message (encode (nonce_response q0))) ⇒ refuses 7
    ∷ short process_timeout ⇒ refuses 7
    ∷ [])
    (left9 1)

-- the others are not asked it
abbrev pub no_room : Round
no_room =
    let roomless : Operation → Call = λ o. lends store_length 0 o in
    round ready
    (roomless (set_key coordinator_key true) ⇒ nothing_told
    ∷ roomless (set_key aggregate_key true) ⇒ nothing_told
    ∷ roomless results ⇒ nothing_told
    ∷ roomless move ⇒ saying 1
    ∷ roomless reset ⇒ nothing_told
    ∷ [])
    (left (ids_of 2 0 0) [] [])

-- the move question: yes or no as a value, which changes nothing
abbrev pub move_question : Round
move_question =
    round begun
    (at 0 move ⇒ saying 0
    ∷ at 0 (can_move (position (NonceGather Frost) [])) ⇒ saying 1
    ∷ at 0 may_idle ⇒ saying 1
    ∷ at 0 (by_message (encode (nonce_response q0))) ⇒ recorded_of 0
    ∷ [])
    (left9 1)

unfoldable pub commissionings : List Round
commissionings =
    ten_signers
    ∷ eleven_signers
    ∷ id_twice
    ∷ sixteen_keys
    ∷ seventeen_keys
    ∷ key_twice
    ∷ sizes_at_most
    ∷ sizes_too_many
    ∷ one_before_two
    ∷ two_before_three
    ∷ no_entry
    ∷ commissioned_again
    ∷ []

unfoldable pub every_call : List Round
every_call =
    uncommissioned4
    ∷ short_store
    ∷ short_store_job_out
    ∷ job_out
    ∷ reset_job_out
    ∷ no_job_held
    ∷ short_room
    ∷ no_room
    ∷ move_question
    ∷ []
