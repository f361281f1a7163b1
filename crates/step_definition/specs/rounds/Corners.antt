-- 01's "Corners, file by file", each as a round of the form of its worked ones. Where nothing else is said the example's configuration is
-- used, and rounds begin at clock 0.
use Rattle.std.specs.Prelude.{Some, None, ℕ, suc, ◌^◌, ◌-◌, true, false, List, [], ◌∷◌, ◌++◌, replicate}
use Rattle.layout.specs.declared.Ids.{Ids}
use Rattle.layout.specs.declared.SignatureType.TheVariants.{Frost, Schnorr, Taproot, TaprootRoot}
use Rattle.layout.specs.Messages.{NonceResponse, SignatureShare, nonce_request, nonce_response}
use Rattle.step_definition.specs.Configuration.{Config, SignerConfig}
use Rattle.step_definition.specs.Calls.{Call}
use Rattle.step_definition.specs.Calls.{take_results, process_timeout, aggregated, reset}
use Rattle.step_definition.specs.rounds.Rounds.{signer, configuration, three, at, sends, processes, starts, ids_of, ids, nine, five, root, good}
use Rattle.step_definition.specs.rounds.Rounds.{response_of, respond, q0, q1, q2, under, to, answers, share, shares_of, shares, shares0, shares1}
use Rattle.step_definition.specs.rounds.Rounds.{request, request9, share_request, shares9, job_of, job9, ready_of, begun_of, ready, begun, gathered}
use Rattle.step_definition.specs.rounds.Rounds.{nothing_told, refuses, refuses_with, fails, nonces_asked, retried_with, recorded_of, shares_asked, taken_of, job_given, nonces_late, insufficient}
use Rattle.step_definition.specs.rounds.Rounds.{◌⇒◌, left, left9, Round, round}

abbrev all : List ℕ
all = 0 ∷ 1 ∷ 2 ∷ []

-- coordinator/mod.rs.
-- "`threshold` limits exclusion, `sign_threshold` ends nonce gathering ... they needn't be" equal: 2 and 3
abbrev looser : Config
looser = configuration 4 2 3 (Some 10) (Some 10) three true

-- 2 keys don't end gathering
abbrev pub sign_threshold_of : Round
sign_threshold_of = round (begun_of looser all) (answers 0 q0 ⇒ recorded_of 0 ∷ answers 0 q2 ⇒ recorded_of 2 ∷ []) (left9 1)

-- only 1 silent: 4 − 2 = 2 keys are enough to retry
abbrev pub threshold : Round
threshold =
    round (begun_of looser all ++ (answers 0 q0 ∷ answers 0 q1 ∷ shares0 ∷ []))
    (at 11 process_timeout ⇒ retried_with (1 ∷ []) (request9 2) ∷ [])
    (left (ids 2) nine (1 ∷ []))

-- fire.rs, timeouts.
-- "None never fires"
abbrev pub no_timeouts : Round
no_timeouts =
    round (begun_of (configuration 4 3 3 None None three true) all)
    (answers 0 q0 ⇒ recorded_of 0
    ∷ at 1000000 process_timeout ⇒ nothing_told
    ∷ answers 0 q1 ⇒ shares_asked 1 (shares9 (q0 ∷ q1 ∷ []))
    ∷ at 1000000 process_timeout ⇒ nothing_told
    ∷ [])
    (left9 1)

-- "A timeout fires only where elapsed > timeout": nonces within 10 of their request, shares within 20 of theirs
abbrev pub own_clocks : Round
own_clocks =
    round (ready_of (configuration 4 3 3 (Some 10) (Some 20) three true) all ++ (starts 5 nine Frost [] None ∷ []))
    (answers 6 q0 ⇒ recorded_of 0
    ∷ at 15 process_timeout ⇒ nothing_told
    ∷ at 16 process_timeout ⇒ nonces_late (0 ∷ []) []
    ∷ answers 40 q1 ⇒ shares_asked 1 (shares9 (q0 ∷ q1 ∷ []))
    ∷ at 60 process_timeout ⇒ nothing_told
    ∷ at 61 process_timeout ⇒ insufficient (0 ∷ 1 ∷ []) (0 ∷ 1 ∷ [])
    ∷ [])
    (left (ids 1) nine (0 ∷ 1 ∷ []))

-- "backward counts as elapsed 0", and elapsed 0 is not more than timeout 0
abbrev pub backward : Round
backward =
    round (ready_of (configuration 4 3 3 (Some 0) (Some 0) three true) all ++ (starts 50 nine Frost [] None ∷ []))
    (answers 50 q0 ⇒ recorded_of 0
    ∷ at 3 process_timeout ⇒ nothing_told
    ∷ at 50 process_timeout ⇒ nothing_told
    ∷ at 51 process_timeout ⇒ nonces_late (0 ∷ []) []
    ∷ answers 50 q1 ⇒ shares_asked 1 (shares9 (q0 ∷ q1 ∷ []))
    ∷ at 3 process_timeout ⇒ nothing_told
    ∷ at 51 process_timeout ⇒ insufficient (0 ∷ 1 ∷ []) (0 ∷ 1 ∷ [])
    ∷ [])
    (left (ids 1) nine (0 ∷ 1 ∷ []))

-- "When it yields a packet, a result or an error, `process` drops the inbound packet": a result, each time; `process_message` takes the
-- packet
abbrev pub drops_for_result : Round
drops_for_result =
    round (begun ++ (answers 0 q0 ∷ []))
    (processes 11 (nonce_response q2) ⇒ nonces_late (0 ∷ []) []
    ∷ processes 12 (nonce_response q2) ⇒ nonces_late (0 ∷ []) []
    ∷ answers 12 q2 ⇒ recorded_of 2
    ∷ at 12 process_timeout ⇒ nonces_late (0 ∷ 2 ∷ []) []
    ∷ [])
    (left9 1)

-- an error
abbrev pub drops_for_error : Round
drops_for_error = round begun (processes 11 (nonce_response q0) ⇒ refuses 12 ∷ at 11 process_timeout ⇒ refuses 12 ∷ []) (left9 1)

-- a packet: 0's shares come too late
abbrev pub drops_for_packet : Round
drops_for_packet =
    round (gathered ++ (shares1 ∷ []))
    (processes 11 (shares_of (ids 1) 0 (share 0 (1 ∷ []) ∷ [])) ⇒ retried_with (0 ∷ []) (request9 2) ∷ [])
    (left (ids 2) nine (0 ∷ []))

-- where it yields nothing, `process` takes the packet
abbrev pub in_time : Round
in_time =
    round ready
    (processes 99 (nonce_request (request9 1)) ⇒ nonces_asked (request9 1)
    ∷ processes 109 (nonce_response q0) ⇒ recorded_of 0
    ∷ processes 109 (nonce_response q1) ⇒ shares_asked 1 (shares9 (q0 ∷ q1 ∷ []))
    ∷ processes 119 (shares_of (ids 1) 0 (share 0 (1 ∷ []) ∷ [])) ⇒ taken_of 0
    ∷ [])
    (left9 1)

-- "Nonce timeout with no record for the current message is MissingMessageNonceInfo": one for another message doesn't help
abbrev pub record_of_another : Round
record_of_another = round begun (answers 0 (to five q0) ⇒ recorded_of 0 ∷ at 11 process_timeout ⇒ refuses 12 ∷ []) (left9 1)

-- "else NonceTimeout with that record's waiters", ascending
abbrev pub waiters_of_current : Round
waiters_of_current =
    round begun
    (answers 0 (to five q1) ⇒ recorded_of 1
    ∷ answers 0 q2 ⇒ recorded_of 2
    ∷ answers 0 q0 ⇒ recorded_of 0
    ∷ at 11 process_timeout ⇒ nonces_late (0 ∷ 2 ∷ []) []
    ∷ [])
    (left9 1)

-- after 0 and 1 were gathered and 0 stayed silent: retried at clock 11, 0 malicious
abbrev retry : List Call
retry = gathered ++ (shares1 ∷ at 11 process_timeout ∷ [])

-- "and the struck": the retry's clock runs from the retry on
abbrev pub late_with_malicious : Round
late_with_malicious =
    round retry
    (answers 11 (under (ids 2) q0) ⇒ nothing_told
    ∷ answers 11 (under (ids 2) q2) ⇒ recorded_of 2
    ∷ at 21 process_timeout ⇒ nothing_told
    ∷ at 22 process_timeout ⇒ nonces_late (2 ∷ []) (0 ∷ [])
    ∷ [])
    (left (ids 2) nine (0 ∷ []))

-- "Share timeout strikes every waiter."
abbrev pub every_waiter : Round
every_waiter =
    round gathered
    (at 11 process_timeout ⇒ insufficient (0 ∷ 1 ∷ []) (0 ∷ 1 ∷ []) ∷ [])
    (left (ids 1) nine (0 ∷ 1 ∷ []))

-- "Then num_keys − struck keys < `threshold` is InsufficientSigners": all the malicious, not only this timeout's. Four signers with
-- a key each, both thresholds 2; three timeouts
abbrev four : List SignerConfig
four = signer 0 (1 ∷ []) ∷ signer 1 (2 ∷ []) ∷ signer 2 (3 ∷ []) ∷ signer 3 (4 ∷ []) ∷ []

abbrev fourth : ℕ → ℕ → NonceResponse
fourth iteration id = response_of (ids iteration) id nine (suc id ∷ []) (good ∷ [])

abbrev pub three_exclusions : Round
three_exclusions =
    round (begun_of (configuration 4 2 2 (Some 10) (Some 10) four true) (0 ∷ 1 ∷ 2 ∷ 3 ∷ []))
    (answers 0 (fourth 1 0) ⇒ recorded_of 0
    ∷ answers 0 (fourth 1 1) ⇒ shares_asked 1 (share_request (ids 1) nine Frost [] (fourth 1 0 ∷ fourth 1 1 ∷ []))
    ∷ sends 0 (shares_of (ids 1) 1 (share 1 (2 ∷ []) ∷ [])) ⇒ taken_of 1
    ∷ at 11 process_timeout ⇒ retried_with (0 ∷ []) (request9 2)
    ∷ answers 11 (fourth 2 1) ⇒ recorded_of 1
    ∷ answers 11 (fourth 2 2) ⇒ shares_asked 2 (share_request (ids 2) nine Frost [] (fourth 2 1 ∷ fourth 2 2 ∷ []))
    ∷ sends 11 (shares_of (ids 2) 2 (share 2 (3 ∷ []) ∷ [])) ⇒ taken_of 2
    ∷ at 22 process_timeout ⇒ retried_with (1 ∷ []) (request9 3)
    ∷ answers 22 (fourth 3 3) ⇒ recorded_of 3
    ∷ answers 22 (fourth 3 2) ⇒ shares_asked 2 (share_request (ids 3) nine Frost [] (fourth 3 2 ∷ fourth 3 3 ∷ []))
    ∷ sends 22 (shares_of (ids 3) 3 (share 3 (4 ∷ []) ∷ [])) ⇒ taken_of 3
    ∷ at 33 process_timeout ⇒ insufficient (2 ∷ []) (0 ∷ 1 ∷ 2 ∷ [])
    ∷ [])
    (left (ids 3) nine (0 ∷ 1 ∷ 2 ∷ []))

-- "state kept, strikes kept": the timeout fires again and excludes nobody anew; 1 is still waited for, and its shares complete the job
abbrev pub insufficient_again : Round
insufficient_again =
    round (gathered ++ (shares0 ∷ []))
    (at 11 process_timeout ⇒ insufficient (1 ∷ []) (1 ∷ [])
    ∷ processes 12 (shares_of (ids 1) 1 (share 1 (2 ∷ 3 ∷ []) ∷ [])) ⇒ insufficient [] (1 ∷ [])
    ∷ shares1 ⇒ job_given 1 true (job9 (share 0 (1 ∷ []) ∷ share 1 (2 ∷ 3 ∷ []) ∷ []))
    ∷ [])
    (left (ids 1) nine (1 ∷ []))

-- 0 {1, 2} and 1 {2, 3} share a key: gathering counts different keys (3, not 4), exclusion adds sizes (5 − 4 = 1, not 5 − 3)
abbrev pub shared_key : Round
shared_key =
    let r0 = respond 0 (1 ∷ 2 ∷ []) good in
    let r1 = respond 1 (2 ∷ 3 ∷ []) good in
    round
    (begun_of
    (configuration 5 2 4 (Some 10) (Some 10) (signer 0 (1 ∷ 2 ∷ []) ∷ signer 1 (2 ∷ 3 ∷ []) ∷ signer 2 (4 ∷ []) ∷ []) true)
    all)
    (answers 0 r0 ⇒ recorded_of 0
    ∷ answers 0 r1 ⇒ recorded_of 1
    ∷ answers 0 q2 ⇒ shares_asked 2 (shares9 (r0 ∷ r1 ∷ q2 ∷ []))
    ∷ shares 0 2 (4 ∷ []) ⇒ taken_of 2
    ∷ at 11 process_timeout ⇒ insufficient (0 ∷ 1 ∷ []) (0 ∷ 1 ∷ [])
    ∷ [])
    (left (ids 1) nine (0 ∷ 1 ∷ []))

-- fire.rs, starts.
-- "`start_signing_round` stores message and sign id before the state check, so a refused start leaves both changed": another type
abbrev pub refused_start : Round
refused_start =
    round gathered
    (starts 0 five Schnorr [] (Some 7) ⇒ refuses 11 ∷ shares0 ⇒ nothing_told ∷ [])
    (left (ids_of 1 7 1) five [])

-- without an id the next one, wrapping; in NonceGather every start is refused
abbrev pub refused_start_next : Round
refused_start_next =
    round (ready ++ (starts 0 nine Frost [] (Some (2 ^ 64 - 1)) ∷ []))
    (starts 0 five Frost [] None ⇒ refuses 11 ∷ starts 0 nine Frost [] None ⇒ refuses 11 ∷ [])
    (left (ids_of 1 1 1) nine [])

abbrev pub refused_start_wraps : Round
refused_start_wraps =
    round (ready ++ (starts 0 nine Frost [] (Some (2 ^ 64 - 1)) ∷ []))
    (starts 0 five Frost [] None ⇒ refuses 11 ∷ answers 0 (under (ids_of 1 0 1) q0) ⇒ recorded_of 0 ∷ [])
    (left (ids_of 1 0 1) five [])

-- the current message has no record: shares come to nothing and a timeout is 12, which excludes nobody
abbrev pub unrecorded_message : Round
unrecorded_message =
    round gathered
    (starts 0 five Schnorr [] (Some 1) ⇒ refuses 11
    ∷ shares0 ⇒ nothing_told
    ∷ at 11 process_timeout ⇒ refuses 12
    ∷ [])
    (left (ids 1) five [])

-- it has one: shares go on for it, under the state's type; the job has fewer keys than sign_threshold
abbrev pub other_record : Round
other_record =
    round (begun ++ (answers 0 (to five q0) ∷ answers 0 q0 ∷ answers 0 q1 ∷ []))
    (starts 0 five Schnorr [] (Some 1) ⇒ refuses 11
    ∷ shares0 ⇒ job_given 0 true (job_of (ids 1) five Frost [] (1 ∷ []) (good ∷ []) (share 0 (1 ∷ []) ∷ []))
    ∷ [])
    (left (ids 1) five [])

-- the sign id is another: signers that answer the share request get 17, and the timeout excludes them
abbrev pub answered_and_malicious : Round
answered_and_malicious =
    round gathered
    (starts 0 nine Schnorr [] None ⇒ refuses 11
    ∷ shares0 ⇒ fails 17 (1 ∷ 2 ∷ [])
    ∷ shares1 ⇒ fails 17 (1 ∷ 2 ∷ [])
    ∷ at 11 process_timeout ⇒ insufficient (0 ∷ 1 ∷ []) (0 ∷ 1 ∷ [])
    ∷ [])
    (left (ids_of 1 2 1) nine (0 ∷ 1 ∷ []))

-- those that share under the new sign id are heard, and the job has it
abbrev pub renamed_round : Round
renamed_round =
    let i = ids_of 1 2 1 in
    let s0 = share 0 (1 ∷ []) in
    let s1 = share 1 (2 ∷ 3 ∷ []) in
    round gathered
    (starts 0 nine Schnorr [] (Some 2) ⇒ refuses 11
    ∷ sends 0 (shares_of i 0 (s0 ∷ [])) ⇒ taken_of 0
    ∷ sends 0 (shares_of i 1 (s1 ∷ [])) ⇒ job_given 1 true (job_of i nine Frost [] (1 ∷ 2 ∷ 3 ∷ []) (good ∷ good ∷ []) (s0 ∷ s1 ∷ []))
    ∷ [])
    (left i nine [])

-- a recorded response keeps its own ids: 0 answered under sign id 1, 1 under 2
abbrev pub own_ids : Round
own_ids =
    let q1' = under (ids_of 1 2 1) q1 in
    round (begun ++ (answers 0 q0 ∷ []))
    (starts 0 nine Frost [] (Some 2) ⇒ refuses 11
    ∷ answers 0 q1' ⇒ shares_asked 1 (share_request (ids_of 1 2 1) nine Frost [] (q0 ∷ q1' ∷ []))
    ∷ [])
    (left (ids_of 1 2 1) nine [])

-- shares that are held already stay, and no job comes of it though nobody waits: 0 answered messages 5 and 9 and shares for both
abbrev pub shares_held : Round
shares_held =
    let other : SignatureShare = record { id = 0; z_i = replicate 32 8; key_ids = 1 ∷ [] } in
    round (begun ++ (answers 0 (to five q0) ∷ answers 0 q0 ∷ answers 0 q1 ∷ []))
    (shares0 ⇒ taken_of 0
    ∷ starts 0 five Schnorr [] (Some 1) ⇒ refuses 11
    ∷ sends 0 (shares_of (ids 1) 0 (other ∷ [])) ⇒ nothing_told
    ∷ at 0 (aggregated true) ⇒ refuses 6
    ∷ starts 0 nine Schnorr [] (Some 1) ⇒ refuses 11
    ∷ shares1 ⇒ job_given 1 true (job9 (share 0 (1 ∷ []) ∷ share 1 (2 ∷ 3 ∷ []) ∷ []))
    ∷ [])
    (left9 1)

-- a start is taken while shares of its own type, and root, are gathered
abbrev pub start_again : Round
start_again =
    round gathered
    (starts 3 five Frost [] None ⇒ nonces_asked (request (ids_of 1 2 2) five Frost []) ∷ shares0 ⇒ nothing_told ∷ [])
    (left (ids_of 1 2 2) five [])

abbrev pub root_compared : Round
root_compared =
    round (ready ++ (starts 0 nine TaprootRoot root None ∷ answers 0 q0 ∷ answers 0 q1 ∷ []))
    (starts 0 nine TaprootRoot (replicate 32 5) (Some 1) ⇒ refuses 11
    ∷ starts 0 nine Taproot [] (Some 1) ⇒ refuses 11
    ∷ starts 0 nine TaprootRoot root (Some 1) ⇒ nonces_asked (request (ids 2) nine TaprootRoot root)
    ∷ [])
    (left9 2)

-- no start sets the iteration back
abbrev pub iteration_goes_on : Round
iteration_goes_on =
    round (begun ++ (at 0 reset ∷ []))
    (starts 0 nine Frost [] None ⇒ nonces_asked (request (ids_of 1 2 2) nine Frost []) ∷ [])
    (left (ids_of 1 2 2) nine [])

-- fire.rs, Idle.
-- "An Idle NonceRequest with the current sign id does nothing.", whatever else it carries
abbrev pub current_sign_id : Round
current_sign_id = round ready (sends 0 (nonce_request (request (ids_of 7 0 5) five Schnorr [])) ⇒ nothing_told ∷ []) (left (ids_of 1 0 0) [] [])

-- "Another sets the iteration to its number minus 1 ... Its dkg id is not compared.", and the request that leaves has the current one
abbrev pub another_sign_id : Round
another_sign_id =
    round ready
    (sends 0 (nonce_request (request (ids_of 7 5 4) five TaprootRoot root)) ⇒ nonces_asked (request (ids_of 1 5 4) five TaprootRoot root) ∷ [])
    (left (ids_of 1 5 4) five [])

-- another is any other, also a smaller one
abbrev pub smaller_sign_id : Round
smaller_sign_id =
    round (ready ++ (starts 0 nine Frost [] (Some 7) ∷ at 0 reset ∷ []))
    (sends 0 (nonce_request (request (ids_of 1 3 9) five Frost [])) ⇒ nonces_asked (request (ids_of 1 3 9) five Frost []) ∷ [])
    (left (ids_of 1 3 9) five [])

-- "`request_nonces` adds 1, wrapping": a retry after iteration 2^64 − 1
abbrev pub iteration_wraps : Round
iteration_wraps =
    let highest = 2 ^ 64 - 1 in
    round
    (ready
    ++ (sends 0 (nonce_request (request9 highest))
    ∷ answers 0 (under (ids highest) q0)
    ∷ answers 0 (under (ids highest) q1)
    ∷ shares1
    ∷ []))
    (at 11 process_timeout ⇒ retried_with (0 ∷ []) (request9 0) ∷ [])
    (left (ids 0) nine (0 ∷ []))

-- fire.rs, gathering.
-- "The number of nonces is not compared with anything." Lists leave as they were sent
abbrev pub nonces_not_counted : Round
nonces_not_counted =
    let none0 = response_of (ids 1) 0 nine (1 ∷ []) [] in
    let more1 = response_of (ids 1) 1 nine (3 ∷ 2 ∷ 3 ∷ []) (good ∷ good ∷ good ∷ []) in
    round begun (answers 0 none0 ⇒ recorded_of 0 ∷ answers 0 more1 ⇒ shares_asked 1 (shares9 (none0 ∷ more1 ∷ [])) ∷ []) (left9 1)

-- "The answered message replaces the current one when its keys suffice; retries use it."
abbrev pub answered_replaces : Round
answered_replaces =
    round (begun_of (configuration 4 1 3 (Some 10) (Some 10) three true) all)
    (answers 0 (to five q0) ⇒ recorded_of 0
    ∷ answers 0 (to five q1) ⇒ shares_asked 1 (share_request (ids 1) five Frost [] (to five q0 ∷ to five q1 ∷ []))
    ∷ at 11 process_timeout ⇒ retried_with (0 ∷ 1 ∷ []) (request (ids 2) five Frost [])
    ∷ [])
    (left (ids 2) five (0 ∷ 1 ∷ []))

-- after a retry shares are asked for and taken anew: 1 had shared in the first iteration
abbrev pub shares_anew : Round
shares_anew =
    let i = ids 2 in
    let s1 = share 1 (2 ∷ 3 ∷ []) in
    let s2 = share 2 (4 ∷ []) in
    round retry
    (answers 11 (under i q2) ⇒ recorded_of 2
    ∷ answers 11 (under i q1) ⇒ shares_asked 1 (share_request i nine Frost [] (under i q1 ∷ under i q2 ∷ []))
    ∷ sends 11 (shares_of i 1 (s1 ∷ [])) ⇒ taken_of 1
    ∷ sends 11 (shares_of i 2 (s2 ∷ [])) ⇒ job_given 2 true (job_of i nine Frost [] (2 ∷ 3 ∷ 4 ∷ []) (good ∷ good ∷ []) (s1 ∷ s2 ∷ []))
    ∷ [])
    (left i nine (0 ∷ []))

-- "Share responses: waiting is tested before the ids": 2 isn't waited for
abbrev pub waiting_first : Round
waiting_first = round gathered (sends 0 (shares_of (ids_of 7 7 7) 2 (share 2 (4 ∷ []) ∷ [])) ⇒ nothing_told ∷ []) (left9 1)

-- "the iteration never"; dkg id before sign id. Neither error costs the waiter, and both are results
abbrev pub share_ids : Round
share_ids =
    let from0 : Ids → Call = λ i. sends 0 (shares_of i 0 (share 0 (1 ∷ []) ∷ [])) in
    round gathered
    (from0 (ids_of 7 8 9) ⇒ fails 16 (7 ∷ 1 ∷ [])
    ∷ from0 (ids_of 1 8 9) ⇒ fails 17 (8 ∷ 1 ∷ [])
    ∷ from0 (ids_of 1 1 9) ⇒ taken_of 0
    ∷ [])
    (left9 1)

-- "The waiter is removed before the key comparison.": after 22 good shares come to nothing, and the timeout excludes only 0
abbrev pub waiter_removed : Round
waiter_removed =
    round gathered
    (shares 0 1 (2 ∷ []) ⇒ fails 22 (1 ∷ []) ∷ shares1 ⇒ nothing_told ∷ at 11 process_timeout ⇒ retried_with (0 ∷ []) (request9 2) ∷ [])
    (left (ids 2) nine (0 ∷ []))

-- and they are not kept: 0's shares complete the job, which is without 1's and not whole
abbrev pub refused_not_kept : Round
refused_not_kept =
    round gathered
    (shares 0 1 (2 ∷ []) ⇒ fails 22 (1 ∷ []) ∷ shares1 ⇒ nothing_told ∷ shares0 ⇒ job_given 0 false (job9 (share 0 (1 ∷ []) ∷ [])) ∷ [])
    (left9 1)

-- "num_keys − struck keys": num_keys, and not the sizes of the sets together, which are 4. Only 1 silent: 5 − 2 = 3, retry
abbrev pub spare_key : Round
spare_key =
    round (begun_of (configuration 5 3 3 (Some 10) (Some 10) three true) all ++ (answers 0 q0 ∷ answers 0 q1 ∷ shares0 ∷ []))
    (at 11 process_timeout ⇒ retried_with (1 ∷ []) (request9 2) ∷ [])
    (left (ids 2) nine (1 ∷ []))

-- the last waiter too can be removed with no job; a timeout then excludes nobody
abbrev pub nobody_waits : Round
nobody_waits =
    round gathered
    (shares0 ⇒ taken_of 0
    ∷ shares 0 1 [] ⇒ fails 22 (1 ∷ [])
    ∷ at 0 (aggregated true) ⇒ refuses 6
    ∷ at 11 process_timeout ⇒ retried_with [] (request9 2)
    ∷ [])
    (left9 2)

-- "Nonce errors are Err; share errors are `SignError::Coordinator` results."
abbrev pub nonce_ids : Round
nonce_ids =
    round begun
    (answers 0 (under (ids_of 7 8 9) q0) ⇒ refuses_with 16 (7 ∷ 1 ∷ [])
    ∷ answers 0 (under (ids_of 1 8 9) q0) ⇒ refuses_with 17 (8 ∷ 1 ∷ [])
    ∷ answers 0 (under (ids_of 1 1 9) q0) ⇒ refuses_with 18 (9 ∷ 1 ∷ [])
    ∷ answers 0 q0 ⇒ recorded_of 0
    ∷ [])
    (left9 1)

-- "After an aggregator error nobody waits; the state stays SigShareGather."
abbrev pub aggregator_error : Round
aggregator_error =
    round (gathered ++ (shares0 ∷ shares1 ∷ at 0 (aggregated false) ∷ []))
    (shares0 ⇒ nothing_told
    ∷ starts 0 nine Schnorr [] (Some 1) ⇒ refuses 11
    ∷ at 11 process_timeout ⇒ retried_with [] (request9 2)
    ∷ [])
    (left9 2)

-- fire.rs, reset.
-- "`reset` empties `dkg_end_messages`": no response is recorded; it keeps both keys, the ids and the message
abbrev pub reset_ends : Round
reset_ends =
    round (gathered ++ (at 0 reset ∷ []))
    (at 99 process_timeout ⇒ nothing_told
    ∷ starts 0 nine Frost [] None ⇒ nonces_asked (request (ids_of 1 2 2) nine Frost [])
    ∷ answers 0 (under (ids_of 1 2 2) q0) ⇒ nothing_told
    ∷ at 11 process_timeout ⇒ refuses 12
    ∷ [])
    (left (ids_of 1 2 2) nine [])

abbrev pub reset_keeps : Round
reset_keeps = round retry (at 11 reset ⇒ nothing_told ∷ []) (left (ids 2) nine (0 ∷ []))

-- and the malicious list: 0 stays malicious when key generation has ended anew
abbrev pub reset_keeps_malicious : Round
reset_keeps_malicious =
    round (retry ++ (at 11 reset ∷ at 11 (take_results 1 all) ∷ starts 11 nine Frost [] (Some 1) ∷ []))
    (answers 11 (under (ids 3) q0) ⇒ nothing_told ∷ answers 11 (under (ids 3) q1) ⇒ recorded_of 1 ∷ [])
    (left (ids 3) nine (0 ∷ []))

-- "Here it also drops a job that is out"
abbrev pub reset_drops_job : Round
reset_drops_job =
    round (gathered ++ (shares0 ∷ shares1 ∷ []))
    (at 0 reset ⇒ nothing_told
    ∷ at 0 (aggregated true) ⇒ refuses 6
    ∷ starts 0 nine Frost [] (Some 1) ⇒ nonces_asked (request9 2)
    ∷ answers 0 (under (ids 2) q0) ⇒ nothing_told
    ∷ [])
    (left9 2)

-- coordinator/mod.rs and timeouts
abbrev timeout_rounds : List Round
timeout_rounds =
    sign_threshold_of
    ∷ threshold
    ∷ no_timeouts
    ∷ own_clocks
    ∷ backward
    ∷ drops_for_result
    ∷ drops_for_error
    ∷ drops_for_packet
    ∷ in_time
    ∷ record_of_another
    ∷ waiters_of_current
    ∷ late_with_malicious
    ∷ every_waiter
    ∷ three_exclusions
    ∷ insufficient_again
    ∷ shared_key
    ∷ []

-- starts
abbrev start_rounds : List Round
start_rounds =
    refused_start
    ∷ refused_start_next
    ∷ refused_start_wraps
    ∷ unrecorded_message
    ∷ other_record
    ∷ answered_and_malicious
    ∷ renamed_round
    ∷ own_ids
    ∷ shares_held
    ∷ start_again
    ∷ root_compared
    ∷ iteration_goes_on
    ∷ []

-- messages, the aggregator's answer and reset
abbrev message_rounds : List Round
message_rounds =
    current_sign_id
    ∷ another_sign_id
    ∷ smaller_sign_id
    ∷ iteration_wraps
    ∷ nonces_not_counted
    ∷ answered_replaces
    ∷ shares_anew
    ∷ waiting_first
    ∷ share_ids
    ∷ waiter_removed
    ∷ refused_not_kept
    ∷ spare_key
    ∷ nobody_waits
    ∷ nonce_ids
    ∷ aggregator_error
    ∷ reset_ends
    ∷ reset_keeps
    ∷ reset_keeps_malicious
    ∷ reset_drops_job
    ∷ []

unfoldable pub corners : List Round
corners = timeout_rounds ++ start_rounds ++ message_rounds
