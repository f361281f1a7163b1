-- "The questions, in order", those that belong to a call's own work (8 to 25): each with what comes before it, what it answers and what it
-- leaves.
use Rattle.std.specs.Prelude.{Some, None, ℕ, ◌^◌, ◌-◌, Bool, true, false, List, [], ◌∷◌, ◌++◌, replicate}
use Rattle.layout.specs.Limits.{store_length, answer_length}
use Rattle.layout.specs.declared.SignatureType.TheVariants.{Frost, Schnorr}
use Rattle.layout.specs.Messages.{NonceResponse, Message, nonce_request, nonce_response, signature_share_request, dkg_begin, dkg_signer, dkg_coordinator}
use Rattle.layout.specs.Encode.{encode, encode_nonce_timeout}
use Rattle.validity.specs.Nonces.{identity, generator}
use Rattle.step_definition.specs.Configuration.{Config, SignerConfig}
use Rattle.step_definition.specs.Calls.{process, process_message, coordinator_key, aggregate_key, commission, Call, other}
use Rattle.step_definition.specs.Calls.{set_key, take_results, receive, process_timeout, aggregated, reset}
use Rattle.step_definition.specs.Calls.{error, recorded}
use Rattle.step_definition.specs.rounds.Rounds.{signer, configuration, three, lending, calling, at, sends, processes, starts, ids_of, ids, nine, five}
use Rattle.step_definition.specs.rounds.Rounds.{point, nonce, good, response_of, respond, q0, q1, q2, under, to, answers, share, shares_of, shares}
use Rattle.step_definition.specs.rounds.Rounds.{shares0, shares1, request, request9, share_request, shares9, job9, ready_of, begun_of, ready, begun}
use Rattle.step_definition.specs.rounds.Rounds.{gathered, tells, nothing_told, refuses, refuses_with, fails, nonces_asked, retried_with, recorded_of}
use Rattle.step_definition.specs.rounds.Rounds.{shares_asked, taken_of, job_given, nonces_late, ◌⇒◌, left, left9, Round, round}
use Rattle.step_definition.specs.rounds.Rounds.{numbered}

abbrev all : List ℕ
all = 0 ∷ 1 ∷ 2 ∷ []

-- the group key cleared, and held again
abbrev group_cleared : Call
group_cleared = at 0 (set_key aggregate_key false)

abbrev group_held : Call
group_held = at 0 (set_key aggregate_key true)

-- 8 and 9.
-- "A refused packet is refused before any timeout is tested": 8 and 9 on a late clock exclude nobody
abbrev pub bad_packets : Round
bad_packets =
    round gathered
    (at 11 (receive process (1 ∷ [])) ⇒ refuses 8
    ∷ at 11 (receive process_message (1 ∷ [])) ⇒ refuses 8
    ∷ at 11 (receive process (encode_nonce_timeout [] [])) ⇒ refuses 8
    ∷ processes 11 (nonce_response (to (replicate 257 1) q0)) ⇒ refuses 9
    ∷ sends 11 (nonce_response (to (replicate 257 1) q0)) ⇒ refuses 9
    ∷ [])
    (left9 1)

-- both come before 13
abbrev pub bad_packet_unverified : Round
bad_packet_unverified =
    round (begun ++ (at 0 (set_key coordinator_key false) ∷ []))
    (at 0 (receive process_message (1 ∷ [])) ⇒ refuses 8
    ∷ answers 0 (to (replicate 257 1) q0) ⇒ refuses 9
    ∷ answers 0 q0 ⇒ refuses 13
    ∷ [])
    (left9 1)

-- "Packet or start: message ≤ 256 bytes": of a start before 10
abbrev pub long_messages : Round
long_messages =
    round (ready ++ (group_cleared ∷ []))
    (starts 0 (replicate 257 1) Frost [] None ⇒ refuses 9
    ∷ starts 0 (replicate 256 1) Frost [] None ⇒ refuses 10
    ∷ group_held ⇒ nothing_told
    ∷ starts 0 (replicate 257 1) Frost [] None ⇒ refuses 9
    ∷ starts 0 (replicate 256 1) Frost [] None ⇒ nonces_asked (request (ids 1) (replicate 256 1) Frost [])
    ∷ answers 0 (to (replicate 257 1) q0) ⇒ refuses 9
    ∷ answers 0 (to (replicate 256 1) q0) ⇒ recorded_of 0
    ∷ [])
    (left (ids 1) (replicate 256 1) [])

-- Start.
-- "group key held (10)?" comes before 11, and on a start call nothing is changed
abbrev pub start_unheld : Round
start_unheld = round (ready ++ (group_cleared ∷ [])) (starts 0 nine Frost [] None ⇒ refuses 10 ∷ []) (left (ids_of 1 0 0) [] [])

abbrev pub start_unheld_gathering : Round
start_unheld_gathering = round (begun ++ (group_cleared ∷ [])) (starts 0 five Schnorr [] (Some 7) ⇒ refuses 10 ∷ []) (left9 1)

-- a start without an id takes the next one, wrapping
abbrev pub sign_id_wraps : Round
sign_id_wraps =
    round ready
    (starts 0 nine Frost [] (Some (2 ^ 64 - 1)) ⇒ nonces_asked (request (ids_of 1 (2 ^ 64 - 1) 1) nine Frost [])
    ∷ at 0 reset ⇒ nothing_told
    ∷ starts 0 nine Frost [] None ⇒ nonces_asked (request (ids_of 1 0 2) nine Frost [])
    ∷ [])
    (left (ids_of 1 0 2) nine [])

-- Message, where verification is on.
-- a message with the host's verdict bad
abbrev forged : Message → Call
forged m = lending 0 false store_length answer_length (other (receive process_message (encode m)))

-- a message of each kind from or about signer 0
abbrev m1 : Message
m1 = nonce_request (request9 1)

abbrev m2 : Message
m2 = nonce_response q0

abbrev m3 : Message
m3 = signature_share_request (shares9 (q0 ∷ []))

abbrev m4 : Message
m4 = shares_of (ids 1) 0 (share 0 (1 ∷ []) ∷ [])

abbrev m5 : Message
m5 = dkg_begin 1

abbrev m6 : Message
m6 = dkg_signer 0 1

abbrev m7 : Message
m7 = dkg_coordinator 1

-- "coordinator key held (13)?": asked of every kind, and before 14
abbrev pub coordinator_unheld : Round
coordinator_unheld =
    round (ready ++ (at 0 (set_key coordinator_key false) ∷ []))
    (forged m1 ⇒ refuses 13
    ∷ sends 0 m2 ⇒ refuses 13
    ∷ sends 0 m3 ⇒ refuses 13
    ∷ sends 0 m4 ⇒ refuses 13
    ∷ sends 0 m5 ⇒ refuses 13
    ∷ sends 0 m6 ⇒ refuses 13
    ∷ sends 0 m7 ⇒ refuses 13
    ∷ processes 0 m1 ⇒ refuses 13
    ∷ at 0 (set_key coordinator_key true) ⇒ nothing_told
    ∷ sends 0 m1 ⇒ nonces_asked (request9 1)
    ∷ [])
    (left9 1)

-- "host verdict good (14)?": asked of every kind
abbrev pub forged_packets : Round
forged_packets =
    round ready
    (forged m1 ⇒ refuses 14
    ∷ forged m2 ⇒ refuses 14
    ∷ forged m3 ⇒ refuses 14
    ∷ forged m4 ⇒ refuses 14
    ∷ forged m5 ⇒ refuses 14
    ∷ forged (dkg_begin 7) ⇒ refuses 14
    ∷ forged m6 ⇒ refuses 14
    ∷ forged m7 ⇒ refuses 14
    ∷ [])
    (left (ids_of 1 0 0) [] [])

-- of `process` both are asked after the timeout
abbrev pub seal_after_timeout : Round
seal_after_timeout =
    let bytes = encode (nonce_response q2) in
    let late : ℕ → Bool → Call = λ now verdict. lending now verdict store_length answer_length (other (receive process bytes)) in
    round (begun ++ (answers 0 q0 ∷ []))
    (late 10 false ⇒ refuses 14
    ∷ late 11 false ⇒ nonces_late (0 ∷ []) []
    ∷ at 0 (set_key coordinator_key false) ⇒ nothing_told
    ∷ late 10 true ⇒ refuses 13
    ∷ late 11 true ⇒ nonces_late (0 ∷ []) []
    ∷ [])
    (left9 1)

-- "Signer configured, for signer kinds (14)?": 0 is not configured, and the kinds of a coordinator, whose signer field is 0, pass. Kind by
-- kind, by either call
abbrev pub zero_unconfigured : Round
zero_unconfigured =
    round (ready_of (configuration 4 3 3 (Some 10) (Some 10) (signer 1 (2 ∷ 3 ∷ []) ∷ signer 2 (4 ∷ []) ∷ []) true) (1 ∷ 2 ∷ []))
    (sends 0 m1 ⇒ nonces_asked (request9 1)
    ∷ sends 0 m2 ⇒ refuses 14
    ∷ sends 0 m3 ⇒ nothing_told
    ∷ sends 0 m4 ⇒ refuses 14
    ∷ sends 0 m5 ⇒ nothing_told
    ∷ sends 0 m6 ⇒ refuses 14
    ∷ sends 0 m7 ⇒ nothing_told
    ∷ processes 0 m1 ⇒ nothing_told
    ∷ processes 0 m2 ⇒ refuses 14
    ∷ processes 0 m3 ⇒ nothing_told
    ∷ processes 0 m4 ⇒ refuses 14
    ∷ processes 0 m5 ⇒ nothing_told
    ∷ processes 0 m6 ⇒ refuses 14
    ∷ processes 0 m7 ⇒ nothing_told
    ∷ sends 0 (dkg_signer 1 1) ⇒ nothing_told
    ∷ [])
    (left9 1)

-- where verification is off neither is asked: no coordinator key, a bad verdict, an unknown signer
abbrev unverified : List SignerConfig → Config
unverified signers = configuration 4 3 3 (Some 10) (Some 10) signers false

abbrev pub verification_off : Round
verification_off =
    round (calling 0 (commission (unverified three)) ∷ group_held ∷ at 0 (take_results 1 all) ∷ [])
    (forged (dkg_signer 7 1) ⇒ nothing_told
    ∷ forged m1 ⇒ nonces_asked (request9 1)
    ∷ forged m2 ⇒ recorded_of 0
    ∷ [])
    (left9 1)

-- a call sets or clears the one key only
abbrev pub keys_apart : Round
keys_apart =
    round ready
    (at 0 (set_key coordinator_key false) ⇒ nothing_told
    ∷ starts 0 nine Frost [] None ⇒ nonces_asked (request9 1)
    ∷ answers 0 q0 ⇒ refuses 13
    ∷ at 0 (set_key aggregate_key false) ⇒ nothing_told
    ∷ at 0 (set_key coordinator_key true) ⇒ nothing_told
    ∷ answers 0 q0 ⇒ recorded_of 0
    ∷ starts 0 nine Frost [] None ⇒ refuses 10
    ∷ [])
    (left9 1)

-- kinds that a state doesn't gather pass 13 and 14 and do nothing, whatever ids they carry
abbrev pub unheard_idle : Round
unheard_idle =
    round ready
    (sends 0 m2 ⇒ nothing_told
    ∷ sends 0 m3 ⇒ nothing_told
    ∷ sends 0 m4 ⇒ nothing_told
    ∷ sends 0 (dkg_signer 0 7) ⇒ nothing_told
    ∷ sends 0 (dkg_coordinator 7) ⇒ nothing_told
    ∷ [])
    (left (ids_of 1 0 0) [] [])

abbrev pub unheard_gathering : Round
unheard_gathering =
    round (begun ++ (answers 0 q0 ∷ []))
    (sends 0 (nonce_request (request (ids_of 1 7 7) five Frost [])) ⇒ nothing_told
    ∷ sends 0 m3 ⇒ nothing_told
    ∷ sends 0 m4 ⇒ nothing_told
    ∷ sends 0 (dkg_begin 7) ⇒ nothing_told
    ∷ sends 0 m6 ⇒ nothing_told
    ∷ sends 0 m7 ⇒ nothing_told
    ∷ [])
    (left9 1)

abbrev pub unheard_sharing : Round
unheard_sharing =
    round gathered
    (sends 0 (nonce_request (request (ids_of 1 7 7) five Frost [])) ⇒ nothing_told
    ∷ sends 0 (nonce_response q2) ⇒ nothing_told
    ∷ sends 0 m3 ⇒ nothing_told
    ∷ sends 0 (dkg_begin 7) ⇒ nothing_told
    ∷ sends 0 m6 ⇒ nothing_told
    ∷ sends 0 m7 ⇒ nothing_told
    ∷ shares0 ⇒ taken_of 0
    ∷ shares1 ⇒ job_given 1 true (job9 (share 0 (1 ∷ []) ∷ share 1 (2 ∷ 3 ∷ []) ∷ []))
    ∷ [])
    (left9 1)

-- Idle.
-- "DkgBegin only with the current dkg id (15)?"
abbrev pub dkg_begins : Round
dkg_begins =
    round ready
    (sends 0 (dkg_begin 1) ⇒ nothing_told
    ∷ sends 0 (dkg_begin 2) ⇒ refuses 15
    ∷ processes 0 (dkg_begin 0) ⇒ refuses 15
    ∷ starts 0 nine Frost [] None ⇒ nonces_asked (request9 1)
    ∷ answers 0 q0 ⇒ recorded_of 0
    ∷ [])
    (left9 1)

-- NonceGather, on a response.
-- "Then silently nothing unless, in this order: configured, key generation ended, key set entry, set equal, nonces valid": 7 is not
-- configured, 2 hasn't ended, 3 has no entry. 4 has an empty set, which an empty list matches
abbrev odd : Config
odd = unverified (three ++ (record { id = 3; key_ids = None } ∷ signer 4 [] ∷ []))

abbrev oddly : List Call
oddly = begun_of odd (0 ∷ 1 ∷ 3 ∷ 4 ∷ [])

abbrev pub silently : Round
silently =
    round oddly
    (answers 0 (respond 7 (1 ∷ []) good) ⇒ nothing_told
    ∷ answers 0 (respond 7 [] good) ⇒ nothing_told
    ∷ answers 0 q2 ⇒ nothing_told
    ∷ answers 0 (respond 3 [] good) ⇒ nothing_told
    ∷ answers 0 (respond 4 (1 ∷ []) good) ⇒ nothing_told
    ∷ answers 0 (respond 4 [] good) ⇒ recorded_of 4
    ∷ answers 0 (respond 0 (1 ∷ 2 ∷ []) good) ⇒ nothing_told
    ∷ answers 0 (respond 0 [] good) ⇒ nothing_told
    ∷ at 11 process_timeout ⇒ nonces_late (4 ∷ []) []
    ∷ [])
    (left9 1)

-- "neither D nor E is identity or G": of every nonce
abbrev pub invalid_nonces : Round
invalid_nonces =
    let with0 : List ℕ → List ℕ → NonceResponse = λ D E. response_of (ids 1) 0 nine (1 ∷ []) (good ∷ nonce D E ∷ []) in
    round begun
    (answers 0 (with0 identity point) ⇒ nothing_told
    ∷ answers 0 (with0 point identity) ⇒ nothing_told
    ∷ answers 0 (with0 generator point) ⇒ nothing_told
    ∷ answers 0 (with0 point generator) ⇒ nothing_told
    ∷ answers 0 (with0 point point) ⇒ recorded_of 0
    ∷ [])
    (left9 1)

-- "not struck" is told with the corners (lateWithMalicious). The ids come before all of these
abbrev pub ids_before_silence : Round
ids_before_silence =
    round oddly
    (answers 0 (under (ids_of 7 1 1) (respond 7 [] good)) ⇒ refuses_with 16 (7 ∷ 1 ∷ [])
    ∷ answers 0 (under (ids_of 1 7 1) q2) ⇒ refuses_with 17 (7 ∷ 1 ∷ [])
    ∷ answers 0 (under (ids 7) (respond 0 [] (nonce identity point))) ⇒ refuses_with 18 (7 ∷ 1 ∷ [])
    ∷ [])
    (left9 1)

-- "Message known or under 4 recorded (19)?": the silent tests come before it, a message that is known passes
abbrev pub four_recorded : Round
four_recorded =
    let one = to (1 ∷ []) q0 in
    let two = to (1 ∷ []) q2 in
    let also = to (1 ∷ []) q1 in
    round (begun ++ (answers 0 one ∷ answers 0 (to (2 ∷ []) q0) ∷ answers 0 (to (3 ∷ []) q0) ∷ answers 0 (to (4 ∷ []) q0) ∷ []))
    (answers 0 (to five q2) ⇒ refuses 19
    ∷ answers 0 (to five (respond 2 [] good)) ⇒ nothing_told
    ∷ answers 0 one ⇒ nothing_told
    ∷ answers 0 two ⇒ recorded_of 2
    ∷ answers 0 also ⇒ shares_asked 1 (share_request (ids 1) (1 ∷ []) Frost [] (one ∷ also ∷ two ∷ []))
    ∷ [])
    (left (ids 1) (1 ∷ []) [])

-- "A second response to one message does nothing.": the first stays
abbrev pub second_response : Round
second_response =
    round (begun ++ (answers 0 q0 ∷ []))
    (answers 0 (respond 0 (1 ∷ []) (nonce (replicate 33 4) point)) ⇒ nothing_told
    ∷ answers 0 q0 ⇒ nothing_told
    ∷ answers 0 q1 ⇒ shares_asked 1 (shares9 (q0 ∷ q1 ∷ []))
    ∷ [])
    (left9 1)

-- one signer may answer several messages, and none counts for another
abbrev pub messages_apart : Round
messages_apart =
    round begun
    (answers 0 (to five q0) ⇒ recorded_of 0
    ∷ answers 0 q1 ⇒ recorded_of 1
    ∷ answers 0 q2 ⇒ shares_asked 2 (shares9 (q1 ∷ q2 ∷ []))
    ∷ [])
    (left9 1)

-- an empty message is a message
abbrev pub empty_message : Round
empty_message =
    round (ready ++ (starts 0 [] Frost [] None ∷ []))
    (answers 0 (to [] q0) ⇒ recorded_of 0
    ∷ at 11 process_timeout ⇒ nonces_late (0 ∷ []) []
    ∷ answers 0 (to [] q1) ⇒ shares_asked 1 (share_request (ids 1) [] Frost [] (to [] q0 ∷ to [] q1 ∷ []))
    ∷ [])
    (left (ids 1) [] [])

-- "Threshold reached: group key held (10)?" The record and the message are kept; a timeout tells that record's waiters; once the key is
-- held again only a new response sends the share request
abbrev pub threshold_unheld : Round
threshold_unheld =
    round (begun ++ (answers 0 (to five q0) ∷ group_cleared ∷ []))
    (answers 0 q2 ⇒ recorded_of 2
    ∷ answers 0 (to five q1) ⇒ tells (numbered error 10 []) (recorded 1 ∷ [])
    ∷ at 11 process_timeout ⇒ nonces_late (0 ∷ 1 ∷ []) []
    ∷ group_held ⇒ nothing_told
    ∷ answers 0 (to five q1) ⇒ nothing_told
    ∷ answers 0 (to five q2) ⇒ shares_asked 2 (share_request (ids 1) five Frost [] (to five q0 ∷ to five q1 ∷ to five q2 ∷ []))
    ∷ [])
    (left (ids 1) five [])

abbrev pub threshold_unheld_left : Round
threshold_unheld_left =
    round (begun ++ (answers 0 (to five q0) ∷ group_cleared ∷ []))
    (answers 0 (to five q1) ⇒ tells (numbered error 10 []) (recorded 1 ∷ []) ∷ [])
    (left (ids 1) five [])

-- the retry doesn't ask for the group key
abbrev pub retry_unheld : Round
retry_unheld =
    round (gathered ++ (shares1 ∷ group_cleared ∷ []))
    (at 11 process_timeout ⇒ retried_with (0 ∷ []) (request9 2) ∷ [])
    (left (ids 2) nine (0 ∷ []))

-- SigShareGather, on a waiter's response.
-- "Set equal (22)?": over all of its shares
abbrev pub two_shares : Round
two_shares =
    round gathered
    (sends 0 (shares_of (ids 1) 1 (share 1 (3 ∷ []) ∷ share 1 (2 ∷ 3 ∷ []) ∷ [])) ⇒ taken_of 1
    ∷ shares 0 0 (1 ∷ 2 ∷ []) ⇒ fails 22 (0 ∷ [])
    ∷ [])
    (left9 1)

abbrev pub two_shares_wrong : Round
two_shares_wrong =
    round gathered
    (sends 0 (shares_of (ids 1) 1 (share 1 (3 ∷ []) ∷ share 1 (3 ∷ []) ∷ [])) ⇒ fails 22 (1 ∷ [])
    ∷ sends 0 (shares_of (ids 1) 0 []) ⇒ fails 22 (0 ∷ [])
    ∷ [])
    (left9 1)

-- Aggregator's answer: "success (23)?"
abbrev pub aggregator_fails : Round
aggregator_fails =
    round (gathered ++ (shares0 ∷ shares1 ∷ []))
    (at 0 (aggregated false) ⇒ fails 23 [] ∷ at 0 (aggregated true) ⇒ refuses 6 ∷ [])
    (left9 1)

-- Taking key-generation results.
-- "state Idle (24)?" comes before 25
abbrev pub results_gathering : Round
results_gathering =
    round begun
    (at 0 (take_results 2 (0 ∷ [])) ⇒ refuses 24
    ∷ at 0 (take_results 2 (7 ∷ [])) ⇒ refuses 24
    ∷ answers 0 q1 ⇒ recorded_of 1
    ∷ [])
    (left9 1)

-- "At most 10 ids, repeats counted, all configured (25)?"
abbrev pub results_limits : Round
results_limits =
    round ready
    (at 0 (take_results 3 (replicate 11 0)) ⇒ refuses 25
    ∷ at 0 (take_results 4 (0 ∷ 7 ∷ [])) ⇒ refuses 25
    ∷ at 0 (take_results 2 (replicate 10 0)) ⇒ nothing_told
    ∷ at 0 (take_results 3 (replicate 11 0)) ⇒ refuses 25
    ∷ [])
    (left (ids_of 2 0 0) [] [])

-- "Results taken replace the dkg id and the earlier ended signers.": 1 ended before, and no longer
abbrev pub results_replace : Round
results_replace =
    round ready
    (at 0 (take_results 2 (2 ∷ 0 ∷ [])) ⇒ nothing_told
    ∷ starts 0 nine Frost [] None ⇒ nonces_asked (request (ids_of 2 1 1) nine Frost [])
    ∷ answers 0 (under (ids_of 2 1 1) q1) ⇒ nothing_told
    ∷ answers 0 (under (ids_of 2 1 1) q0) ⇒ recorded_of 0
    ∷ answers 0 (under (ids_of 2 1 1) q2) ⇒ recorded_of 2
    ∷ answers 0 q0 ⇒ refuses_with 16 (1 ∷ 2 ∷ [])
    ∷ [])
    (left (ids_of 2 1 1) nine [])

unfoldable pub asked : List Round
asked =
    bad_packets
    ∷ bad_packet_unverified
    ∷ long_messages
    ∷ start_unheld
    ∷ start_unheld_gathering
    ∷ sign_id_wraps
    ∷ coordinator_unheld
    ∷ forged_packets
    ∷ seal_after_timeout
    ∷ zero_unconfigured
    ∷ verification_off
    ∷ keys_apart
    ∷ unheard_idle
    ∷ unheard_gathering
    ∷ unheard_sharing
    ∷ dkg_begins
    ∷ silently
    ∷ invalid_nonces
    ∷ ids_before_silence
    ∷ four_recorded
    ∷ second_response
    ∷ messages_apart
    ∷ empty_message
    ∷ threshold_unheld
    ∷ threshold_unheld_left
    ∷ retry_unheld
    ∷ two_shares
    ∷ two_shares_wrong
    ∷ aggregator_fails
    ∷ results_gathering
    ∷ results_limits
    ∷ results_replace
    ∷ []
