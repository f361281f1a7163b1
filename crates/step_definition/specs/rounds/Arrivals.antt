-- 02, e), when each signer answered: the query of arrivals, a round for each clause. The query comes at a reading of its own, which nothing
-- tells.
use Rattle.std.specs.Prelude.{Some, None, ℕ, ◌^◌, ◌-◌, true, false, List, [], ◌∷◌, ◌++◌, replicate}
use Rattle.layout.specs.Limits.{store_length, answer_length}
use Rattle.layout.specs.declared.SignatureType.TheVariants.{Frost, Schnorr}
use Rattle.layout.specs.Messages.{Arrival, nonce_response}
use Rattle.layout.specs.Encode.{encode_arrivals}
use Rattle.step_definition.specs.Calls.{aggregate_key, other, result, error, recorded, Call}
use Rattle.step_definition.specs.Calls.{set_key, process_timeout, aggregated, reset, tell_arrivals}
use Rattle.step_definition.specs.rounds.Rounds.{lending, at, processes, starts, ids_of, ids, nine, five, q0, q1, q2, to, under}
use Rattle.step_definition.specs.rounds.Rounds.{answers}
use Rattle.step_definition.specs.rounds.Rounds.{share, shares0, shares1, shares, request9, request, share_request, shares9, job9}
use Rattle.step_definition.specs.rounds.Rounds.{ready, ready_of, begun, gathered, example}
use Rattle.step_definition.specs.rounds.Rounds.{written, numbered, Told, tells, nothing_told, refuses, saying, nonces_asked}
use Rattle.step_definition.specs.rounds.Rounds.{retried_with}
use Rattle.step_definition.specs.rounds.Rounds.{recorded_of, shares_asked, taken_of, job_given, nonces_late, insufficient, ◌⇒◌, left}
use Rattle.step_definition.specs.rounds.Rounds.{left9, Round, round}

-- the query, at 2000
abbrev query : Call
query = at 2000 tell_arrivals

abbrev came : ℕ → ℕ → Arrival
came id clock = record { signer_id = id; clock = clock }

abbrev arrived : List Arrival → Told
arrived arrivals = tells (written result (encode_arrivals arrivals)) []

-- a round for message 9 begun at 100
abbrev begun100 : List Call
begun100 = ready ++ (starts 100 nine Frost [] None ∷ [])

-- "responder ids ascending, and their readings, eight bytes each", written out: 72 bytes, no id and no signer in the header
abbrev pub ascending : Round
ascending =
    round begun100
    (answers 101 q2 ⇒ recorded_of 2
    ∷ answers 103 q0 ⇒ recorded_of 0
    ∷ query ⇒ tells
    (written result
    (35 ∷ 0 ∷ 2 ∷ replicate 29 0
    ++ (48 ∷ 0 ∷ 0 ∷ 0 ∷ 8 ∷ 0 ∷ 0 ∷ 0 ∷ 56 ∷ 0 ∷ 0 ∷ 0 ∷ 16 ∷ 0 ∷ 0 ∷ 0
    ∷ 0 ∷ 0 ∷ 0 ∷ 0 ∷ 2 ∷ 0 ∷ 0 ∷ 0
    ∷ 103 ∷ 0 ∷ 0 ∷ 0 ∷ 0 ∷ 0 ∷ 0 ∷ 0 ∷ 101 ∷ 0 ∷ 0 ∷ 0 ∷ 0 ∷ 0 ∷ 0 ∷ 0 ∷ [])))
    []
    ∷ [])
    (left9 1)

-- "both parts are empty where no record exists": two pairs, 48 bytes
abbrev pub nobody : Round
nobody =
    round begun100
    (query ⇒ tells (written result (35 ∷ 0 ∷ 2 ∷ replicate 29 0 ++ (48 ∷ replicate 7 0 ++ (48 ∷ replicate 7 0)))) [] ∷ [])
    (left9 1)

-- the reading is the call's, also where it goes back behind the start, and the greatest that there is
abbrev pub backward : Round
backward =
    round begun100
    (answers 90 q2 ⇒ recorded_of 2
    ∷ answers (2 ^ 64 - 1) q0 ⇒ recorded_of 0
    ∷ query ⇒ arrived (came 0 (2 ^ 64 - 1) ∷ came 2 90 ∷ [])
    ∷ [])
    (left9 1)

-- `process_message` records a late response with its reading; `process` gives the timeout, and records nothing. The query itself tests no
-- timeout, and the one that is due still fires after it
abbrev pub late_recorded : Round
late_recorded =
    round begun100
    (answers 111 q2 ⇒ recorded_of 2
    ∷ processes 112 (nonce_response q0) ⇒ nonces_late (2 ∷ []) []
    ∷ query ⇒ arrived (came 2 111 ∷ [])
    ∷ at 113 process_timeout ⇒ nonces_late (2 ∷ []) []
    ∷ query ⇒ arrived (came 2 111 ∷ [])
    ∷ [])
    (left9 1)

-- a second response to one message leaves the first reading; what is not recorded has none
abbrev pub first_reading : Round
first_reading =
    round begun100
    (answers 101 q2 ⇒ recorded_of 2
    ∷ answers 102 q2 ⇒ nothing_told
    ∷ answers 103 (to five q2) ⇒ recorded_of 2
    ∷ query ⇒ arrived (came 2 101 ∷ [])
    ∷ [])
    (left9 1)

-- the current message's alone; the answered message replaces it when its keys suffice
abbrev pub replaced : Round
replaced =
    round begun100
    (answers 101 q2 ⇒ recorded_of 2
    ∷ answers 102 (to five q0) ⇒ recorded_of 0
    ∷ query ⇒ arrived (came 2 101 ∷ [])
    ∷ answers 103 (to five q1) ⇒ shares_asked 1 (share_request (ids 1) five Frost [] (to five q0 ∷ to five q1 ∷ []))
    ∷ query ⇒ arrived (came 0 102 ∷ came 1 103 ∷ [])
    ∷ [])
    (left (ids 1) five [])

-- 11 leaves the refused start's message: often it has no record
abbrev pub after_eleven : Round
after_eleven =
    round begun100
    (answers 101 (to five q2) ⇒ recorded_of 2
    ∷ answers 102 q0 ⇒ recorded_of 0
    ∷ answers 103 q1 ⇒ shares_asked 1 (shares9 (q0 ∷ q1 ∷ []))
    ∷ starts 104 five Schnorr [] None ⇒ refuses 11
    ∷ query ⇒ arrived (came 2 101 ∷ [])
    ∷ starts 105 (1 ∷ []) Schnorr [] None ⇒ refuses 11
    ∷ query ⇒ arrived []
    ∷ starts 106 nine Schnorr [] None ⇒ refuses 11
    ∷ query ⇒ arrived (came 0 102 ∷ came 1 103 ∷ [])
    ∷ [])
    (left (ids_of 1 4 1) nine [])

-- "A nonce request clears readings with their records": a retry, and a start while shares are gathered
abbrev pub retry_clears : Round
retry_clears =
    round gathered
    (shares1 ⇒ taken_of 1
    ∷ query ⇒ arrived (came 0 0 ∷ came 1 0 ∷ [])
    ∷ at 11 process_timeout ⇒ retried_with (0 ∷ []) (request9 2)
    ∷ query ⇒ arrived []
    ∷ answers 12 (under (ids 2) q2) ⇒ recorded_of 2
    ∷ query ⇒ arrived (came 2 12 ∷ [])
    ∷ [])
    (left (ids 2) nine (0 ∷ []))

abbrev pub start_clears : Round
start_clears =
    round gathered
    (starts 5 nine Frost [] None ⇒ nonces_asked (request (ids_of 1 2 2) nine Frost []) ∷ query ⇒ arrived [] ∷ [])
    (left (ids_of 1 2 2) nine [])

-- too few keys after the timeout: the state stays, and the readings
abbrev pub struck_kept : Round
struck_kept =
    round gathered
    (shares0 ⇒ taken_of 0
    ∷ at 11 process_timeout ⇒ insufficient (1 ∷ []) (1 ∷ [])
    ∷ query ⇒ arrived (came 0 0 ∷ came 1 0 ∷ [])
    ∷ [])
    (left (ids 1) nine (1 ∷ []))

-- while a job is out 5; "in Idle after a success too (records stay)"; reset empties
abbrev pub job_then_idle : Round
job_then_idle =
    round begun100
    (answers 101 q0 ⇒ recorded_of 0
    ∷ answers 103 q1 ⇒ shares_asked 1 (shares9 (q0 ∷ q1 ∷ []))
    ∷ shares 104 0 (1 ∷ []) ⇒ taken_of 0
    ∷ shares 105 1 (2 ∷ 3 ∷ []) ⇒ job_given 1 true (job9 (share 0 (1 ∷ []) ∷ share 1 (2 ∷ 3 ∷ []) ∷ []))
    ∷ query ⇒ refuses 5
    ∷ at 106 (aggregated true) ⇒ saying 0
    ∷ query ⇒ arrived (came 0 101 ∷ came 1 103 ∷ [])
    ∷ at 107 reset ⇒ nothing_told
    ∷ query ⇒ arrived []
    ∷ [])
    (left9 1)

-- 10 in NonceGather leaves the record made, its reading too
abbrev pub unheld_kept : Round
unheld_kept =
    round (begun100 ++ (at 100 (set_key aggregate_key false) ∷ []))
    (answers 101 (to five q0) ⇒ recorded_of 0
    ∷ answers 103 (to five q1) ⇒ tells (numbered error 10 []) (recorded 1 ∷ [])
    ∷ query ⇒ arrived (came 0 101 ∷ came 1 103 ∷ [])
    ∷ [])
    (left (ids 1) five [])

-- "The query passes the checks 4, 5 and 7", in this order, and is asked neither key nor verdict
abbrev pub questions : Round
questions =
    round ready
    (query ⇒ arrived []
    ∷ lending 0 false store_length answer_length (other tell_arrivals) ⇒ arrived []
    ∷ lending 0 true (store_length - 1) 0 (other tell_arrivals) ⇒ refuses 4
    ∷ lending 0 true store_length (answer_length - 1) (other tell_arrivals) ⇒ refuses 7
    ∷ [])
    (left (ids_of 1 0 0) [] [])

abbrev pub five_before_seven : Round
five_before_seven =
    round (gathered ++ (shares0 ∷ shares1 ∷ []))
    (lending 0 true store_length 0 (other tell_arrivals) ⇒ refuses 5 ∷ lending 0 true 0 0 (other tell_arrivals) ⇒ refuses 4 ∷ [])
    (left9 1)

abbrev pub uncommissioned : Round
uncommissioned = round [] (query ⇒ refuses 4 ∷ []) None

-- no key is asked for
abbrev pub keyless : Round
keyless =
    round (begun ++ (answers 3 q2 ∷ at 0 (set_key aggregate_key false) ∷ []))
    (query ⇒ arrived (came 2 3 ∷ []) ∷ [])
    (left9 1)

unfoldable pub arrivals : List Round
arrivals =
    ascending
    ∷ nobody
    ∷ backward
    ∷ late_recorded
    ∷ first_reading
    ∷ replaced
    ∷ after_eleven
    ∷ retry_clears
    ∷ start_clears
    ∷ struck_kept
    ∷ job_then_idle
    ∷ unheld_kept
    ∷ questions
    ∷ five_before_seven
    ∷ uncommissioned
    ∷ keyless
    ∷ []
