-- Whole rounds to their end, under each signature type; shares that are missing or empty; kinds 32 to 34 byte by byte ("Packet layout").
use Rattle.std.specs.Prelude.{Some, None, ℕ, true, false, List, [], ◌∷◌, ◌++◌, replicate}
use Rattle.layout.specs.declared.SignatureType.{SignatureType}
use Rattle.layout.specs.declared.SignatureType.TheVariants.{Frost, Schnorr, Taproot, TaprootRoot}
use Rattle.layout.specs.Messages.{SignatureShare, nonce_request}
use Rattle.state_table.specs.declared.State.TheVariants.{DkgPublicDistribute}
use Rattle.state_table.specs.States.{position}
use Rattle.step_definition.specs.Calls.{can_move, process_timeout, aggregated}
use Rattle.step_definition.specs.Calls.{result, newly_malicious, shares_taken, job_written}
use Rattle.step_definition.specs.rounds.Rounds.{signer, configuration, three, at, sends, starts, ids_of, ids, nine, root, nonce, good, response_of, q0, q1, q2, under, answers, share, shares_of}
use Rattle.step_definition.specs.rounds.Rounds.{shares, shares0, shares1, request, share_request, shares9, job_of, job9, ready, begun_of, gathered}
use Rattle.step_definition.specs.rounds.Rounds.{tells, fails, saying, nonces_asked, retried_with, recorded_of, shares_asked, taken_of, job_given, ◌⇒◌, left, left9, Round, round}
use Rattle.step_definition.specs.rounds.Rounds.{written, handed}

-- "Success moves to Idle with the result kind": Sign 0, SignSchnorr 1, SignTaproot 2. Type and root go with every packet; 1 answers and
-- shares before 0. The first key-generation state may be entered from Idle only
abbrev signed : SignatureType → List ℕ → ℕ → Round
signed t root kind =
    round ready
    (starts 0 nine t root None ⇒ nonces_asked (request (ids 1) nine t root)
    ∷ answers 0 q1 ⇒ recorded_of 1
    ∷ answers 0 q0 ⇒ shares_asked 0 (share_request (ids 1) nine t root (q0 ∷ q1 ∷ []))
    ∷ shares1 ⇒ taken_of 1
    ∷ shares0
    ⇒ job_given 0 true (job_of (ids 1) nine t root (1 ∷ 2 ∷ 3 ∷ []) (good ∷ good ∷ []) (share 0 (1 ∷ []) ∷ share 1 (2 ∷ 3 ∷ []) ∷ []))
    ∷ at 0 (aggregated true) ⇒ saying kind
    ∷ at 0 (can_move (position DkgPublicDistribute [])) ⇒ saying 1
    ∷ [])
    (left9 1)

abbrev pub signed_frost : Round
signed_frost = signed Frost [] 0

abbrev pub signed_schnorr : Round
signed_schnorr = signed Schnorr [] 1

abbrev pub signed_taproot : Round
signed_taproot = signed Taproot [] 2

abbrev pub signed_root : Round
signed_root = signed TaprootRoot root 2

-- a retry keeps type and root
abbrev pub retry_keeps_root : Round
retry_keeps_root =
    round (ready ++ (starts 0 nine TaprootRoot root None ∷ answers 0 q0 ∷ answers 0 q1 ∷ shares1 ∷ []))
    (at 11 process_timeout ⇒ retried_with (0 ∷ []) (request (ids 2) nine TaprootRoot root) ∷ [])
    (left (ids 2) nine (0 ∷ []))

-- a root beside another type is dropped
abbrev pub root_dropped : Round
root_dropped = round ready (starts 0 nine Schnorr root None ⇒ nonces_asked (request (ids 1) nine Schnorr []) ∷ []) (left9 1)

-- "every responder's shares are held": of three one is refused. "lists are each signer's list, joined in ascending signer id", as sent
abbrev pub one_of_three : Round
one_of_three =
    let one = response_of (ids 1) 1 nine (3 ∷ 2 ∷ []) (good ∷ good ∷ []) in
    let s1 = share 9 (3 ∷ []) ∷ share 8 (2 ∷ []) ∷ [] in
    round (begun_of (configuration 4 3 4 (Some 10) (Some 10) three true) (0 ∷ 1 ∷ 2 ∷ []))
    (answers 0 q2 ⇒ recorded_of 2
    ∷ answers 0 one ⇒ recorded_of 1
    ∷ answers 0 q0 ⇒ shares_asked 0 (shares9 (q0 ∷ one ∷ q2 ∷ []))
    ∷ shares 0 2 (1 ∷ []) ⇒ fails 22 (2 ∷ [])
    ∷ sends 0 (shares_of (ids 1) 1 s1) ⇒ taken_of 1
    ∷ shares0
    ⇒ job_given 0 false
    (job_of (ids 1) nine Frost [] (1 ∷ 3 ∷ 2 ∷ 4 ∷ []) (good ∷ good ∷ good ∷ good ∷ []) (share 0 (1 ∷ []) ∷ s1))
    ∷ [])
    (left9 1)

-- a responder with an empty key set that shares nothing is held to have shared: 4 has keys {}
abbrev pub empty_shares : Round
empty_shares =
    let q4 = response_of (ids 1) 4 nine [] [] in
    round (begun_of (configuration 4 3 3 (Some 10) (Some 10) (three ++ (signer 4 [] ∷ [])) true) (0 ∷ 1 ∷ 4 ∷ []))
    (answers 0 q0 ⇒ recorded_of 0
    ∷ answers 0 q4 ⇒ recorded_of 4
    ∷ answers 0 q1 ⇒ shares_asked 1 (shares9 (q0 ∷ q1 ∷ q4 ∷ []))
    ∷ sends 0 (shares_of (ids 1) 4 []) ⇒ taken_of 4
    ∷ shares0 ⇒ taken_of 0
    ∷ shares1 ⇒ job_given 1 true (job9 (share 0 (1 ∷ []) ∷ share 1 (2 ∷ 3 ∷ []) ∷ []))
    ∷ [])
    (left9 1)

-- Byte by byte. A number below 256 in four and in eight bytes
abbrev four : ℕ → List ℕ
four n = n ∷ 0 ∷ 0 ∷ 0 ∷ []

abbrev eight : ℕ → List ℕ
eight n = n ∷ replicate 7 0

-- "32 job (message, root, key ids, nonces, a part per share)", "has the signature type and the three ids": dkg id 1, sign id 5,
-- iteration 4; six parts of 1, 32, 12, 132, 40 and 44 bytes from 80 on
abbrev pub job_bytes : Round
job_bytes =
    let i = ids_of 1 5 4 in
    let n0 = nonce (replicate 33 10) (replicate 33 11) in
    let n1 = nonce (replicate 33 12) (replicate 33 13) in
    let s0 : SignatureShare = record { id = 0; z_i = replicate 32 20; key_ids = 1 ∷ [] } in
    let s1 : SignatureShare = record { id = 1; z_i = replicate 32 21; key_ids = 2 ∷ 3 ∷ [] } in
    let bytes =
    (32 ∷ 3 ∷ 6 ∷ 0 ∷ [])
    ++ four 0
    ++ eight 1
    ++ eight 5
    ++ eight 4
    ++ four 80
    ++ four 1
    ++ four 81
    ++ four 32
    ++ four 113
    ++ four 12
    ++ four 125
    ++ four 132
    ++ (1 ∷ 1 ∷ 0 ∷ 0 ∷ [])
    ++ four 40
    ++ (41 ∷ 1 ∷ 0 ∷ 0 ∷ [])
    ++ four 44
    ++ (9 ∷ [])
    ++ replicate 32 6
    ++ four 1
    ++ four 2
    ++ four 3
    ++ replicate 33 10
    ++ replicate 33 11
    ++ replicate 33 12
    ++ replicate 33 13
    ++ four 0
    ++ replicate 32 20
    ++ four 1
    ++ four 1
    ++ replicate 32 21
    ++ four 2
    ++ four 3 in
    round
    (ready
    ++ (sends 0 (nonce_request (request i nine TaprootRoot root))
    ∷ answers 0 (response_of i 1 nine (2 ∷ 3 ∷ []) (n1 ∷ []))
    ∷ answers 0 (response_of i 0 nine (1 ∷ []) (n0 ∷ []))
    ∷ sends 0 (shares_of i 1 (s1 ∷ []))
    ∷ []))
    (sends 0 (shares_of i 0 (s0 ∷ []))
    ⇒ tells (handed true bytes)
    (shares_taken 0 ∷ job_written (job_of i nine TaprootRoot root (1 ∷ 2 ∷ 3 ∷ []) (n0 ∷ n1 ∷ []) (s0 ∷ s1 ∷ [])) ∷ [])
    ∷ [])
    (left i nine [])

-- "33 NonceTimeout (waiters, struck)", "33 and 34 have only their lists": 2 waits, 0 is malicious
abbrev pub nonce_timeout_bytes : Round
nonce_timeout_bytes =
    round (gathered ++ (shares1 ∷ at 11 process_timeout ∷ answers 11 (under (ids 2) q2) ∷ []))
    (at 22 process_timeout
    ⇒ tells
    (written result ((33 ∷ 0 ∷ 2 ∷ 0 ∷ []) ++ four 0 ++ replicate 24 0 ++ four 48 ++ four 4 ++ four 52 ++ four 4 ++ four 2 ++ four 0))
    []
    ∷ [])
    (left (ids 2) nine (0 ∷ []))

-- "34 InsufficientSigners (struck)"
abbrev pub insufficient_bytes : Round
insufficient_bytes =
    round gathered
    (at 11 process_timeout
    ⇒ tells
    (written result ((34 ∷ 0 ∷ 1 ∷ 0 ∷ []) ++ four 0 ++ replicate 24 0 ++ four 40 ++ four 8 ++ four 0 ++ four 1))
    (newly_malicious (0 ∷ 1 ∷ []) ∷ [])
    ∷ [])
    (left (ids 1) nine (0 ∷ 1 ∷ []))

unfoldable pub jobs : List Round
jobs =
    signed_frost
    ∷ signed_schnorr
    ∷ signed_taproot
    ∷ signed_root
    ∷ retry_keeps_root
    ∷ root_dropped
    ∷ one_of_three
    ∷ empty_shares
    ∷ job_bytes
    ∷ nonce_timeout_bytes
    ∷ insufficient_bytes
    ∷ []
