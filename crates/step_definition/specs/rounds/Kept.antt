-- What each call leaves, whole: rounds from something held to all that is held after. "What a refusal changes"; what does nothing, and so
-- is told by no later answer; what reset, a start, a retry, a share request and the aggregator's answer keep; and states that no list of
-- calls reaches, of which the step definition says something all the same ("The step definition holds for every call"). In what is held
-- each field that could be lost or taken for another has a value of its own.
use Rattle.std.specs.Prelude.{Option, Some, None, ℕ, Bool, true, false, List, [], ◌∷◌, ◌++◌, map, replicate}
use Rattle.layout.specs.Limits.{store_length, answer_length}
use Rattle.layout.specs.declared.Ids.{Ids}
use Rattle.layout.specs.declared.SignatureType.TheVariants.{Frost, Schnorr, Taproot, TaprootRoot}
use Rattle.layout.specs.Messages.{NonceResponse, Arrival}
use Rattle.layout.specs.Messages.{nonce_request, nonce_response, signature_share_request, dkg_begin, dkg_signer, dkg_coordinator}
use Rattle.layout.specs.Encode.{encode}
use Rattle.state_table.specs.declared.State.{State}
use Rattle.state_table.specs.declared.State.TheVariants.{Idle, NonceRequest, NonceGather, SigShareRequest, SigShareGather}
use Rattle.state_table.specs.declared.State.TheVariants.{DkgPublicDistribute, DkgPublicGather}
use Rattle.state_table.specs.declared.State.TheVariants.{DkgPublicSharesDoneDistribute, DkgPublicSharesDoneGather}
use Rattle.state_table.specs.declared.State.TheVariants.{DkgPrivateDistribute, DkgPrivateGather}
use Rattle.state_table.specs.declared.State.TheVariants.{DkgPrivateSharesDoneDistribute, DkgPrivateSharesDoneGather}
use Rattle.state_table.specs.declared.State.TheVariants.{DkgEndDistribute, DkgEndGather}
use Rattle.state_table.specs.States.{Position, position}
use Rattle.step_definition.specs.Configuration.{Config, SignerConfig}
use Rattle.step_definition.specs.Coordinator.{Coordinator, Standing, SignRoundInfo, SignerShares, Held, uncommissioned, miscounted, commissioned}
use Rattle.step_definition.specs.Coordinator.{Round as Progress}
use Rattle.step_definition.specs.Calls.{process, process_message, coordinator_key, aggregate_key, commission, other, error, recorded, Call}
use Rattle.step_definition.specs.Calls.{set_key, take_results, can_move, receive, process_timeout, aggregated, reset}
use Rattle.validity.specs.Nonces.{generator}
use Rattle.step_definition.specs.rounds.Rounds.{signer, configuration, three, example, lending, calling, at, sends, processes, starts, ids_of, ids, nine, five, root}
use Rattle.step_definition.specs.rounds.Rounds.{nonce, good, point, respond, q0, q1, q2, under, to, answers, share, shares_of, shares, shares0, shares1, request, request9}
use Rattle.step_definition.specs.rounds.Rounds.{shares9, job9, tells, nothing_told, refuses, refuses_with, fails, saying, nonces_asked}
use Rattle.step_definition.specs.rounds.Rounds.{retried_with, recorded_of, shares_asked, taken_of, job_given, nonces_late, insufficient, ◌⇒◌, Line, From, from}
use Rattle.step_definition.specs.rounds.Rounds.{numbered}

-- What is held: what outlives a round, the ids, the state, the round's progress, and whether a job is out
abbrev held : Standing → Ids → Position → Progress → Bool → Held
held s i p r job = commissioned (record { standing = s; ids = i; position = p; round = r; job = job })

-- a configuration with those whose key generation ended, the coordinator key and the group key, and the malicious list
abbrev standing_of : Config → List ℕ → Bool → Bool → List ℕ → Standing
standing_of g ended coordinator group malicious =
    record {
      config = g;
      dkg_end_messages = ended;
      keys = record { coordinator_public_key = coordinator; aggregate_public_key = group };
      malicious_signer_ids = malicious;
    }

-- the example's signers, with a value of its own for each number and each timeout: none can stand for another
abbrev apart : List SignerConfig → Config
apart signers =
    record {
      num_signers = 7;
      num_keys = 6;
      threshold = 4;
      dkg_threshold = 5;
      sign_threshold = 3;
      timeouts = record { dkg_public = Some 31; dkg_private = Some 32; dkg_end = Some 33; nonce = Some 10; sign = Some 20 };
      signers = signers;
      verify_packet_sigs = true;
    }

-- all ended, both keys held
abbrev standing : List ℕ → Standing
standing malicious = standing_of (apart three) (0 ∷ 1 ∷ 2 ∷ []) true true malicious

-- the message, the records, the shares, the clock of the nonce request and that of the share request
abbrev progress : List ℕ → List SignRoundInfo → List SignerShares → Option ℕ → Option ℕ → Progress
progress message records shares nonce sign =
    record {
      message = message;
      message_nonces = records;
      signature_shares = shares;
      clocks = record { nonce_start = nonce; sign_start = sign };
    }

abbrev answered_at : List ℕ → List NonceResponse → List Arrival → List ℕ → SignRoundInfo
answered_at message qs arrivals waiters =
    record { message = message; public_nonces = qs; arrivals = arrivals; sign_wait_signer_ids = waiters }

-- the signer's response came at this reading
abbrev came : ℕ → ℕ → Arrival
came id clock = record { signer_id = id; clock = clock }

-- a record of before: each response came at 7
abbrev answered : List ℕ → List NonceResponse → List ℕ → SignRoundInfo
answered message qs waiters = answered_at message qs (map (λ (q : NonceResponse). came q.signer_id 7) qs) waiters

abbrev both : List ℕ → SignRoundInfo
both waiters = answered nine (q0 ∷ q1 ∷ []) waiters

abbrev shared : ℕ → List ℕ → SignerShares
shared id keys = record { signer_id = id; signature_shares = share id keys ∷ [] }

abbrev shared0 : SignerShares
shared0 = shared 0 (1 ∷ [])

abbrev shared1 : SignerShares
shared1 = shared 1 (2 ∷ 3 ∷ [])

-- 0's shares held, and both clocks started
abbrev halfway : List ℕ → Progress
halfway waiters = progress nine (both waiters ∷ []) (shared0 ∷ []) (Some 2) (Some 3)

abbrev idle : Position
idle = position Idle []

abbrev nonces : Position
nonces = position (NonceGather Frost) []

abbrev sharing : Position
sharing = position (SigShareGather Frost) []

-- Commissioning.
-- "the fields are those that the Rust's `new` gives: Idle, ids 0, nothing held, nobody struck"; ids and key sets are kept ascending
abbrev pub commissioned_ascending : From
commissioned_ascending =
    from miscounted
    (calling 5 (commission (apart (signer 2 (4 ∷ []) ∷ signer 0 (1 ∷ []) ∷ signer 1 (3 ∷ 2 ∷ []) ∷ []))) ⇒ nothing_told ∷ [])
    (held (standing_of (apart three) [] false false []) (ids_of 0 0 0) idle (progress [] [] [] None None) false)

-- "state commissioned, its counts within these limits (4)?" What is no coordinator stays what it is
abbrev refused4 : Held → From
refused4 h =
    from h
    (at 0 (set_key coordinator_key true) ⇒ refuses 4
    ∷ at 0 (take_results 1 []) ⇒ refuses 4
    ∷ at 0 (can_move idle) ⇒ refuses 4
    ∷ starts 0 nine Frost [] None ⇒ refuses 4
    ∷ processes 0 (dkg_begin 1) ⇒ refuses 4
    ∷ sends 0 (dkg_begin 1) ⇒ refuses 4
    ∷ at 0 process_timeout ⇒ refuses 4
    ∷ at 0 (aggregated true) ⇒ refuses 4
    ∷ at 0 reset ⇒ refuses 4
    ∷ [])
    h

abbrev pub miscounted4 : From
miscounted4 = refused4 miscounted

abbrev pub uncommissioned_stays : From
uncommissioned_stays = refused4 uncommissioned

-- What a refusal changes.
-- "Otherwise nothing": 4, 6, 7, 8, 9, 12, 14, 16 to 19 and 24 in NonceGather, 0 malicious, four messages recorded and not the current one
abbrev recorded4 : List SignRoundInfo
recorded4 =
    answered (1 ∷ []) (q2 ∷ []) (2 ∷ [])
    ∷ answered (2 ∷ []) (q2 ∷ []) (2 ∷ [])
    ∷ answered (3 ∷ []) (q2 ∷ []) (2 ∷ [])
    ∷ answered (4 ∷ []) (q2 ∷ []) (2 ∷ [])
    ∷ []

abbrev pub refused_gathering : From
refused_gathering =
    let h = held (standing (0 ∷ [])) (ids 1) nonces (progress nine recorded4 (shared0 ∷ []) (Some 20) (Some 7)) false in
    from h
    (lending 50 true 0 answer_length (other reset) ⇒ refuses 4
    ∷ at 50 (aggregated true) ⇒ refuses 6
    ∷ lending 50 true store_length 0 (other process_timeout) ⇒ refuses 7
    ∷ at 50 (receive process (1 ∷ [])) ⇒ refuses 8
    ∷ processes 50 (nonce_response (to (replicate 257 1) q1)) ⇒ refuses 9
    ∷ starts 50 (replicate 257 1) Frost [] None ⇒ refuses 9
    ∷ at 50 process_timeout ⇒ refuses 12
    ∷ processes 50 (nonce_response q1) ⇒ refuses 12
    ∷ lending 50 false store_length answer_length (other (receive process_message (encode (nonce_response (to (1 ∷ []) q1))))) ⇒ refuses 14
    ∷ answers 50 (under (ids_of 2 1 1) (to (1 ∷ []) q1)) ⇒ refuses_with 16 (2 ∷ 1 ∷ [])
    ∷ answers 50 (under (ids_of 1 2 1) (to (1 ∷ []) q1)) ⇒ refuses_with 17 (2 ∷ 1 ∷ [])
    ∷ answers 50 (under (ids_of 1 1 2) (to (1 ∷ []) q1)) ⇒ refuses_with 18 (2 ∷ 1 ∷ [])
    ∷ answers 50 q1 ⇒ refuses 19
    ∷ at 50 (take_results 2 (0 ∷ [])) ⇒ refuses 24
    ∷ [])
    h

-- "16 to 18 carry got and expected": each id is compared with its own, and a smaller one is as wrong as a greater one
abbrev pub nonce_ids_apart : From
nonce_ids_apart =
    let h = held (standing (2 ∷ [])) (ids_of 5 6 7) nonces (halfway []) false in
    let q : ℕ → ℕ → ℕ → Call = λ dkg sign iteration. answers 9 (under (ids_of dkg sign iteration) q0) in
    from h
    (q 4 6 7 ⇒ refuses_with 16 (4 ∷ 5 ∷ [])
    ∷ q 8 6 7 ⇒ refuses_with 16 (8 ∷ 5 ∷ [])
    ∷ q 5 5 7 ⇒ refuses_with 17 (5 ∷ 6 ∷ [])
    ∷ q 5 8 7 ⇒ refuses_with 17 (8 ∷ 6 ∷ [])
    ∷ q 5 6 6 ⇒ refuses_with 18 (6 ∷ 7 ∷ [])
    ∷ q 5 6 8 ⇒ refuses_with 18 (8 ∷ 7 ∷ [])
    ∷ [])
    h

abbrev pub share_ids_apart : From
share_ids_apart =
    let h = held (standing (2 ∷ [])) (ids_of 5 6 7) sharing (halfway (1 ∷ [])) false in
    let s : ℕ → ℕ → Call = λ dkg sign. sends 9 (shares_of (ids_of dkg sign 7) 1 (share 1 (2 ∷ 3 ∷ []) ∷ [])) in
    from h
    (s 4 6 ⇒ fails 16 (4 ∷ 5 ∷ [])
    ∷ s 8 6 ⇒ fails 16 (8 ∷ 5 ∷ [])
    ∷ s 5 5 ⇒ fails 17 (5 ∷ 6 ∷ [])
    ∷ s 5 8 ⇒ fails 17 (8 ∷ 6 ∷ [])
    ∷ [])
    h

-- 15 and 25 in Idle
abbrev pub refused_idle : From
refused_idle =
    let h = held (standing (2 ∷ [])) (ids_of 1 5 8) idle (halfway []) false in
    from h (sends 0 (dkg_begin 2) ⇒ refuses 15 ∷ at 0 (take_results 2 (7 ∷ [])) ⇒ refuses 25 ∷ []) h

-- "(on a start call, nothing)": 10
abbrev pub refused10 : From
refused10 =
    let h = held (standing_of (apart three) (0 ∷ []) true false (1 ∷ [])) (ids_of 1 5 8) idle (halfway []) false in
    from h (starts 0 five Frost [] None ⇒ refuses 10 ∷ starts 0 five Schnorr [] (Some 7) ⇒ refuses 10 ∷ []) h

-- 5, of every call that is asked it: the job stays out
abbrev pub refused5 : From
refused5 =
    let h = held (standing (2 ∷ [])) (ids 1) sharing (halfway []) true in
    from h
    (at 99 (set_key coordinator_key false) ⇒ refuses 5
    ∷ at 99 (set_key aggregate_key false) ⇒ refuses 5
    ∷ at 99 (take_results 2 (0 ∷ [])) ⇒ refuses 5
    ∷ at 99 (can_move idle) ⇒ refuses 5
    ∷ starts 99 five Frost [] None ⇒ refuses 5
    ∷ processes 99 (nonce_response q2) ⇒ refuses 5
    ∷ shares1 ⇒ refuses 5
    ∷ at 99 process_timeout ⇒ refuses 5
    ∷ lending 99 true 0 answer_length (other (aggregated true)) ⇒ refuses 4
    ∷ [])
    h

-- 12 of a share timeout, where the current message has no record: nobody is excluded. And 24 while shares are gathered
abbrev pub refused_sharing : From
refused_sharing =
    let h = held (standing (2 ∷ [])) (ids 1) sharing (progress five (both (0 ∷ 1 ∷ []) ∷ []) (shared0 ∷ []) (Some 2) (Some 3)) false in
    from h
    (at 24 process_timeout ⇒ refuses 12
    ∷ processes 24 (shares_of (ids 1) 1 (share 1 (2 ∷ 3 ∷ []) ∷ [])) ⇒ refuses 12
    ∷ at 24 (take_results 2 (0 ∷ [])) ⇒ refuses 24
    ∷ [])
    h

-- 13
abbrev pub unverified13 : From
unverified13 =
    let h = held (standing_of (apart three) (0 ∷ []) false true (1 ∷ [])) (ids_of 1 5 8) idle (halfway []) false in
    from h (sends 0 (nonce_request (request (ids_of 1 6 4) five Schnorr [])) ⇒ refuses 13 ∷ []) h

-- "10 on an Idle packet, the iteration"
abbrev pub idle_unheld : From
idle_unheld =
    let s = standing_of (apart three) (0 ∷ []) true false (1 ∷ []) in
    from (held s (ids_of 1 5 8) idle (halfway []) false)
    (sends 0 (nonce_request (request (ids_of 1 6 4) five Schnorr [])) ⇒ refuses 10 ∷ [])
    (held s (ids_of 1 5 3) idle (halfway []) false)

-- "10 in NonceGather, the record made and the message": the record keeps the call's clock reading, and the one before it its own (02, e)
abbrev pub gathering_unheld : From
gathering_unheld =
    let s = standing_of (apart three) (0 ∷ 1 ∷ []) true false (2 ∷ []) in
    from (held s (ids 1) nonces (progress nine (answered five (to five q0 ∷ []) (0 ∷ []) ∷ []) (shared0 ∷ []) (Some 2) (Some 1)) false)
    (answers 9 (to five q1) ⇒ tells (numbered error 10 []) (recorded 1 ∷ []) ∷ [])
    (held s
    (ids 1)
    nonces
    (progress five
    (answered_at five (to five q0 ∷ to five q1 ∷ []) (came 0 7 ∷ came 1 9 ∷ []) (0 ∷ 1 ∷ []) ∷ [])
    (shared0 ∷ [])
    (Some 2)
    (Some 1))
    false)

-- "11, message and sign id"
abbrev pub start_refused : From
start_refused =
    from (held (standing (2 ∷ [])) (ids 1) sharing (halfway (0 ∷ 1 ∷ [])) false)
    (starts 9 five Schnorr [] None ⇒ refuses 11 ∷ [])
    (held (standing (2 ∷ [])) (ids_of 1 2 1) sharing (progress five (both (0 ∷ 1 ∷ []) ∷ []) (shared0 ∷ []) (Some 2) (Some 3)) false)

-- "20 to 22, the waiter": of the current message only. Verification is off; 2 has not ended, 3 and 4 have no entry, of whom 3 has ended,
-- 7 is not configured; of message 5 too 1 and 7 are waited for
abbrev odd : Standing
odd =
    standing_of
    (configuration 4 3 3 (Some 10) (Some 10) (three ++ (record { id = 3; key_ids = None } ∷ record { id = 4; key_ids = None } ∷ [])) false)
    (0 ∷ 1 ∷ 3 ∷ 7 ∷ [])
    true
    true
    (2 ∷ [])

abbrev waited_for : List ℕ → Held
waited_for waiters =
    held odd
    (ids 1)
    sharing
    (progress nine (answered five (to five q0 ∷ []) (1 ∷ 7 ∷ []) ∷ both waiters ∷ []) (shared0 ∷ []) (Some 0) (Some 0))
    false

abbrev pub unconfigured20 : From
unconfigured20 = from (waited_for (0 ∷ 1 ∷ 7 ∷ [])) (shares 0 7 (1 ∷ []) ⇒ fails 20 (7 ∷ []) ∷ []) (waited_for (0 ∷ 1 ∷ []))

-- ended or not, the public key comes first; the ids come before it and cost no waiter
abbrev pub unconfigured_unended : From
unconfigured_unended =
    from (waited_for (0 ∷ 8 ∷ []))
    (sends 0 (shares_of (ids_of 2 1 1) 8 (share 8 [] ∷ [])) ⇒ fails 16 (2 ∷ 1 ∷ [])
    ∷ sends 0 (shares_of (ids_of 1 2 1) 8 (share 8 [] ∷ [])) ⇒ fails 17 (2 ∷ 1 ∷ [])
    ∷ shares 0 8 [] ⇒ fails 20 (8 ∷ [])
    ∷ [])
    (waited_for (0 ∷ []))

-- "Key generation ended, else nothing": the waiter is removed, also where there is no entry
abbrev pub unended : From
unended =
    from (waited_for (0 ∷ 2 ∷ 4 ∷ []))
    (shares 0 2 (4 ∷ []) ⇒ nothing_told ∷ shares 0 4 [] ⇒ nothing_told ∷ [])
    (waited_for (0 ∷ []))

abbrev pub no_entry21 : From
no_entry21 = from (waited_for (0 ∷ 3 ∷ [])) (shares 0 3 [] ⇒ fails 21 (3 ∷ []) ∷ []) (waited_for (0 ∷ []))

abbrev pub wrong_keys22 : From
wrong_keys22 = from (waited_for (0 ∷ 1 ∷ [])) (shares 0 1 (2 ∷ 3 ∷ 4 ∷ []) ⇒ fails 22 (1 ∷ []) ∷ []) (waited_for (0 ∷ []))

-- "23, the job is no longer out"
abbrev pub failed23 : From
failed23 =
    let r = progress nine (both [] ∷ []) (shared0 ∷ shared1 ∷ []) (Some 2) (Some 3) in
    from (held (standing (2 ∷ [])) (ids 1) sharing r true)
    (at 9 (aggregated false) ⇒ fails 23 [] ∷ [])
    (held (standing (2 ∷ [])) (ids 1) sharing r false)

-- What does nothing changes nothing.
-- what does nothing in every state: the kinds that none hears, a timeout in time, and the move question
abbrev unheard : ℕ → List Line
unheard now =
    sends now (signature_share_request (shares9 (q0 ∷ []))) ⇒ nothing_told
    ∷ sends now (dkg_signer 0 7) ⇒ nothing_told
    ∷ sends now (dkg_coordinator 7) ⇒ nothing_told
    ∷ at now process_timeout ⇒ nothing_told
    ∷ at now (can_move idle) ⇒ saying 1
    ∷ []

-- "An Idle NonceRequest with the current sign id does nothing.", whatever else it carries; DkgBegin with the current dkg id; responses
abbrev pub nothing_idle : From
nothing_idle =
    let h = held (standing (2 ∷ [])) (ids_of 3 4 5) idle (halfway (1 ∷ [])) false in
    from h
    (sends 99 (nonce_request (request (ids_of 7 4 8) five Schnorr [])) ⇒ nothing_told
    ∷ answers 99 (under (ids_of 3 4 5) q2) ⇒ nothing_told
    ∷ sends 99 (shares_of (ids_of 3 4 5) 1 (share 1 (2 ∷ 3 ∷ []) ∷ [])) ⇒ nothing_told
    ∷ sends 99 (dkg_begin 3) ⇒ nothing_told
    ∷ processes 99 (dkg_begin 3) ⇒ nothing_told
    ∷ unheard 99)
    h

-- NonceGather: "silently nothing unless", of 0's keys, 0's nonces, and malicious 2. "A second response to one message does nothing."
abbrev pub nothing_gathering : From
nothing_gathering =
    let i = ids_of 3 4 5 in
    let r = progress nine (answered nine (q1 ∷ []) (1 ∷ []) ∷ []) (shared0 ∷ []) (Some 90) (Some 3) in
    let h = held (standing (2 ∷ [])) i nonces r false in
    from h
    (answers 99 (under i (respond 0 [] good)) ⇒ nothing_told
    ∷ answers 99 (under i (respond 0 (1 ∷ []) (nonce generator point))) ⇒ nothing_told
    ∷ answers 99 (under i q2) ⇒ nothing_told
    ∷ processes 100 (nonce_response (under i q1)) ⇒ nothing_told
    ∷ sends 99 (nonce_request (request (ids_of 3 7 8) five Schnorr [])) ⇒ nothing_told
    ∷ sends 99 (shares_of i 1 (share 1 (2 ∷ 3 ∷ []) ∷ [])) ⇒ nothing_told
    ∷ sends 99 (dkg_begin 7) ⇒ nothing_told
    ∷ unheard 100)
    h

-- SigShareGather: shares of 0 and 2, for whom nobody waits, whatever their ids
abbrev pub nothing_sharing : From
nothing_sharing =
    let i = ids_of 3 4 5 in
    let h = held (standing (2 ∷ [])) i sharing (halfway (1 ∷ [])) false in
    from h
    (sends 23 (shares_of i 2 (share 2 (4 ∷ []) ∷ [])) ⇒ nothing_told
    ∷ sends 23 (shares_of (ids_of 7 7 7) 2 (share 2 (4 ∷ []) ∷ [])) ⇒ nothing_told
    ∷ processes 23 (shares_of i 0 (share 0 (1 ∷ []) ∷ [])) ⇒ nothing_told
    ∷ sends 23 (nonce_request (request (ids_of 3 7 8) five Schnorr [])) ⇒ nothing_told
    ∷ answers 23 (under i q2) ⇒ nothing_told
    ∷ sends 23 (dkg_begin 7) ⇒ nothing_told
    ∷ unheard 23)
    h

-- shares that are held already stay as they are; their signer is waited for no longer
abbrev pub held_already : From
held_already =
    let h : List ℕ → Held = λ waiters. held (standing (2 ∷ [])) (ids 1) sharing (halfway waiters) false in
    from (h (0 ∷ 1 ∷ [])) (sends 9 (shares_of (ids 1) 0 (share 6 (1 ∷ []) ∷ [])) ⇒ nothing_told ∷ []) (h (1 ∷ []))

-- "calls that set or clear the two held keys": each changes the one that it names
abbrev with_keys : Bool → Bool → Held
with_keys coordinator group =
    held (standing_of (apart three) (0 ∷ 1 ∷ []) coordinator group (2 ∷ [])) (ids_of 3 4 5) nonces (halfway (1 ∷ [])) false

abbrev pub coordinator_key_set : From
coordinator_key_set = from (with_keys false false) (at 9 (set_key coordinator_key true) ⇒ nothing_told ∷ []) (with_keys true false)

abbrev pub coordinator_key_cleared : From
coordinator_key_cleared = from (with_keys true true) (at 9 (set_key coordinator_key false) ⇒ nothing_told ∷ []) (with_keys false true)

abbrev pub group_key_set : From
group_key_set = from (with_keys false false) (at 9 (set_key aggregate_key true) ⇒ nothing_told ∷ []) (with_keys false true)

abbrev pub group_key_cleared : From
group_key_cleared = from (with_keys true true) (at 9 (set_key aggregate_key false) ⇒ nothing_told ∷ []) (with_keys true false)

-- What is taken changes.
-- "Success moves to Idle": records, shares and clocks stay
abbrev pub succeeded : From
succeeded =
    let r = progress nine (both [] ∷ []) (shared0 ∷ shared1 ∷ []) (Some 2) (Some 3) in
    from (held (standing (2 ∷ [])) (ids 1) (position (SigShareGather TaprootRoot) root) r true)
    (at 9 (aggregated true) ⇒ saying 2 ∷ [])
    (held (standing (2 ∷ [])) (ids 1) idle r false)

-- "`reset` empties `dkg_end_messages`, records, shares and clocks and keeps the struck list, ids, message and group key. Here it also
-- drops a job that is out"; the coordinator key is kept too
abbrev pub reset_whole : From
reset_whole =
    from
    (held (standing (2 ∷ []))
    (ids_of 3 4 5)
    (position (SigShareGather TaprootRoot) root)
    (progress nine (both [] ∷ []) (shared0 ∷ shared1 ∷ []) (Some 2) (Some 3))
    true)
    (at 9 reset ⇒ nothing_told ∷ [])
    (held (standing_of (apart three) [] true true (2 ∷ [])) (ids_of 3 4 5) idle (progress nine [] [] None None) false)

-- results: "replace the dkg id and the earlier ended signers", kept ascending, repeats once
abbrev pub results_taken : From
results_taken =
    from (held (standing_of (apart three) (0 ∷ 1 ∷ []) true true (2 ∷ [])) (ids_of 3 4 5) idle (halfway []) false)
    (at 9 (take_results 6 (2 ∷ 0 ∷ 2 ∷ [])) ⇒ nothing_told ∷ [])
    (held (standing_of (apart three) (0 ∷ 2 ∷ []) true true (2 ∷ [])) (ids_of 6 4 5) idle (halfway []) false)

-- a nonce request empties the records and starts its clock; shares and the share clock stay. By a start in Idle
abbrev pub started : From
started =
    from (held (standing (2 ∷ [])) (ids_of 3 4 5) idle (progress nine (both [] ∷ []) (shared0 ∷ shared1 ∷ []) (Some 2) (Some 3)) false)
    (starts 9 five Taproot root None ⇒ nonces_asked (request (ids_of 3 5 6) five Taproot []) ∷ [])
    (held (standing (2 ∷ []))
    (ids_of 3 5 6)
    (position (NonceGather Taproot) [])
    (progress five [] (shared0 ∷ shared1 ∷ []) (Some 9) (Some 3))
    false)

-- by a start while shares of its type are gathered
abbrev pub started_sharing : From
started_sharing =
    from (held (standing (2 ∷ [])) (ids 1) sharing (progress nine (both (0 ∷ []) ∷ []) (shared1 ∷ []) (Some 2) (Some 3)) false)
    (starts 9 five Frost [] (Some 7) ⇒ nonces_asked (request (ids_of 1 7 2) five Frost []) ∷ [])
    (held (standing (2 ∷ [])) (ids_of 1 7 2) nonces (progress five [] (shared1 ∷ []) (Some 9) (Some 3)) false)

-- by a retry, which also excludes: 6 − 1 − 1 keys are the threshold, 4
abbrev pub retried_whole : From
retried_whole =
    from (held (standing (2 ∷ [])) (ids 1) sharing (progress nine (both (0 ∷ []) ∷ []) (shared1 ∷ []) (Some 2) (Some 3)) false)
    (at 24 process_timeout ⇒ retried_with (0 ∷ []) (request9 2) ∷ [])
    (held (standing (0 ∷ 2 ∷ [])) (ids 2) nonces (progress nine [] (shared1 ∷ []) (Some 24) (Some 3)) false)

-- "InsufficientSigners, state kept, strikes kept": 6 − 2 − 1 are fewer; the waiters stay
abbrev pub insufficient_whole : From
insufficient_whole =
    from (held (standing (2 ∷ [])) (ids 1) sharing (halfway (1 ∷ [])) false)
    (at 24 process_timeout ⇒ insufficient (1 ∷ []) (1 ∷ 2 ∷ []) ∷ [])
    (held (standing (1 ∷ 2 ∷ [])) (ids 1) sharing (halfway (1 ∷ [])) false)

-- NonceTimeout: its waiters, not its responders, and "The state stays."
abbrev pub late_whole : From
late_whole =
    let r = progress nine (answered nine (q0 ∷ []) (1 ∷ []) ∷ []) (shared1 ∷ []) (Some 2) (Some 3) in
    let h = held (standing (2 ∷ [])) (ids 1) nonces r false in
    from h (at 13 process_timeout ⇒ nonces_late (1 ∷ []) (2 ∷ []) ∷ []) h

-- a response is recorded: the record of its message grows, or is made, and nothing else changes, also not the message
abbrev pub recorded_whole : From
recorded_whole =
    let q = under (ids_of 3 4 5) q2 in
    let h : List SignRoundInfo → Held = λ records.
    held (standing (1 ∷ [])) (ids_of 3 4 5) nonces (progress nine records (shared1 ∷ []) (Some 2) (Some 3)) false in
    from (h (answered nine (q0 ∷ []) (0 ∷ []) ∷ []))
    (answers 9 q ⇒ recorded_of 2 ∷ answers 8 (to five q) ⇒ recorded_of 2 ∷ [])
    (h
    (answered_at nine (q0 ∷ q ∷ []) (came 0 7 ∷ came 2 9 ∷ []) (0 ∷ 2 ∷ [])
    ∷ answered_at five (to five q ∷ []) (came 2 8 ∷ []) (2 ∷ [])
    ∷ []))

-- a share request empties the shares and starts its clock; the records, their readings and the clock of the nonces stay
abbrev pub shares_requested : From
shares_requested =
    let other5 = answered five (to five q0 ∷ []) (0 ∷ []) in
    let only1 = answered nine (q1 ∷ []) (1 ∷ []) in
    from (held (standing (2 ∷ [])) (ids 1) nonces (progress nine (other5 ∷ only1 ∷ []) (shared1 ∷ []) (Some 2) (Some 1)) false)
    (answers 9 q0 ⇒ shares_asked 0 (shares9 (q0 ∷ q1 ∷ [])) ∷ [])
    (held (standing (2 ∷ []))
    (ids 1)
    sharing
    (progress nine
    (other5 ∷ answered_at nine (q0 ∷ q1 ∷ []) (came 0 9 ∷ came 1 7 ∷ []) (0 ∷ 1 ∷ []) ∷ [])
    []
    (Some 2)
    (Some 9))
    false)

-- shares are kept in their place by signer, whoever comes first
abbrev pub shares_in_place : From
shares_in_place =
    let all : List ℕ → SignRoundInfo = λ waiters. answered nine (q0 ∷ q1 ∷ q2 ∷ []) waiters in
    from (held (standing (2 ∷ [])) (ids 1) sharing (progress nine (all (1 ∷ 2 ∷ []) ∷ []) (shared0 ∷ []) (Some 2) (Some 3)) false)
    (shares1 ⇒ taken_of 1 ∷ [])
    (held (standing (2 ∷ [])) (ids 1) sharing (progress nine (all (2 ∷ []) ∷ []) (shared0 ∷ shared1 ∷ []) (Some 2) (Some 3)) false)

-- the last waiter's put the job out
abbrev pub job_put : From
job_put =
    from (held (standing (2 ∷ [])) (ids 1) sharing (progress nine (both (0 ∷ []) ∷ []) (shared1 ∷ []) (Some 2) (Some 3)) false)
    (shares0 ⇒ job_given 0 true (job9 (share 0 (1 ∷ []) ∷ share 1 (2 ∷ 3 ∷ []) ∷ [])) ∷ [])
    (held (standing (2 ∷ [])) (ids 1) sharing (progress nine (both [] ∷ []) (shared0 ∷ shared1 ∷ []) (Some 2) (Some 3)) true)

-- "yes exactly when every responder's shares are held": 2's are held, which is no responder, and don't make up for 0's
abbrev pub shares_of_another : From
shares_of_another =
    let shared2 = shared 2 (4 ∷ []) in
    from (held (standing (2 ∷ [])) (ids 1) sharing (progress nine (both (1 ∷ []) ∷ []) (shared2 ∷ []) (Some 2) (Some 3)) false)
    (shares1 ⇒ job_given 1 false (job9 (share 1 (2 ∷ 3 ∷ []) ∷ [])) ∷ [])
    (held (standing (2 ∷ [])) (ids 1) sharing (progress nine (both [] ∷ []) (shared1 ∷ shared2 ∷ []) (Some 2) (Some 3)) true)

-- States that no list of calls reaches.
-- a malicious signer without an entry, or without a public key, counts no keys: 4 − 1 = 3
abbrev pub malicious_without_keys : From
malicious_without_keys =
    let s : List ℕ → Standing = λ malicious. standing_of odd.config (0 ∷ 1 ∷ []) true true malicious in
    from (held (s (3 ∷ 7 ∷ [])) (ids 1) sharing (progress nine (both (0 ∷ []) ∷ []) [] (Some 0) (Some 0)) false)
    (at 11 process_timeout ⇒ retried_with (0 ∷ []) (request9 2) ∷ [])
    (held (s (0 ∷ 3 ∷ 7 ∷ [])) (ids 2) nonces (progress nine [] [] (Some 11) (Some 0)) false)

-- two records of one message: the first is looked at and changed. A waiter that is listed twice is taken off
abbrev pub two_records : From
two_records =
    let r : List ℕ → Progress = λ waiters. progress nine (both waiters ∷ both (0 ∷ 2 ∷ []) ∷ []) (shared1 ∷ []) (Some 2) (Some 3) in
    let h : List ℕ → Held = λ waiters. held (standing (2 ∷ [])) (ids 1) sharing (r waiters) false in
    from (h (0 ∷ 0 ∷ 1 ∷ [])) (shares 0 2 (4 ∷ []) ⇒ nothing_told ∷ shares 0 0 [] ⇒ fails 22 (0 ∷ []) ∷ []) (h (1 ∷ []))

-- no clock was started
abbrev pub no_clock : From
no_clock =
    let h : Position → Held = λ p. held (standing []) (ids 1) p (progress nine (both (0 ∷ []) ∷ []) [] None None) false in
    from (h sharing) (at 99 process_timeout ⇒ nothing_told ∷ processes 99 (dkg_begin 7) ⇒ nothing_told ∷ []) (h sharing)

-- a job that is out in Idle: 5 and 6 look at the job and not at the state. A state without a type gives the result kind of type 0
abbrev pub job_in_idle : From
job_in_idle =
    let h : Bool → Held = λ job. held (standing []) (ids 1) idle (progress nine [] [] None None) job in
    from (h true)
    (starts 0 nine Frost [] None ⇒ refuses 5
    ∷ sends 0 (nonce_request (request (ids_of 1 7 1) five Frost [])) ⇒ refuses 5
    ∷ at 0 (aggregated true) ⇒ saying 0
    ∷ at 0 (aggregated true) ⇒ refuses 6
    ∷ [])
    (h false)

-- at rest packets and timeouts do nothing; the results of key generation are taken in Idle only
abbrev resting : State → From
resting s =
    let h = held (standing (2 ∷ [])) (ids 1) (position s []) (halfway (0 ∷ 1 ∷ [])) false in
    from h
    (at 99 process_timeout ⇒ nothing_told
    ∷ processes 99 (nonce_response q2) ⇒ nothing_told
    ∷ sends 99 (nonce_request (request (ids_of 1 7 1) five Frost [])) ⇒ nothing_told
    ∷ shares1 ⇒ nothing_told
    ∷ sends 99 (dkg_begin 7) ⇒ nothing_told
    ∷ at 99 (take_results 2 (0 ∷ [])) ⇒ refuses 24
    ∷ [])
    h

-- those are all states but Idle, NonceGather and SigShareGather
abbrev pub at_rest : List State
at_rest =
    DkgPublicDistribute
    ∷ DkgPublicGather
    ∷ DkgPublicSharesDoneDistribute
    ∷ DkgPublicSharesDoneGather
    ∷ DkgPrivateDistribute
    ∷ DkgPrivateGather
    ∷ DkgPrivateSharesDoneDistribute
    ∷ DkgPrivateSharesDoneGather
    ∷ DkgEndDistribute
    ∷ DkgEndGather
    ∷ NonceRequest Frost
    ∷ SigShareRequest Frost
    ∷ []

-- a start is taken in DkgEndGather, whatever its type
abbrev pub started_dkg_end : From
started_dkg_end =
    from (held (standing []) (ids_of 3 4 5) (position DkgEndGather []) (progress nine [] [] None None) false)
    (starts 9 five Schnorr [] None ⇒ nonces_asked (request (ids_of 3 5 6) five Schnorr []) ∷ [])
    (held (standing []) (ids_of 3 5 6) (position (NonceGather Schnorr) []) (progress five [] [] (Some 9) None) false)

-- Commissioning, and what a refusal changes
abbrev refused_rounds : List From
refused_rounds =
    commissioned_ascending
    ∷ miscounted4
    ∷ uncommissioned_stays
    ∷ refused_gathering
    ∷ nonce_ids_apart
    ∷ share_ids_apart
    ∷ refused_idle
    ∷ refused10
    ∷ refused5
    ∷ refused_sharing
    ∷ unverified13
    ∷ idle_unheld
    ∷ gathering_unheld
    ∷ start_refused
    ∷ unconfigured20
    ∷ unconfigured_unended
    ∷ unended
    ∷ no_entry21
    ∷ wrong_keys22
    ∷ failed23
    ∷ []

-- what does nothing, and the keys
abbrev silent_rounds : List From
silent_rounds =
    nothing_idle
    ∷ nothing_gathering
    ∷ nothing_sharing
    ∷ held_already
    ∷ coordinator_key_set
    ∷ coordinator_key_cleared
    ∷ group_key_set
    ∷ group_key_cleared
    ∷ []

-- what is taken
abbrev taken_rounds : List From
taken_rounds =
    succeeded
    ∷ reset_whole
    ∷ results_taken
    ∷ started
    ∷ started_sharing
    ∷ retried_whole
    ∷ insufficient_whole
    ∷ late_whole
    ∷ recorded_whole
    ∷ shares_requested
    ∷ shares_in_place
    ∷ job_put
    ∷ shares_of_another
    ∷ []

-- states that no list of calls reaches
abbrev unreached_rounds : List From
unreached_rounds =
    malicious_without_keys
    ∷ two_records
    ∷ no_clock
    ∷ job_in_idle
    ∷ started_dkg_end
    ∷ map resting at_rest

unfoldable pub kept : List From
kept = refused_rounds ++ silent_rounds ++ taken_rounds ++ unreached_rounds

-- The worked round, opened from what `ready` leaves: what demand 3's theorems suppose can be met
abbrev pub opener : Call
opener = starts 0 nine Frost [] None

abbrev pub opened9 : Coordinator
opened9 =
    record {
      standing = standing_of example (0 ∷ 1 ∷ 2 ∷ []) true true [];
      ids = ids 1;
      position = nonces;
      round = progress nine [] [] (Some 0) None;
      job = false;
    }
