-- Runs: what a host sees of one, each answer with the malicious list after it; and who is silent beside it.
use Rattle.std.specs.Prelude.{None, ℕ, true, false, List, [], ◌∷◌, ◌++◌}
use Rattle.layout.specs.Limits.{store_length, answer_length}
use Rattle.layout.specs.declared.Ids.{Ids}
use Rattle.layout.specs.declared.SignatureType.TheVariants.{Frost, Schnorr}
use Rattle.layout.specs.Messages.{SignatureShareRequest, Message, signature_share_request}
use Rattle.layout.specs.Encode.{encode, encode_insufficient_signers}
use Rattle.step_definition.specs.Coordinator.{uncommissioned}
use Rattle.step_definition.specs.Calls.{process_message, coordinator_key, aggregate_key, other, Call, set_key, receive, process_timeout, reset}
use Rattle.step_definition.specs.Calls.{packet, result, error, Answer}
use Rattle.step_definition.specs.Run.{Seen, run, final}
use Rattle.step_definition.specs.Silence.{Watch, unasked, broken, watching, watched}
use Rattle.step_definition.specs.rounds.Rounds.{lending, at, sends, processes, starts, ids_of, ids, nine, five, q0, q1, q2, under, answers}
use Rattle.step_definition.specs.rounds.Rounds.{share, shares_of, shares, shares0, shares1, share_request, shares9, begun, gathered}
use Rattle.step_definition.specs.rounds.Rounds.{nothing_said, numbered, written}

-- the calls that open it, the calls that are looked at, what is seen of these, and who is silent after all
pub record WatchedRun : Type 0 where
  pub opening : List Call
  pub calls : List Call
  pub seen : List Seen
  pub watch : Watch

abbrev pub watched_run : List Call → List Call → List Seen → Watch → WatchedRun
watched_run opening calls seen watch = record { opening = opening; calls = calls; seen = seen; watch = watch }

unfoldable pub play_run : WatchedRun → WatchedRun
play_run r =
    watched_run r.opening
    r.calls
    (run r.calls (final r.opening uncommissioned))
    (watched (r.opening ++ r.calls) uncommissioned unasked)

abbrev sees : Answer → List ℕ → Seen
sees a malicious = record { answer = a; malicious = malicious }

-- 0's packet of kind 4, and the share request that it answers
abbrev m0 : Message
m0 = shares_of (ids 1) 0 (share 0 (1 ∷ []) ∷ [])

abbrev asked9 : SignatureShareRequest
asked9 = shares9 (q0 ∷ q1 ∷ [])

-- no share request has left
abbrev pub not_asked : WatchedRun
not_asked = watched_run begun (answers 0 q0 ∷ []) (sees nothing_said [] ∷ []) unasked

-- with the share request all of its responders are silent
abbrev pub asks_two : WatchedRun
asks_two =
    watched_run begun
    (answers 0 q0 ∷ answers 0 q1 ∷ [])
    (sees nothing_said [] ∷ sees (written packet (encode (signature_share_request asked9))) [] ∷ [])
    (watching asked9 (0 ∷ 1 ∷ []))

-- 0 shares; the timeout excludes 1, and the malicious list that is seen is the one after the call
abbrev pub marks_the_silent : WatchedRun
marks_the_silent =
    watched_run gathered
    (shares0 ∷ at 11 process_timeout ∷ at 12 reset ∷ [])
    (sees nothing_said [] ∷ sees (written result (encode_insufficient_signers (1 ∷ []))) (1 ∷ []) ∷ sees nothing_said (1 ∷ []) ∷ [])
    (watching asked9 (1 ∷ []))

-- shares under another dkg or sign id are no answer to the request; the iteration is not compared, and refused shares are an answer
abbrev pub answers_by_ids : WatchedRun
answers_by_ids =
    let from0 : Ids → Call = λ i. sends 0 (shares_of i 0 (share 0 (1 ∷ []) ∷ [])) in
    watched_run gathered
    (from0 (ids_of 7 1 1) ∷ from0 (ids_of 1 7 1) ∷ [])
    (sees (numbered result 16 (7 ∷ 1 ∷ [])) [] ∷ sees (numbered result 17 (7 ∷ 1 ∷ [])) [] ∷ [])
    (watching asked9 (0 ∷ 1 ∷ []))

abbrev pub answers_any_iteration : WatchedRun
answers_any_iteration =
    watched_run gathered
    (sends 0 (shares_of (ids 7) 0 (share 0 (1 ∷ []) ∷ [])) ∷ shares 0 1 (2 ∷ []) ∷ [])
    (sees nothing_said [] ∷ sees (numbered result 22 (1 ∷ [])) [] ∷ [])
    (watching asked9 [])

-- a packet is not heard where 4, 5, 7, 8, 9, 13 or 14 is answered no
abbrev pub unheard_packets : WatchedRun
unheard_packets =
    watched_run gathered
    (lending 0 true 0 answer_length (other (receive process_message (encode m0)))
    ∷ lending 0 true store_length 0 (other (receive process_message (encode m0)))
    ∷ lending 0 false store_length answer_length (other (receive process_message (encode m0)))
    ∷ at 0 (set_key coordinator_key false)
    ∷ sends 0 m0
    ∷ [])
    (sees (numbered error 4 []) []
    ∷ sees (numbered error 7 []) []
    ∷ sees (numbered error 14 []) []
    ∷ sees nothing_said []
    ∷ sees (numbered error 13 []) []
    ∷ [])
    (watching asked9 (0 ∷ 1 ∷ []))

-- nor where the call's own timeout fired: `process` tests it, `process_message` doesn't
abbrev pub late_unheard : WatchedRun
late_unheard =
    watched_run gathered
    (processes 11 m0 ∷ [])
    (sees (written result (encode_insufficient_signers (0 ∷ 1 ∷ []))) (0 ∷ 1 ∷ []) ∷ [])
    (watching asked9 (0 ∷ 1 ∷ []))

abbrev pub late_heard : WatchedRun
late_heard = watched_run gathered (sends 11 m0 ∷ []) (sees nothing_said [] ∷ []) (watching asked9 (1 ∷ []))

-- a start that is refused with 11 ends the watch, and only 11 does
abbrev pub broken_by11 : WatchedRun
broken_by11 =
    watched_run gathered
    (starts 0 five Schnorr [] None ∷ shares0 ∷ [])
    (sees (numbered error 11 []) [] ∷ sees nothing_said [] ∷ [])
    broken

abbrev pub not_broken_by10 : WatchedRun
not_broken_by10 =
    watched_run gathered
    (at 0 (set_key aggregate_key false) ∷ starts 0 five Schnorr [] None ∷ [])
    (sees nothing_said [] ∷ sees (numbered error 10 []) [] ∷ [])
    (watching asked9 (0 ∷ 1 ∷ []))

-- the next share request is watched from then on
abbrev pub asks_anew : WatchedRun
asks_anew =
    let again = share_request (ids 2) nine Frost [] (under (ids 2) q1 ∷ under (ids 2) q2 ∷ []) in
    watched_run (gathered ++ (shares1 ∷ at 11 process_timeout ∷ answers 11 (under (ids 2) q2) ∷ []))
    (answers 11 (under (ids 2) q1) ∷ [])
    (sees (written packet (encode (signature_share_request again))) (0 ∷ []) ∷ [])
    (watching again (1 ∷ 2 ∷ []))

unfoldable pub watched_runs : List WatchedRun
watched_runs =
    not_asked
    ∷ asks_two
    ∷ marks_the_silent
    ∷ answers_by_ids
    ∷ answers_any_iteration
    ∷ unheard_packets
    ∷ late_unheard
    ∷ late_heard
    ∷ broken_by11
    ∷ not_broken_by10
    ∷ asks_anew
    ∷ []
