-- 01's worked rounds marked P, and a round for each of its clauses: each, played, tells what its table says. One theorem a table, by one
-- computation.
-- Assumes nothing.
use mathlib.Core.Path.{◌≡◌, refl}
use mathlib.Core.Bool.{true, false}
use mathlib.Core.List.{List, [], ◌∷◌, map}
use Rattle.std.specs.Prelude.{Some}
use Rattle.wire.specs.Bytes.{le, number, joined, every, are_same_bytes}
use Rattle.layout.specs.Decode.{entries, ids_in, nonce_in, nonces_in, share_in, response_in, request_in, share_request_in, share_response_in, message_in, response_within, key_count, within, decode}
use Rattle.layout.specs.Encode.{header_bytes, table, packet, id_bytes, nonce_bytes, share_bytes, response_parts, encode_response, header, parts}
use Rattle.layout.specs.Encode.{encode, encode_job, encode_nonce_timeout, encode_insufficient_signers, clock_bytes, encode_arrivals}
use Rattle.layout.specs.LaidOut.{header_in, part_at, parts_from, tiles, dkg_only, headed, framed, whole_entries, whole_share, whole_response, response_laid_out, whole_root, whole_lists, is_laid_out}
use Rattle.layout.specs.Types.{type_of, root_length}
use Rattle.layout.specs.Messages.{nonce_response}
use Rattle.validity.specs.Keys.{member, subset, same_set}
use Rattle.validity.specs.Nonces.{valid_point, valid_nonce, nonces_valid}
use Rattle.state_table.specs.Moves.{accepted, can_move_to}
use Rattle.state_table.specs.declared.State.TheVariants.{Idle}
use Rattle.state_table.specs.States.{position, same_type, types_agree, same}
use Rattle.step_definition.specs.Lists.{find, change, insert_by, first}
use Rattle.step_definition.specs.Ids.{insert_all, remove, without, distinct, next, previous}
use Rattle.step_definition.specs.Configuration.{question1, question2, set_sizes, question3, ascending_signers, ascending, num_key_ids}
use Rattle.step_definition.specs.Questions.{question4, question5, question6, question7, asks, before, question9, question10, question11, fires, question12, question13, question14, question15, admitted, question19, question20, question21, question22, question24, question25}
use Rattle.step_definition.specs.Effects.{root_for, recv_key_ids, share_key_ids, joined_keys, joined_nonces, joined_shares, all_shared, whole}
use Rattle.step_definition.specs.Starts.{start_round, idle_request, idle}
use Rattle.step_definition.specs.Timeouts.{nonce_timeout, share_timeout, timeout_in}
use Rattle.step_definition.specs.NonceGather.{nonce_verdict, record_verdict, on_record, on_nonces}
use Rattle.step_definition.specs.SigShareGather.{share_verdict, any_waits, take_verdict, on_take, on_shares}
use Rattle.step_definition.specs.Step.{message_in as message_in', on_message, on_packet, on_aggregated, on_results, on_arrivals, own}
use Rattle.step_definition.specs.Step.{on_commission, on_held, step_of}
use Rattle.step_definition.specs.Run.{malicious_in, run, final}
use Rattle.step_definition.specs.rounds.Rounds.{rounds, played, left_in, play, play_from, at, sends, processes, ready, request9, q0, q1, q2, answers, shares9}
use Rattle.step_definition.specs.rounds.Corners.{corners}
use Rattle.step_definition.specs.rounds.EveryCall.{commissionings, every_call}
use Rattle.step_definition.specs.rounds.Asked.{asked}
use Rattle.step_definition.specs.rounds.Jobs.{jobs}
use Rattle.step_definition.specs.rounds.Marks.{marks}
use Rattle.step_definition.specs.rounds.Arrivals.{arrivals}
use Rattle.step_definition.specs.rounds.Kept.{kept, opener, opened9}
use Rattle.step_definition.specs.Coordinator.{uncommissioned, commissioned}
use Rattle.step_definition.specs.Calls.{coordinator_key, aggregate_key, Call, set_key, take_results, can_move, process_timeout, aggregated}
use Rattle.step_definition.specs.Calls.{tell_arrivals}
use Rattle.step_definition.specs.ResponseLog.{or_later}
use Rattle.step_definition.specs.Counts.{config_within, record_within, shares_within, within_limits}
use Rattle.step_definition.specs.rounds.AtLimits.{count, at_limits}
use Rattle.step_definition.specs.Silence.{sealed, heard_in, heard_by, heard_on, heard, listen, listening, watch_after, watch, watched}
use Rattle.step_definition.specs.rounds.Runs.{play_run, watched_runs}
use Rattle.step_definition.specs.Demand3.{Opens, plain_operation, plain_request, group_key_in, Plain, first_share_request}

-- What demand 3's theorems suppose is met by the worked round, where 0 and 1 answer and the second's response sends the share request ...
abbrev two_answers : List Call
two_answers = answers 0 q0 ∷ answers 0 q1 ∷ []

-- ... and by a list in which each call stands that may: the key calls, the results, the move question, both calls that bring a packet, the
-- timeout, the aggregator's answer and the query of arrivals, some of them refused
abbrev each_call : List Call
each_call =
    at 0 (set_key coordinator_key false)
    ∷ at 0 (set_key coordinator_key true)
    ∷ at 0 (set_key aggregate_key true)
    ∷ at 0 (take_results 2 (0 ∷ []))
    ∷ at 0 (can_move (position Idle []))
    ∷ processes 0 (nonce_response q0)
    ∷ sends 0 (nonce_response q2)
    ∷ at 0 process_timeout
    ∷ at 0 (aggregated true)
    ∷ at 0 tell_arrivals
    ∷ processes 0 (nonce_response q1)
    ∷ []

pub record Met : Type 0 where
  pub opens : Opens opener (final ready uncommissioned) (request9 1) opened9
  pub plain : Plain two_answers (commissioned opened9)
  pub sends : first_share_request two_answers (commissioned opened9) ≡ Some (record { call = 1; request = shares9 (q0 ∷ q1 ∷ []) })
  pub each_plain : Plain each_call (commissioned opened9)
  pub each_sends : first_share_request each_call (commissioned opened9) ≡ Some (record { call = 10; request = shares9 (q0 ∷ q1 ∷ q2 ∷ []) })

-- all tables in one computation
tables :
    (map play rounds ≡ rounds)
    × (map play corners ≡ corners)
    × (map play commissionings ≡ commissionings)
    × (map play every_call ≡ every_call)
    × (map play asked ≡ asked)
    × (map play jobs ≡ jobs)
    × (map play_from kept ≡ kept)
    × (map count at_limits ≡ at_limits)
    × (map play_run watched_runs ≡ watched_runs)
    × (map play marks ≡ marks)
    × (map play arrivals ≡ arrivals)
    × Met
unfolding le number entries ids_in nonce_in nonces_in share_in response_in request_in share_request_in
    share_response_in message_in response_within key_count within decode header_bytes table packet id_bytes nonce_bytes
    share_bytes response_parts encode_response header parts encode encode_job encode_nonce_timeout encode_insufficient_signers
    clock_bytes encode_arrivals
    header_in part_at parts_from tiles dkg_only headed framed whole_entries whole_share whole_response response_laid_out
    whole_root whole_lists is_laid_out type_of root_length subset same_set valid_point valid_nonce nonces_valid accepted
    can_move_to same_type types_agree same change insert_by insert_all remove without distinct next previous question1
    question2 set_sizes question3 ascending_signers ascending num_key_ids question4 question5 question6 question7 asks
    before question9 question10 question11 fires question12 question13 question14 question15 admitted question19
    question20 question21 question22 question24 question25 root_for recv_key_ids share_key_ids joined_keys joined_nonces
    joined_shares all_shared whole start_round idle_request idle nonce_timeout share_timeout timeout_in nonce_verdict record_verdict
    on_record on_nonces share_verdict any_waits take_verdict on_take on_shares message_in' on_message on_packet on_aggregated
    on_results on_arrivals own on_commission on_held step_of final played left_in play play_from rounds corners commissionings every_call
    asked jobs marks arrivals kept first plain_operation plain_request group_key_in first_share_request or_later config_within record_within
    shares_within within_limits count at_limits malicious_in run sealed heard_in heard_by heard_on heard listen listening
    watch_after watch watched play_run watched_runs
tables = (
  refl,
  refl,
  refl,
  refl,
  refl,
  refl,
  refl,
  refl,
  refl,
  refl,
  refl,
  record {
    opens = record { sends = refl; leaves = refl };
    plain = (refl, refl, (refl, refl, tt));
    sends = refl;
    each_plain = (
      refl,
      refl,
      (
        refl,
        refl,
        (
          refl,
          refl,
          (
            refl,
            refl,
            (
              refl,
              refl,
              (refl, refl, (refl, refl, (refl, refl, (refl, refl, (refl, refl, (refl, refl, tt)))))),
            ),
          ),
        ),
      ),
    );
    each_sends = refl;
  },
)

pub worked_rounds : map play rounds ≡ rounds
worked_rounds = tables.0

pub corner_rounds : map play corners ≡ corners
corner_rounds = tables.1

pub commissioning-rounds : map play commissionings ≡ commissionings
commissioning-rounds = tables.2

pub every_call-rounds : map play every_call ≡ every_call
every_call-rounds = tables.3

pub asked-rounds : map play asked ≡ asked
asked-rounds = tables.4

pub job-rounds : map play jobs ≡ jobs
job-rounds = tables.5

pub kept_rounds : map play_from kept ≡ kept
kept_rounds = tables.6

pub limit_rounds : map count at_limits ≡ at_limits
limit_rounds = tables.7

pub watched_runs_law : map play_run watched_runs ≡ watched_runs
watched_runs_law = tables.8

pub mark-rounds : map play marks ≡ marks
mark-rounds = tables.9

pub arrival_rounds : map play arrivals ≡ arrivals
arrival_rounds = tables.10

pub demand_3_can_be_met : Met
demand_3_can_be_met = tables.11
