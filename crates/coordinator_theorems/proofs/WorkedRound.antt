-- What demand 3's theorems suppose of a host can be met: the worked round, from any struct and any store of 52,224 bytes or more. The
-- store is nowhere computed; what struct and store stand for is carried to the definition's own worked round.
-- Assumes nothing.
use Rattle.std.specs.Prelude.{None}
use Prim.Native.Nat.{ℕ, zero, suc, ◌≤◌}
use mathlib.Core.Path.{◌≡◌, refl, sym, ap, subst, ◌∙◌}
use mathlib.Core.Bool.{true}
use mathlib.Core.List.{List, [], ◌∷◌, map}
use native.Mathlib.Omega.{arith}
use borrow.Author.Tests.{ltb-true}
use lib.Dec.{ltb}
use lib.ListN.{length, take, get_or, replicate, length-replicate}
use lib.Seq.{length-take-le}
use Rattle.wire.specs.Bytes.{All, Bytes, every, le, put}
use Rattle.wire.proofs.Lists.{and_left, and_right}
use Rattle.layout.specs.Limits.{store_length, answer_length}
use Rattle.layout.specs.Types.{root_length}
use Rattle.layout.specs.declared.SignatureType.TheVariants.{Frost}
use Rattle.validity.specs.Keys.{member}
use Rattle.layout.specs.Encode.{encode, header, header_bytes, packet as laid}
use Rattle.layout.specs.Messages.{NonceRequest, nonce_request}
use Rattle.step_definition.specs.Lists.{insert_by}
use Rattle.step_definition.specs.Ids.{insert_all, distinct, next}
use Rattle.step_definition.specs.Configuration.{question1, question2, set_sizes, question3}
use Rattle.step_definition.specs.Coordinator.{Held, uncommissioned, miscounted, commissioned}
use Rattle.step_definition.specs.Coordinator.{Coordinator as Defined}
use Rattle.step_definition.specs.Calls as A
use Rattle.step_definition.specs.Questions.{asks, before}
use Rattle.step_definition.specs.Effects.{root_for}
use Rattle.step_definition.specs.Starts.{start_round}
use Rattle.step_definition.specs.Step.{own, on_held, step_of, step}
use Rattle.step_definition.specs.Run.{final}
use Rattle.step_definition.specs.rounds.Rounds.{ready, nine, answers, q0, q1, request9}
use Rattle.step_definition.specs.rounds.Kept.{opener, opened9}
use Rattle.step_definition.specs.Demand3.{Plain, opened_by, first_share_request}
use Rattle.step_definition.specs.ResponseLog.{Opened, first_named, empty}
use Rattle.step_definition.proofs.Answers.{nonce_request-answer}
use Rattle.step_definition.proofs.WorkedRounds.{demand_3_can_be_met}
use Rattle.state.specs.declared.fields.Coordinator.{Coordinator}
use Rattle.state.specs.Counts.{sum, entries, entry_within, key_count, config_within, slot_within, row_within_limits, records_within, shares_within, is_within_limits}
use Rattle.state.specs.Setters.{set_keys}
use Rattle.state.specs.View.{reading}
use Rattle.state.specs.Turns.{asked, asked_if, unless}
use Rattle.configuration.specs.NewConfig.{numbers_in, new_config_of, new_asked, keys_given}
use Rattle.configuration.specs.Made.{entry_of, config_from}
use Rattle.commission.specs.Commission.{no_records, no_message, at_idle, fresh_of, commission_turn, uncommissioned_struct}
use Rattle.calls.specs.declared.held_keys.HeldKey.{HeldKey}
use Rattle.calls.specs.declared.held_keys.HeldKey.TheVariants as Which
use Rattle.calls.specs.Calls.{keys_with, set_key_turn}
use Rattle.results.specs.Results.{results_asked, with_results, results_turn}
use Rattle.starts.specs.Starts.{sign_id_of, start_named, start_requested, start_turn, round_turn, named_turn, request_turn}
use Rattle.state_table.specs.Moves.{accepted, can_move_to}
use Rattle.state_table.specs.States.{types_agree, same}
use Rattle.state.specs.Slots.{slot_from}
use Rattle.coordinator_theorems.specs.Host.{HostRequest, commission, set_key, take_results, Host, HostRefines, turn_for, turn_of, host_step, viewed, seen, host_run, host_final, as_request, as_call, Formed, GivenArrays, Makeable}
use Rattle.coordinator_theorems.specs.Demand3.{Fits, named, first_kind3}
use Rattle.coordinator_theorems.specs.WorkedRound.{example_given, lending, host_ready, host_opener, host_answers, readied, opened_from, HostMet}
use Rattle.coordinator_theorems.proofs.Keeps.{blank_formed}
use Rattle.coordinator_theorems.proofs.Refines.{call_refines, step_formed, run_refines}
use Rattle.coordinator_theorems.proofs.Demands.{held_seen, first_kind_3, plain_host, host_equal_futures, host_next_share_request}

-- the host's calls are the definition's; the start's root of 32 zeros counts as none, because its type has none
ready-calls : map as_call host_ready ≡ ready
unfolding as_call as_request new_config_of numbers_in
ready-calls = refl

answer-calls : map as_call host_answers ≡ answers 0 q0 ∷ answers 0 q1 ∷ []
unfolding as_call as_request
answer-calls = refl

opener_step : (h : Held) → step (as_call host_opener) h ≡ step opener h
unfolding as_call as_request step_of on_held own before asks start_round root_for root_length
opener_step uncommissioned = refl
opener_step miscounted = refl
opener_step (commissioned c) = refl

-- commissioning looks at nothing that was held
from_any : (h : Held) → final ready h ≡ final ready uncommissioned
unfolding final step_of
from_any h = refl

-- The struct after each call, as a term; the store enters by its length alone.
abbrev s₁ : Coordinator
s₁ = fresh_of example_given

abbrev s₂ : Coordinator
s₂ = set_keys (keys_with Which.Coordinator true s₁.keys) s₁

abbrev s₃ : Coordinator
s₃ = set_keys (keys_with Which.Aggregate true s₂.keys) s₂

abbrev s₄ : Coordinator
s₄ = with_results 1 (0 ∷ 1 ∷ 2 ∷ []) s₃

abbrev s₅ : Coordinator
s₅ = start_requested 0 Frost (replicate 32 0) (start_named nine None s₄)

abbrev After : HostRequest → Coordinator → Coordinator → Type 0
After q s s' = (store : List ℕ) → length store ≡ store_length → (turn_for q 0 true answer_length s store).after ≡ s'

-- the five calls pass 4 to 7, and what each asks besides
after₁ : (s : Coordinator) → After (commission example_given) s s₁
unfolding turn_for commission_turn unless new_asked new_config_of numbers_in question1 question2 question3 set_sizes distinct
after₁ s store e = refl

-- 4's counts: the four structs have the same
within₁ : is_within_limits s₁ ≡ true
unfolding is_within_limits config_within entries entry_within key_count sum slot_within row_within_limits records_within shares_within fresh_of config_from entry_of keys_given numbers_in insert_all insert_by no_records no_message
within₁ = refl

within₂ : is_within_limits s₂ ≡ true
unfolding is_within_limits
within₂ = within₁

within₃ : is_within_limits s₃ ≡ true
unfolding is_within_limits
within₃ = within₁

within₄ : is_within_limits s₄ ≡ true
unfolding is_within_limits with_results
within₄ = within₁

after₂ : After (set_key Which.Coordinator true) s₁ s₂
unfolding turn_for set_key_turn unless asked asked_if fresh_of
after₂ store e = rw (e, within₁)

after₃ : After (set_key Which.Aggregate true) s₂ s₃
unfolding turn_for set_key_turn unless asked asked_if fresh_of
after₃ store e = rw (e, within₂)

after₄ : After (take_results 1 (0 ∷ 1 ∷ 2 ∷ [])) s₃ s₄
unfolding turn_for results_turn results_asked slot_from entries config_from entry_of at_idle unless asked asked_if fresh_of
after₄ store e = rw (e, within₃)

after₅ : After host_opener.request s₄ s₅
unfolding turn_for start_turn round_turn named_turn request_turn start_named with_results keys_with can_move_to accepted same types_agree at_idle unless asked asked_if fresh_of
after₅ store e = rw (e, within₄)

-- along the calls
record Going (s : Coordinator) (x : Host) : Type 0 where
  struct : x.struct ≡ s
  formed : Formed x.struct
  long : store_length ≤ length x.store

lends : (n : ℕ) (q : HostRequest) → store_length ≤ n → GivenArrays q → Makeable n (lending q)
lends n q l a = record { given = a; lent = l }

goes : (q : HostRequest) (x : Host) (s s' : Coordinator) → GivenArrays q → Going s x → After q s s' → Going s' (host_step (lending q) x)
unfolding host_step
goes q x s s' a g after =
    let kept = step_formed (lending q) x g.formed (lends (length x.store) q g.long a) in
    let front = take store_length x.store in
    record {
      struct = ap (λ (s : Coordinator). (turn_for q 0 true answer_length s front).after) g.struct
          ∙ after front (length-take-le store_length x.store g.long);
      formed = kept.0;
      long = omega (arith, kept.1, g.long);
    }

-- numbers of their types
small : (l : List ℕ) → every (λ (b : ℕ). ltb b 256) l ≡ true → Bytes l
small [] e i = omega arith
small (x ∷ xs) e zero = ltb-true x 256 (and_left (ltb x 256) _ e)
small (x ∷ xs) e (suc i) = small xs (and_right (ltb x 256) _ e) i

s₅_fits : Fits s₅
unfolding start_requested start_named sign_id_of next with_results fresh_of no_message put
s₅_fits =
    record {
      ids = record { dkg_id = omega arith; sign_id = omega arith; sign_iter_id = omega arith };
      message = small s₅.message.bytes refl;
      root = small s₅.position.root refl;
    }

module _ (x : Host) (formed : Formed x.struct) (long : store_length ≤ length x.store) where
  began : Going x.struct x
  began = record { struct = refl; formed = formed; long = long }

  came : Going s₄ (readied x)
  unfolding host_final
  came =
      let x₁ = host_step (lending (commission example_given)) x in
      let x₂ = host_step (lending (set_key Which.Coordinator true)) x₁ in
      let x₃ = host_step (lending (set_key Which.Aggregate true)) x₂ in
      let g₁ = goes (commission example_given) x x.struct s₁ refl began (after₁ x.struct) in
      let g₂ = goes (set_key Which.Coordinator true) x₁ s₁ s₂ tt g₁ after₂ in
      let g₃ = goes (set_key Which.Aggregate true) x₂ s₂ s₃ tt g₂ after₃ in
      goes (take_results 1 (0 ∷ 1 ∷ 2 ∷ [])) x₃ s₃ s₄ tt g₃ after₄

  made : (n : ℕ) → store_length ≤ n → All (Makeable n) host_ready
  made n l =
      let keys : (which : HeldKey) → Makeable n (lending (set_key which true)) = λ which. lends n (set_key which true) l tt in
      let results = lends n (take_results 1 (0 ∷ 1 ∷ 2 ∷ [])) l tt in
      (lends n (commission example_given) l refl, (keys Which.Coordinator, (keys Which.Aggregate, (results, tt))))

  answered : (n : ℕ) → store_length ≤ n → All (Makeable n) host_answers
  answered n l = (record { given = tt; lent = l }, (record { given = tt; lent = l }, tt))

  opening : Makeable (length (readied x).store) host_opener
  opening = record { given = refl; lent = came.long }

  -- what is stood for before and after the opening call
  stood : viewed (readied x) ≡ final ready uncommissioned
  stood =
      (run_refines host_ready x formed (made (length x.store) long)).1 ∙ ap (λ (ks : List A.Call). final ks (viewed x)) ready-calls
      ∙ from_any (viewed x)

  stepped : step (as_call host_opener) (viewed (readied x)) ≡ step opener (final ready uncommissioned)
  stepped = opener_step (viewed (readied x)) ∙ ap (step opener) stood

  refined : HostRefines host_opener (readied x)
  refined = call_refines host_opener (readied x) came.formed opening

  standing : viewed (opened_from x) ≡ commissioned opened9
  standing = refined.after ∙ ap (λ (o : A.Outcome). o.after) stepped ∙ demand_3_can_be_met.opens.leaves

  wrote : (turn_of host_opener (readied x)).answer ≡ A.sending A.packet (encode (nonce_request (request9 1)))
  wrote =
      refined.answer ∙ ap (λ (o : A.Outcome). o.answer) stepped
      ∙ nonce_request-answer opener (final ready uncommissioned) (request9 1) demand_3_can_be_met.opens.sends

  first_byte : get_or (encode (nonce_request (request9 1))) 0 0 ≡ 1
  unfolding encode header laid header_bytes le
  first_byte = refl

  pub host_demand_3_can_be_met : HostMet x
  unfolding named
  host_demand_3_can_be_met =
      let kept = step_formed host_opener (readied x) came.formed opening in
      let few : store_length ≤ length (opened_from x).store = omega (arith, kept.1, came.long) in
      let same : Plain (map as_call host_answers) (viewed (opened_from x)) =
      subst (Plain (map as_call host_answers)) (sym standing)
      (subst (λ (ks : List A.Call). Plain ks (commissioned opened9)) (sym answer-calls) demand_3_can_be_met.plain) in
      record {
        ready = made (length x.store) long;
        formed = came.formed;
        opener = opening;
        opens = ap (λ (a : A.Answer). get_or a.bytes 0 0) wrote ∙ first_byte;
        writes = ap (λ (a : A.Answer). a.bytes) wrote;
        stands = sym (held_seen (opened_from x).struct (opened_from x).store opened9 standing);
        fits = rw (goes host_opener.request (readied x) s₄ s₅ refl came after₅).struct s₅_fits;
        answers = answered (length (readied x).store) came.long;
        plain = plain_host host_answers (opened_from x) kept.0 (answered (length (opened_from x).store) few) same;
        sends = first_kind_3 host_answers (opened_from x) kept.0 (answered (length (opened_from x).store) few)
            ∙ ap (λ (h : Held). named (first_share_request (map as_call host_answers) h)) standing
            ∙ ap (λ (ks : List A.Call). named (first_share_request ks (commissioned opened9))) answer-calls
            ∙ ap named demand_3_can_be_met.sends;
      }

-- so both halves of demand 3 can be used: of any two hosts that make these calls, and of the share request that leaves
pub worked_round_alike :
    (x₁ x₂ : Host) → HostMet x₁ → HostMet x₂ → host_run host_answers (opened_from x₁) ≡ host_run host_answers (opened_from x₂)
worked_round_alike x₁ x₂ m₁ m₂ =
    let same : seen (opened_from x₁) ≡ seen (opened_from x₂) = m₁.stands ∙ sym m₂.stands in
    host_equal_futures host_opener host_opener (readied x₁) (readied x₂) m₁.formed m₂.formed m₁.opener m₂.opener m₁.opens
    (m₁.writes ∙ sym m₂.writes) refl m₁.fits m₂.fits
    (record { standing = ap (λ (c : Defined). c.standing) same; dkg_id = ap (λ (c : Defined). c.ids.dkg_id) same })
    host_answers m₁.answers m₂.answers

abbrev opened : Host → NonceRequest → Opened
opened x q = opened_by (as_call host_opener) q (seen (opened_from x))

pub worked_round_named :
    (x : Host) → HostMet x
    → (q : NonceRequest)
    × (first_kind3 host_answers (opened_from x) ≡ named (first_named (opened x q) (empty (opened x q)) (map as_call host_answers)))
worked_round_named x m =
    let next = host_next_share_request host_opener (readied x) m.formed m.opener m.opens host_answers m.answers m.plain in
    (next.0, next.2)

-- such a host: the uncommissioned struct and a store of zeros
pub uncommissioned_meets : HostMet (record { struct = uncommissioned_struct; store = replicate store_length 0 })
uncommissioned_meets = host_demand_3_can_be_met _ blank_formed (omega (arith, length-replicate {A = ℕ} store_length 0))
