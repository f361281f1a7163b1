-- One theorem over all calls, and over lists of them: what a host's calls give on its struct and store is what the step says of what
-- these stand for.
-- Assumes nothing.
use Rattle.std.specs.Prelude.{Err, Ok}
use Prim.Native.Nat.{ℕ, ◌≤◌, ◌<◌}
use mathlib.Core.Path.{◌≡◌, refl, sym, ap, subst, ◌∙◌}
use mathlib.Core.Bool.{Bool, true, false}
use mathlib.Core.List.{List, [], ◌∷◌, ◌++◌, map}
use native.Mathlib.Omega.{arith}
use borrow.Author.Tests.{leb-true, leb-false}
use lib.Dec.{leb}
use lib.ListN.{length, take, drop, replicate, length-drop, length-append, take-append-drop}
use lib.Seq.{length-take-le}
use Rattle.wire.specs.Bytes.{All}
use Rattle.layout.specs.Limits.{store_length}
use Rattle.step_definition.specs.Calls as A
use Rattle.step_definition.specs.Run.{run, final}
use Rattle.step_definition.specs.Step.{step_of, step}
use Rattle.state.specs.declared.fields.Coordinator.{Coordinator}
use Rattle.state.specs.View.{view, held_if, position_of}
use Rattle.state.specs.Turns.{Turn, turn, unless, Refines}
use Rattle.state.specs.Passed.{Passed}
use Rattle.configuration.specs.declared.new_config.NewConfig.{NewConfig}
use Rattle.configuration.specs.NewConfig.{new_config_of, new_asked}
use Rattle.commission.specs.Commission.{uncommissioned_struct, fresh_of, commission_turn}
use Rattle.commission.proofs.Refines.{fresh_stands}
use Rattle.calls.specs.Calls.{asking_no_job, asking_ajob, set_key_turn, move_turn, aggregated_turn}
use Rattle.calls.specs.Resets.{asks_nothing, reset_turn}
use Rattle.results.specs.Results.{results_turn}
use Rattle.starts.specs.Starts.{asking_start, start_turn}
use Rattle.arrivals.specs.Query.{asking_query, arrivals_turn}
use Rattle.process_timeout.specs.ProcessTimeout.{asking_timeout, process_timeout_turn}
use Rattle.packet_entry.specs.Entries.{entry_of}
use Rattle.process.specs.Process.{asking_packet, receive_turn}
use Rattle.coordinator_theorems.specs.Host.{HostRequest, commission, set_key, take_results, can_move, start, receive, process_timeout}
use Rattle.coordinator_theorems.specs.Host.{aggregated, reset, tell_arrivals}
use Rattle.coordinator_theorems.specs.Host.{HostRefines, Makeable}
use Rattle.coordinator_theorems.specs.Host.{HostCall, Host, turn_for, turn_of, host_step, viewed, host_run, host_final, held_key, host_sign_id, as_request, as_call, Formed, GivenArrays}
use Rattle.coordinator_theorems.proofs.Lent.{view_lent, short-asked, short_step}
use Rattle.coordinator_theorems.proofs.Calls.{as_shaped, turn_refines}
use Rattle.coordinator_theorems.proofs.Keeps.{turn_keeps}

-- refused with 4
unless_4 : (p : Passed) (s : Coordinator) (store : List ℕ) (rest : Turn) → p ≡ Err 4 → unless p s store rest ≡ turn (A.refusing A.error 4 []) s store
unfolding unless
unless_4 p s store rest e = rw e

-- a commissioned struct stands for the same beside any store
any_store : (g : NewConfig) → length g.signers ≡ 11 → (store a b : List ℕ) → view (commission_turn g store).after a ≡ view (commission_turn g store).after b
unfolding commission_turn unless view held_if uncommissioned_struct
any_store g long store a b = by (new_asked (new_config_of g)) refl
  where
    by : (p : Passed) → new_asked (new_config_of g) ≡ p
        → view (unless p uncommissioned_struct store (turn A.plain (fresh_of g) (replicate (length store) 0))).after a ≡ view (unless p uncommissioned_struct store (turn A.plain (fresh_of g) (replicate (length store) 0))).after b
    by (Ok tt) y = fresh_stands g long y a ∙ sym (fresh_stands g long y b)
    by (Err n) y = refl

module _ (k : HostCall) (x : Host) (formed : Formed x.struct) (m : Makeable (length x.store) k) where
  abbrev s : Coordinator
  s = x.struct

  abbrev front : List ℕ
  front = take k.lent x.store

  abbrev back : List ℕ
  back = drop k.lent x.store

  front_length : length front ≡ k.lent
  front_length = length-take-le k.lent x.store m.lent

  whole : front ++ back ≡ x.store
  whole = take-append-drop k.lent x.store

  lent_refines : Refines (turn_of k x) (step (as_call k) (view s front))
  unfolding as_call
  lent_refines = rw front_length at (turn_refines k.request k.clock k.verdict k.room s front formed m.given)

  -- enough is lent: the view looks at nothing else
  lent_enough : store_length ≤ k.lent → HostRefines k x
  unfolding host_step
  lent_enough long =
      let kept = turn_keeps k.request k.clock k.verdict k.room s front formed m.given in
      let seen : view s front ≡ viewed x = sym (view_lent s (as_shaped formed) front back (omega (arith, front_length))) ∙ ap (view s) whole in
      let r : Refines (turn_of k x) (step (as_call k) (viewed x)) = rw seen at lent_refines in
      record {
        answer = r.answer;
        events = r.events;
        after = view_lent (turn_of k x).after (as_shaped kept.formed) (turn_of k x).store back (omega (arith, kept.stored, front_length)) ∙ r.after;
      }

  -- too little is lent: 4, and nothing changes
  short : (o : A.Operation) → as_request k.request ≡ A.other o → k.lent < store_length → turn_of k x ≡ turn (A.refusing A.error 4 []) s front → HostRefines k x
  unfolding host_step as_call step_of
  short o q l e =
      let refused : step (as_call k) (viewed x) ≡ A.outcome (A.refusing A.error 4 []) [] (viewed x) =
      ap (λ (q : A.Request). step_of (as_call k) q (viewed x)) q ∙ short_step (as_call k) o (viewed x) l in
      record {
        answer = rw (e, refused);
        events = rw (e, refused);
        after = rw (e, refused, whole) refl;
      }

-- too little is lent, call by call
lent_short : (k : HostCall) (x : Host) → Formed x.struct → Makeable (length x.store) k → k.lent < store_length → HostRefines k x
unfolding turn_for as_request as_call host_step step_of set_key_turn results_turn move_turn start_turn receive_turn process_timeout_turn aggregated_turn reset_turn arrivals_turn
lent_short k x f m l = by k.request refl
  where
    given_to : HostRequest → Turn
    given_to q = turn_for q k.clock k.verdict k.room x.struct (take k.lent x.store)

    few : length (take k.lent x.store) < store_length
    few = omega (arith, front_length k x f m)

    refused : (o : A.Operation) (q : HostRequest) → k.request ≡ q → as_request q ≡ A.other o → given_to q ≡ turn (A.refusing A.error 4 []) x.struct (take k.lent x.store) → HostRefines k x
    refused o q e a t = short k x f m o (ap as_request e ∙ a) l (ap given_to e ∙ t)

    by : (q : HostRequest) → k.request ≡ q → HostRefines k x
    by (commission g) e =
        let r = lent_refines k x f m in
        let long : length g.signers ≡ 11 = subst GivenArrays e m.given in
        let same : step (as_call k) (view x.struct (take k.lent x.store)) ≡ step (as_call k) (viewed x) =
        ap (λ (q : HostRequest). step_of (as_call k) (as_request q) (view x.struct (take k.lent x.store))) e
        ∙ sym (ap (λ (q : HostRequest). step_of (as_call k) (as_request q) (viewed x)) e) in
        let anywhere : (a b : List ℕ) → view (turn_of k x).after a ≡ view (turn_of k x).after b =
        λ a b. subst (λ (t : Turn). view t.after a ≡ view t.after b) (sym (ap given_to e)) (any_store g long (take k.lent x.store) a b) in
        record {
          answer = r.answer ∙ ap (λ (o : A.Outcome). o.answer) same;
          events = r.events ∙ ap (λ (o : A.Outcome). o.events) same;
          after = anywhere ((turn_of k x).store ++ drop k.lent x.store) (turn_of k x).store ∙ r.after ∙ ap (λ (o : A.Outcome). o.after) same;
        }
    by (set_key which held) e = refused (A.set_key (held_key which) held) (set_key which held) e refl (unless_4 _ _ _ _ (short-asked asking_no_job _ 0 x.struct few))
    by (take_results dkg ended) e = refused (A.take_results dkg ended) (take_results dkg ended) e refl (unless_4 _ _ _ _ (short-asked asking_no_job _ 0 x.struct few))
    by (can_move next root) e =
        refused (A.can_move (position_of (record { state = next; root = root }))) (can_move next root) e refl (unless_4 _ _ _ _ (short-asked asking_no_job _ 0 x.struct few))
    by (start msg b) e =
        refused (A.start_signing (record { message = msg; signature_type = b.signature_type; root = b.root; sign_id = host_sign_id b.sign_id })) (start msg b) e refl
        (unless_4 _ _ _ _ (short-asked asking_start _ k.room x.struct few))
    by (receive entry p) e = refused (A.receive (entry_of entry) p) (receive entry p) e refl (unless_4 _ _ _ _ (short-asked asking_packet _ k.room x.struct few))
    by process_timeout e = refused A.process_timeout process_timeout e refl (unless_4 _ _ _ _ (short-asked asking_timeout _ k.room x.struct few))
    by (aggregated ok) e = refused (A.aggregated ok) (aggregated ok) e refl (unless_4 _ _ _ _ (short-asked asking_ajob _ 0 x.struct few))
    by reset e = refused A.reset reset e refl (unless_4 _ _ _ _ (short-asked asks_nothing _ 0 x.struct few))
    by tell_arrivals e = refused A.tell_arrivals tell_arrivals e refl (unless_4 _ _ _ _ (short-asked asking_query _ k.room x.struct few))

-- every call, on every struct whose arrays have their lengths, with every store
pub call_refines : (k : HostCall) (x : Host) → Formed x.struct → Makeable (length x.store) k → HostRefines k x
call_refines k x f m = by (leb store_length k.lent) refl
  where
    by : (b : Bool) → leb store_length k.lent ≡ b → HostRefines k x
    by true e = lent_enough k x f m (leb-true _ _ e)
    by false e = lent_short k x f m (leb-false _ _ e)

-- a call leaves what a host can make the next call on
pub step_formed : (k : HostCall) (x : Host) → Formed x.struct → Makeable (length x.store) k
    → Formed (host_step k x).struct × (length (host_step k x).store ≡ length x.store)
unfolding host_step
step_formed k x f m =
    let kept = turn_keeps k.request k.clock k.verdict k.room x.struct (take k.lent x.store) f m.given in
    (kept.formed, length-append (turn_of k x).store (drop k.lent x.store) ∙ omega (arith, kept.stored, front_length k x f m, length-drop k.lent x.store, m.lent))

-- lists of calls
pub run_refines :
    (ks : List HostCall) (x : Host) → Formed x.struct → All (Makeable (length x.store)) ks
    → (host_run ks x ≡ run (map as_call ks) (viewed x)) × (viewed (host_final ks x) ≡ final (map as_call ks) (viewed x))
unfolding host_run host_final run final
run_refines [] x f a = (refl, refl)
run_refines (k ∷ ks) x f a =
    let r = call_refines k x f a.0 in
    let kept = step_formed k x f a.0 in
    let rest = run_refines ks (host_step k x) kept.0 (subst (λ (n : ℕ). All (Makeable n) ks) (sym kept.1) a.1) in
    (rw (r.answer, rest.0, r.after), rest.1 ∙ ap (final (map as_call ks)) r.after)

pub final-formed :
    (ks : List HostCall) (x : Host) → Formed x.struct → All (Makeable (length x.store)) ks
    → Formed (host_final ks x).struct × (length (host_final ks x).store ≡ length x.store)
unfolding host_final
final-formed [] x f a = (f, refl)
final-formed (k ∷ ks) x f a =
    let kept = step_formed k x f a.0 in
    let rest = final-formed ks (host_step k x) kept.0 (subst (λ (n : ℕ). All (Makeable n) ks) (sym kept.1) a.1) in
    (rest.0, rest.1 ∙ kept.1)

-- a host may lend all that it has, and nothing
pub lends_all : (n : ℕ) (k : HostCall) → GivenArrays k.request → k.lent ≡ n → Makeable n k
lends_all n k a e = record { given = a; lent = omega (arith, e) }

pub lends_nothing : (n : ℕ) (k : HostCall) → GivenArrays k.request → k.lent ≡ 0 → Makeable n k
lends_nothing n k a e = record { given = a; lent = omega (arith, e) }
