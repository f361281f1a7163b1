-- The watch kept by each call.
-- Assumes nothing.
use Prim.Native.Nat.{ℕ}
use mathlib.Core.Path.{◌≡◌, refl}
use mathlib.Core.Bool.{Bool, true, false, cond, not, ◌&&◌, ◌||◌}
use mathlib.Core.List.{List, []}
use Rattle.std.specs.Prelude.{Option, None}
use Rattle.layout.specs.Messages.{SignatureShareResponse, Message}
use Rattle.layout.specs.Decode.{Decoded, taken, refused, decode}
use Rattle.step_definition.specs.Lists.{is_some, given, first}
use Rattle.step_definition.specs.Configuration.{Config}
use Rattle.step_definition.specs.Coordinator.{Coordinator, Held, uncommissioned, miscounted, commissioned, with_job}
use Rattle.step_definition.specs.Calls.{Entry, process, process_message, Request, commission, other, Call, brings, brought, Outcome, failing}
use Rattle.step_definition.specs.Calls.{Operation, set_key, take_results, can_move, start_signing, receive, process_timeout, aggregated}
use Rattle.step_definition.specs.Calls.{reset, tell_arrivals}
use Rattle.step_definition.specs.Phases.{phase_of, content_of, share_response_in}
use Rattle.step_definition.specs.Questions.{question13, question14, question24}
use Rattle.step_definition.specs.Silence.{Watch, listening, sealed, heard_in, unless_fired, heard_by, heard_on, heard, is_start, watch_after}
use Rattle.step_definition.specs.Starts.{naming, start_round}
use Rattle.step_definition.specs.Timeouts.{timeout}
use Rattle.step_definition.specs.Step.{on_message, on_entry, on_packet, on_aggregated, on_results, on_arrivals, own, on_commission, on_held}
use Rattle.step_definition.specs.Step.{step_of, step}
use Rattle.step_definition.proofs.Cases.{cond_case}
use Rattle.step_definition.proofs.Phases.{is_idle_law}
use Rattle.step_definition.proofs.Verdicts.{Before, gets4, gets5, gets6, gets7, goes_on, before_case, timeout_case}
use Rattle.step_definition.proofs.Watching.{Known, Good, broken_known, unheard, calm-good, quiet_good}
use Rattle.step_definition.proofs.WatchedStates.{Fine, Moves, branch, still, start-good, idle_known, message_good, unless-late}

-- a message is heard where 13 and 14 are yes, or not asked
sealed-good :
    (c : Coordinator) (verify q13 q14 : Bool) (a : Option SignatureShareResponse) (rest : Outcome) → Good (commissioned c) a false rest
    → Good (commissioned c) (cond (not verify || (q13 && q14)) a None) false (cond (not verify || q13) (cond (not verify || q14) rest (failing 14 [] c)) (failing 13 [] c))
sealed-good c false q13 q14 a rest f = f
sealed-good c true false q14 a rest f = quiet_good (unheard (commissioned c))
sealed-good c true true false a rest f = quiet_good (unheard (commissioned c))
sealed-good c true true true a rest f = f

module _ (k : Call) (c : Coordinator) where
  message-heard :
      (m : Message)
      → Good (commissioned c) (cond (sealed c k.verdict m) (share_response_in (content_of m)) None) false (on_message k.clock k.verdict m c)
  unfolding on_message sealed
  message-heard m =
      let g = c.standing.config in
      sealed-good c g.verify_packet_sigs (question13 c) (question14 g m k.verdict) (share_response_in (content_of m)) _
      (message_good c k.clock (phase_of c.position.state) (content_of m) refl)

  entry-heard :
      (entry : Entry) (m : Message)
      → Good (commissioned c) (unless_fired entry k.clock c (cond (sealed c k.verdict m) (share_response_in (content_of m)) None)) false (on_entry entry k.clock k.verdict m c)
  entry-heard process m = unless-late c k.clock _ _ refl (timeout_case k.clock c (phase_of c.position.state)) (message-heard m)
  entry-heard process_message m = message-heard m

  -- a packet is heard where 8 and 9 are yes
  packet-heard :
      (entry : Entry) (d : Decoded) → Good (commissioned c) (heard_in k entry d c) false (on_packet entry k.clock k.verdict d c)
  unfolding heard_in on_packet
  packet-heard entry (taken m) = entry-heard entry m
  packet-heard entry (refused n) = quiet_good (unheard (commissioned c))

  abbrev Quietly : Outcome → Type 0
  Quietly o = Good (commissioned c) None false o

  none_heard : {o : Outcome} (t : Bool) → Good (commissioned c) (cond t None None) false o → Quietly o
  none_heard true g = g
  none_heard false g = g

  -- where 24 is yes any watch fits
  idle_now : question24 c ≡ true → (w : Watch) (d : Coordinator) → d.position ≡ c.position → Known w (commissioned d)
  unfolding question24
  idle_now e w d p = rw (p, is_idle_law (phase_of c.position.state) e) tt

  results_good : (dkg : ℕ) (ended : List ℕ) → Quietly (on_results dkg ended c)
  unfolding on_results
  results_good dkg ended =
      let moves : Moves c None false c = unheard (commissioned c) in
      search (branch, still, idle_now)

  aggregated_good : (ok : Bool) → Quietly (on_aggregated ok c)
  unfolding on_aggregated
  aggregated_good ok = let moves : Moves c None false (with_job false c) = unheard (commissioned c) in search (branch, still, idle_known)

  -- what a call does once 4 to 7 are yes
  own_good : (o : Operation) → Good (commissioned c) (heard_by k (brings o) c) (is_start (brings o)) (own k o c)
  unfolding own on_arrivals heard_by watch_after
  own_good (set_key which held) = quiet_good (unheard (commissioned c))
  own_good (take_results dkg ended) = results_good dkg ended
  own_good (can_move p) = quiet_good (unheard (commissioned c))
  own_good (start_signing s) =
      let rest : Fine c None true (start_round k.clock s c) = start-good c None true k.clock s c (unheard (commissioned c)) (λ w i. broken_known w c (naming s c) refl refl i) in
      let moves : Moves c None true c = unheard (commissioned c) in
      search (branch, still)
  own_good (receive entry bytes) = packet-heard entry (decode bytes)
  own_good process_timeout =
      none_heard (is_some (timeout k.clock c))
      (unless-late c k.clock None _ refl (timeout_case k.clock c (phase_of c.position.state)) (quiet_good (unheard (commissioned c))))
  own_good (aggregated ok) = aggregated_good ok
  own_good reset = quiet_good (λ w i. tt)
  own_good tell_arrivals = quiet_good (unheard (commissioned c))

  -- 4 to 7 first
  asked-good :
      (o : Operation) {n : Option ℕ} → Before o c n
      → Good (commissioned c) (cond (is_some n) None (heard_by k (brings o) c)) (is_start (brings o)) (given n (λ (n : ℕ). failing n [] c) (own k o c))
  asked-good o gets4 = quiet_good (unheard (commissioned c))
  asked-good o gets5 = quiet_good (unheard (commissioned c))
  asked-good o gets6 = quiet_good (unheard (commissioned c))
  asked-good o gets7 = quiet_good (unheard (commissioned c))
  asked-good o (goes_on f g) = own_good o

held_good : (k : Call) (o : Operation) (h : Held) → Good h (heard_on k o h) (is_start (brings o)) (on_held k o h)
unfolding heard_on on_held
held_good k o uncommissioned = quiet_good (λ w i. tt)
held_good k o miscounted = quiet_good (λ w i. tt)
held_good k o (commissioned c) = asked-good k c o (before_case k o c)

-- commissioning leaves what any watch fits
pub record Begun (o : Outcome) : Type 0 where
  pub calm : o.events ≡ []
  pub any : (w : Watch) → Known w o.after

begun_branch : {t : Bool} {a b : Outcome} → (t ≡ true → Begun a) → (t ≡ false → Begun b) → Begun (cond t a b)
begun_branch {t = t} = cond_case Begun t

pub commission-begun : (g : Config) → Begun (on_commission g)
unfolding on_commission
commission-begun g = search begun_branch

begun-good : (h : Held) (o : Outcome) → Begun o → Good h None false o
unfolding first
begun-good h o b = calm-good o.events (rw b.calm (refl, refl, refl)) (λ w i. b.any (listening w None))

step_of-good : (k : Call) (r : Request) (h : Held) → Good h (heard k r h) (is_start (brought r)) (step_of k r h)
unfolding step_of heard
step_of-good k (commission g) h = begun-good h (on_commission g) (commission-begun g)
step_of-good k (other o) h = held_good k o h

pub step_good : (k : Call) (h : Held) → Good h (heard k k.request h) (is_start (brought k.request)) (step k h)
step_good k h = step_of-good k k.request h
