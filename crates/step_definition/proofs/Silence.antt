-- Nobody who answered becomes malicious: from a commissioning or an opening nonce request on, over every list of calls, a share timeout
-- adds exactly the responders of the last share request from whom no share packet with its dkg and sign id has come since (unless a start
-- was refused with 11 since that request).
-- Assumes nothing.
use Prim.Native.Nat.{ℕ}
use mathlib.Core.Path.{◌≡◌, sym, subst}
use mathlib.Core.List.{List, [], ◌∷◌}
use Rattle.std.specs.Prelude.{Some}
use Rattle.layout.specs.Messages.{NonceRequest}
use Rattle.step_definition.specs.Ids.{insert_all, without}
use Rattle.step_definition.specs.Configuration.{Config}
use Rattle.step_definition.specs.Coordinator.{Coordinator, Held, uncommissioned, miscounted, commissioned}
use Rattle.step_definition.specs.Calls.{Request, Call, commission, newly_malicious_in}
use Rattle.step_definition.specs.Demand3.{Opens}
use Rattle.step_definition.specs.Phases.{Phase}
use Rattle.step_definition.specs.Run.{malicious_in, final}
use Rattle.step_definition.specs.Silence.{Watch, unasked, broken, watching, watch, watched}
use Rattle.step_definition.specs.Step.{step_of, step}
use Rattle.step_definition.proofs.Watching.{Knows, Known, TimedOut}
use Rattle.step_definition.proofs.WatchedCalls.{commission-begun, step_good}

-- where the watch begins: at a commissioning or at an opening nonce request
pub data Begins : Held → Type 0 where
  commissioning : (k : Call) (h : Held) (g : Config) → k.request ≡ commission g → Begins (step k h).after
  opening : (k : Call) (h : Held) (r : NonceRequest) (c : Coordinator) → Opens k h r c → Begins (commissioned c)

-- what a share timeout adds, by what was watched: there was a share request, it adds the silent, and tells those of them that are new
abbrev pub Adds : Watch → List ℕ → List ℕ → List ℕ → Type 0
Adds unasked new after before = ⊥
Adds broken new after before = Unit {0}
Adds (watching r silent) new after before = (after ≡ insert_all silent before) × (new ≡ without silent before)

-- what is known at the beginning: no records, or an idle coordinator
begins_known : (h : Held) → Begins h → Known unasked h
unfolding step_of
begins_known h (commissioning k h₀ g e) =
    subst (λ (r : Request). Known unasked (step_of k r h₀).after) (sym e) ((commission-begun g).any unasked)
begins_known h (opening k h₀ r c o) = subst (Known unasked) o.leaves ((step_good k h₀).opens r o.sends)

-- and after every list of calls
watched_known : (ks : List Call) (h : Held) (w : Watch) → Known w h → Known (watched ks h w) (final ks h)
unfolding watched final watch
watched_known [] h w i = i
watched_known (k ∷ ks) h w i = watched_known ks (step k h).after (watch k h w) ((step_good k h).keeps w i)

-- the waiters that a share timeout adds are the silent
adds :
    (w : Watch) (h : Held) (new : List ℕ) (after : Held) → Known w h → TimedOut h new after
    → Adds w new (malicious_in after) (malicious_in h)
unfolding malicious_in
adds w uncommissioned new after i s = absurd s
adds w miscounted new after i s = absurd s
adds unasked (commissioned c) new after i s = subst (λ (p : Phase). Knows unasked p c) s.1 i
adds broken (commissioned c) new after i s = tt
adds (watching r silent) (commissioned c) new after i s =
    rw (← (subst (λ (p : Phase). Knows (watching r silent) p c) s.1 i).0) (s.2, s.3)

pub only_the_silent :
    (h : Held) → Begins h → (ks : List Call) (k : Call) (ids : List ℕ) → newly_malicious_in (step k (final ks h)).events ≡ Some ids
    → Adds (watched ks h unasked) ids (malicious_in (step k (final ks h)).after) (malicious_in (final ks h))
only_the_silent h b ks k ids e =
    adds (watched ks h unasked) (final ks h) ids (step k (final ks h)).after (watched_known ks h unasked (begins_known h b))
    ((step_good k (final ks h)).excludes ids e)
