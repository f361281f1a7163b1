-- What is known of a held coordinator beside its watch, and what a call's outcome has to keep of it.
-- Assumes nothing.
use Rattle.std.proofs.lemmas.Option.{none-some}
use Prim.Native.Nat.{ℕ}
use mathlib.Core.Path.{◌≡◌, refl, sym, ◌∙◌}
use mathlib.Core.Bool.{Bool, true, false, cond, ◌&&◌}
use mathlib.Core.List.{List, []}
use Rattle.std.specs.Prelude.{Option, Some, None}
use lib.Dec.{eqb}
use Rattle.wire.specs.Bytes.{All}
use Rattle.layout.specs.declared.Ids.{Ids}
use Rattle.layout.specs.declared.SignatureType.{SignatureType}
use Rattle.layout.specs.Messages.{NonceRequest, SignatureShareResponse}
use Rattle.step_definition.specs.Lists.{first}
use Rattle.step_definition.specs.Ids.{remove, without}
use Rattle.step_definition.specs.Coordinator.{Coordinator, SignRoundInfo, Held, uncommissioned, miscounted, commissioned, waiters_of, current_record}
use Rattle.step_definition.specs.Calls.{Answer, Event, nonce_request_in, share_request_in, newly_malicious_in, Outcome, outcome}
use Rattle.step_definition.specs.Phases.{Phase, idling, gathering_nonces, gathering_shares, resting, phase_of}
use Rattle.step_definition.specs.Run.{malicious_in}
use Rattle.step_definition.specs.Silence.{Watch, unasked, broken, watching, watch_after, listening, listen}
use Rattle.step_definition.proofs.Outcomes.{malicious_after}
use Rattle.step_definition.proofs.Verdicts.{answers}
use Rattle.step_definition.proofs.Waiters.{Awaited}

-- shares were asked for, with the current ids, and the silent are the waiters
abbrev pub Asked : Watch → Ids → List ℕ → Type 0
Asked unasked ids waiters = ⊥
Asked broken ids waiters = Unit {0}
Asked (watching r silent) ids waiters = (waiters ≡ silent) × (ids.dkg_id ≡ r.ids.dkg_id) × (ids.sign_id ≡ r.ids.sign_id)

-- while nonces are gathered every responder is waited for; while shares are, they were asked for
abbrev pub Watches : Watch → Phase → Ids → List ℕ → List SignRoundInfo → Type 0
Watches w idling ids waiters records = Unit {0}
Watches w (gathering_nonces t) ids waiters records = All Awaited records
Watches w (gathering_shares t) ids waiters records = Asked w ids waiters
Watches w resting ids waiters records = Unit {0}

abbrev pub Knows : Watch → Phase → Coordinator → Type 0
Knows w p c = Watches w p c.ids (waiters_of (current_record c)) c.round.message_nonces

abbrev pub Known : Watch → Held → Type 0
Known w uncommissioned = Unit {0}
Known w miscounted = Unit {0}
Known w (commissioned c) = Knows w (phase_of c.position.state) c

-- the waiters that are not malicious yet
abbrev pub silent : Coordinator → List ℕ
silent c = without (waiters_of (current_record c)) c.standing.malicious_signer_ids

-- a share timeout fired: shares were gathered, the waiters are added, and those of them that are new are told
abbrev pub TimedOut : Held → List ℕ → Held → Type 0
TimedOut uncommissioned new after = ⊥
TimedOut miscounted new after = ⊥
TimedOut (commissioned c) new after =
    (t : SignatureType)
    × (phase_of c.position.state ≡ gathering_shares t)
    × (malicious_in after ≡ malicious_after c)
    × (new ≡ silent c)

-- what is shown of each call's outcome on h, by the share packet that is heard and by whether the call is a start
pub record Good (h : Held) (heard : Option SignatureShareResponse) (start : Bool) (o : Outcome) : Type 0 where
  pub opens : (r : NonceRequest) → nonce_request_in o.events ≡ Some r → Known unasked o.after
  pub keeps :
      (w : Watch) → Known w h
      → Known (watch_after (share_request_in o.events) (start && eqb o.answer.number 11) (listening w heard)) o.after
  pub excludes : (ids : List ℕ) → newly_malicious_in o.events ≡ Some ids → TimedOut h ids o.after

-- the watch matters while shares are gathered, and then alone
pub elsewhere : (p : Phase) (c : Coordinator) (w v : Watch) → ((t : SignatureType) → p ≡ gathering_shares t → ⊥) → Knows w p c → Knows v p c
elsewhere idling c w v f i = tt
elsewhere (gathering_nonces t) c w v f i = i
elsewhere (gathering_shares t) c w v f i = absurd (f t refl)
elsewhere resting c w v f i = tt

-- a broken watch says nothing of ids and waiters
broken_knows :
    (p : Phase) (w : Watch) (c d : Coordinator) → c.round.message_nonces ≡ d.round.message_nonces → Knows w p c → Knows broken p d
broken_knows idling w c d e i = tt
broken_knows (gathering_nonces t) w c d e i = rw (← e) i
broken_knows (gathering_shares t) w c d e i = tt
broken_knows resting w c d e i = tt

pub broken_known :
    (w : Watch) (c d : Coordinator) → c.position ≡ d.position → c.round.message_nonces ≡ d.round.message_nonces
    → Known w (commissioned c) → Known broken (commissioned d)
broken_known w c d p e i = rw (← p) (broken_knows (phase_of c.position.state) w c d e i)

-- a call that sends no share request leaves the watch or breaks it
pub unrequested : (t : Bool) (w : Watch) (h : Held) → Known w h → Known (watch_after None t w) h
unfolding watch_after
unrequested false w h i = i
unrequested true w uncommissioned i = tt
unrequested true w miscounted i = tt
unrequested true w (commissioned c) i = broken_known w c c refl refl i

-- a call in which nothing is heard leaves the watch
pub unheard : (h : Held) (w : Watch) → Known w h → Known (listening w None) h
unfolding listening listen
unheard h unasked i = i
unheard h broken i = i
unheard h (watching r silent) i = i

-- a packet that is heard takes its signer off the silent as off the waiters
pub asked-heard :
    (w : Watch) (r : SignatureShareResponse) (ids : Ids) (ws ws' : List ℕ) → ws' ≡ cond (answers r ids) (remove r.signer_id ws) ws
    → Asked w ids ws → Asked (listening w (Some r)) ids ws'
unfolding listening listen
asked-heard unasked r ids ws ws' e i = i
asked-heard broken r ids ws ws' e i = i
asked-heard (watching q silent) r ids ws ws' e i = (cc, i.1, i.2)

module _ {h : Held} {heard : Option SignatureShareResponse} {start : Bool} {n : Answer} {after : Held} where
  -- an outcome without a nonce request and without a share timeout
  pub plain-good :
      {es : List Event} → nonce_request_in es ≡ None → newly_malicious_in es ≡ None
      → ((w : Watch) → Known w h → Known (watch_after (share_request_in es) (start && eqb n.number 11) (listening w heard)) after)
      → Good h heard start (outcome n es after)
  plain-good no-request no-exclusion keeps =
      record {
        opens = λ r e. absurd (none-some r (sym no-request ∙ e));
        keeps = keeps;
        excludes = λ ids e. absurd (none-some ids (sym no-exclusion ∙ e));
      }

  -- and without a share request
  pub calm-good :
      (es : List Event) → (nonce_request_in es ≡ None) × (newly_malicious_in es ≡ None) × (share_request_in es ≡ None)
      → ((w : Watch) → Known w h → Known (listening w heard) after) → Good h heard start (outcome n es after)
  calm-good es calm moves =
      plain-good calm.0 calm.1 (λ w i. rw calm.2 (unrequested (start && eqb n.number 11) (listening w heard) after (moves w i)))

  -- and without any event
  pub quiet_good : ((w : Watch) → Known w h → Known (listening w heard) after) → Good h heard start (outcome n [] after)
  unfolding first
  quiet_good moves = calm-good [] (refl, refl, refl) moves
