-- What each verdict means: the numbers that it may give, and what is so where it is given.
-- Assumes nothing.
use Prim.Native.Nat.{ℕ}
use mathlib.Core.Path.{◌≡◌}
use mathlib.Core.Bool.{Bool, true, false, cond, not, ◌||◌, ◌&&◌, false≢true}
use Rattle.std.specs.Prelude.{Option, Some, None}
use lib.Dec.{eqb}
use borrow.Author.Tests.{not-true}
use Rattle.layout.specs.Messages.{NonceResponse, SignatureShareResponse}
use Rattle.layout.specs.declared.Ids.{Ids}
use Rattle.layout.specs.declared.SignatureType.{SignatureType}
use Rattle.validity.specs.Keys.{member}
use Rattle.step_definition.specs.Coordinator.{Coordinator, waiters_of, current_record, responded}
use Rattle.step_definition.specs.Calls.{Operation, Call, Outcome}
use Rattle.step_definition.specs.Phases.{Phase, idling, gathering_nonces, gathering_shares, resting}
use Rattle.step_definition.specs.Questions.{asks, before, question5, question6, fires}
use Rattle.step_definition.specs.Timeouts.{nonce_timeout, share_timeout, timeout_in}
use Rattle.step_definition.specs.NonceGather.{NonceVerdict, wrong_id, ignored, no_room, records, nonce_verdict, alike}
use Rattle.step_definition.specs.SigShareGather.{ShareVerdict, unawaited, wrong_id as wrong_share_id, refused, unended, good, share_verdict}
use Rattle.step_definition.proofs.Cases.{cond_case}

-- 4 to 7: of a call that is asked 5 and goes on no job is out, of one that is asked 6 a job is
pub data Before (o : Operation) (c : Coordinator) : Option ℕ → Type 0 where
  gets4 : Before o c (Some 4)
  gets5 : Before o c (Some 5)
  gets6 : Before o c (Some 6)
  gets7 : Before o c (Some 7)
  goes_on : ((asks o).no_job ≡ true → c.job ≡ false) → ((asks o).a_job ≡ true → c.job ≡ true) → Before o c None

no_job : {a b : Bool} → not a || not b ≡ true → a ≡ true → b ≡ false
no_job {a = true} {b = b} e p = not-true b e
no_job {a = false} {b = b} e p = absurd (false≢true p)

a_job : {a b : Bool} → not a || b ≡ true → a ≡ true → b ≡ true
a_job {a = true} {b = b} e p = e
a_job {a = false} {b = b} e p = absurd (false≢true p)

before_branch :
    {o : Operation} {c : Coordinator} {t : Bool} {a b : Option ℕ} → (t ≡ true → Before o c a) → (t ≡ false → Before o c b)
    → Before o c (cond t a b)
before_branch {o = o} {c = c} {t = t} = cond_case (Before o c) t

pub before_case : (k : Call) (o : Operation) (c : Coordinator) → Before o c (before k o c)
unfolding before question5 question6
before_case k o c = search (before_branch, gets4, gets5, gets6, gets7, goes_on, no_job, a_job) depth 8

-- a nonce response
pub data NonceCase (q : NonceResponse) (c : Coordinator) : NonceVerdict → Type 0 where
  gets16 : {got expected : ℕ} → NonceCase q c (wrong_id 16 got expected)
  gets17 : {got expected : ℕ} → NonceCase q c (wrong_id 17 got expected)
  gets18 : {got expected : ℕ} → NonceCase q c (wrong_id 18 got expected)
  ignores : NonceCase q c ignored
  gets19 : NonceCase q c no_room
  is_new : responded q.signer_id (alike q c) ≡ false → NonceCase q c records

nonce_branch :
    {q : NonceResponse} {c : Coordinator} {t : Bool} {a b : NonceVerdict} → (t ≡ true → NonceCase q c a) → (t ≡ false → NonceCase q c b)
    → NonceCase q c (cond t a b)
nonce_branch {q = q} {c = c} {t = t} = cond_case (NonceCase q c) t

pub nonce_case : (q : NonceResponse) (c : Coordinator) → NonceCase q c (nonce_verdict q c)
unfolding nonce_verdict
nonce_case q c = search (nonce_branch, gets16, gets17, gets18, ignores, gets19, is_new) depth 10

-- a share response: the ids that it answers for are the current ones
abbrev pub answers : SignatureShareResponse → Ids → Bool
answers r ids = eqb r.ids.dkg_id ids.dkg_id && eqb r.ids.sign_id ids.sign_id

pub data ShareCase (r : SignatureShareResponse) (c : Coordinator) : ShareVerdict → Type 0 where
  not_awaited : member r.signer_id (waiters_of (current_record c)) ≡ false → ShareCase r c unawaited
  other_dkg : {got expected : ℕ} → answers r c.ids ≡ false → ShareCase r c (wrong_share_id 16 got expected)
  other_sign : {got expected : ℕ} → answers r c.ids ≡ false → ShareCase r c (wrong_share_id 17 got expected)
  gets20 : answers r c.ids ≡ true → ShareCase r c (refused 20)
  gets21 : answers r c.ids ≡ true → ShareCase r c (refused 21)
  gets22 : answers r c.ids ≡ true → ShareCase r c (refused 22)
  not_ended : answers r c.ids ≡ true → ShareCase r c unended
  is_good : answers r c.ids ≡ true → ShareCase r c good

share_branch :
    {r : SignatureShareResponse} {c : Coordinator} {t : Bool} {a b : ShareVerdict} → (t ≡ true → ShareCase r c a)
    → (t ≡ false → ShareCase r c b) → ShareCase r c (cond t a b)
share_branch {r = r} {c = c} {t = t} = cond_case (ShareCase r c) t

both : {a b : Bool} → a ≡ true → b ≡ true → a && b ≡ true
both p q = rw (p, q)

not_left : {a : Bool} (b : Bool) → a ≡ false → a && b ≡ false
not_left b p = rw p

not_right : {a b : Bool} → a ≡ true → b ≡ false → a && b ≡ false
not_right p q = rw (p, q)

pub share_case : (r : SignatureShareResponse) (c : Coordinator) → ShareCase r c (share_verdict r c)
unfolding share_verdict
share_case r c =
    search (share_branch, not_awaited, other_dkg, other_sign, gets20, gets21, gets22, not_ended, is_good, both, not_left, not_right) depth 12

-- a timeout that yields something, by phase
pub data TimeoutCase (now : ℕ) (c : Coordinator) : Phase → Option Outcome → Type 0 where
  on_time : {p : Phase} → TimeoutCase now c p None
  nonces_late : {t : SignatureType} → TimeoutCase now c (gathering_nonces t) (Some (nonce_timeout c))
  shares_late :
      {t : SignatureType} → fires now c.round.clocks.sign_start c.standing.config.timeouts.sign ≡ true
      → TimeoutCase now c (gathering_shares t) (Some (share_timeout now t c.position.root c))

timeout_branch :
    {now : ℕ} {c : Coordinator} {p : Phase} {t : Bool} {a b : Option Outcome} → (t ≡ true → TimeoutCase now c p a)
    → (t ≡ false → TimeoutCase now c p b) → TimeoutCase now c p (cond t a b)
timeout_branch {now = now} {c = c} {p = p} {t = t} = cond_case (TimeoutCase now c p) t

pub timeout_case : (now : ℕ) (c : Coordinator) (p : Phase) → TimeoutCase now c p (timeout_in now p c)
unfolding timeout_in
timeout_case now c idling = on_time
timeout_case now c (gathering_nonces t) = search (timeout_branch, on_time, nonces_late)
timeout_case now c (gathering_shares t) = search (timeout_branch, on_time, shares_late)
timeout_case now c resting = on_time
