-- SigShareGather, on a response. First a verdict, which changes nothing; then its effect. A share error is a result.
use Rattle.std.specs.Prelude.{ℕ, Bool, true, false, cond, List, [], ◌∷◌, eqb}
use Rattle.layout.specs.declared.SignatureType.{SignatureType}
use Rattle.layout.specs.Messages.{NonceResponse, SignatureShareResponse}
use Rattle.layout.specs.Encode.{encode_job}
use Rattle.validity.specs.Keys.{member}
use Rattle.step_definition.specs.Lists.{is_some}
use Rattle.step_definition.specs.Coordinator.{Coordinator, commissioned, responses_of, waiters_of, current_record, shares_by, with_job}
use Rattle.step_definition.specs.Calls.{shares_taken, job_written, Outcome, outcome, plain, handing, quiet, failed}
use Rattle.step_definition.specs.Effects.{freeing, keeping, share_key_ids, job_of, whole}
use Rattle.step_definition.specs.Questions.{question20, question21, question22}

-- nobody waits for the signer; an id that isn't current, with its number, got and expected; the waiter is removed, and its shares are
-- refused with a number, come to nothing, or are good
pub data ShareVerdict : Type 0 where
  unawaited : ShareVerdict
  wrong_id : ℕ → ℕ → ℕ → ShareVerdict
  refused : ℕ → ShareVerdict
  unended : ShareVerdict
  good : ShareVerdict

-- "waiting is tested before the ids, the iteration never." "on a waiter's response: dkg id (16), sign id (17) current? Waiter removed; then
-- public key (20)? Key generation ended, else nothing; key set entry (21)? Set equal (22)?"
unfoldable pub share_verdict : SignatureShareResponse → Coordinator → ShareVerdict
share_verdict r c =
    let id = r.signer_id in
    let got = r.ids in
    let current = c.ids in
    cond (member id (waiters_of (current_record c)))
    (cond (eqb got.dkg_id current.dkg_id)
    (cond (eqb got.sign_id current.sign_id)
    (cond (question20 c id)
    (cond (member id c.standing.dkg_end_messages)
    (cond (question21 c id)
    (cond (question22 c id (share_key_ids r.signature_shares)) good (refused 22))
    (refused 21))
    unended)
    (refused 20))
    (wrong_id 17 got.sign_id current.sign_id))
    (wrong_id 16 got.dkg_id current.dkg_id))
    unawaited

-- good shares of a removed waiter: held already; taken, and somebody is still waited for; taken from the last
pub data TakeVerdict : Type 0 where
  already_held : TakeVerdict
  others : TakeVerdict
  last : TakeVerdict

unfoldable pub any_waits : List ℕ → Bool
any_waits [] = false
any_waits (id ∷ ids) = true

unfoldable pub take_verdict : SignatureShareResponse → Coordinator → TakeVerdict
take_verdict r c =
    cond (is_some (shares_by r.signer_id c.round.signature_shares)) already_held
    (cond (any_waits (waiters_of (current_record c))) others last)

-- the responses whose shares the job holds
abbrev pub responders : Coordinator → List NonceResponse
responders c = responses_of (current_record c)

-- shares held already stay, and nothing comes of it, as in fire.rs; else they are recorded. "When the last waiter's shares are recorded,
-- the job is written out."
unfoldable pub on_take : SignatureType → List ℕ → SignatureShareResponse → Coordinator → TakeVerdict → Outcome
on_take t root r c already_held = quiet c
on_take t root r c others = outcome plain (shares_taken r.signer_id ∷ []) (commissioned (keeping r c))
on_take t root r c last =
    let kept = keeping r c in
    let job = job_of t root (responders c) kept in
    outcome (handing (whole (responders c) kept.round.signature_shares) (encode_job job))
    (shares_taken r.signer_id ∷ (job_written job ∷ []))
    (commissioned (with_job true kept))

abbrev pub take_shares : SignatureType → List ℕ → SignatureShareResponse → Coordinator → Outcome
take_shares t root r c = on_take t root r c (take_verdict r c)

unfoldable pub on_shares : SignatureType → List ℕ → SignatureShareResponse → Coordinator → ShareVerdict → Outcome
on_shares t root r c unawaited = quiet c
on_shares t root r c (wrong_id n got expected) = failed n (got ∷ (expected ∷ [])) c
on_shares t root r c (refused n) = failed n (r.signer_id ∷ []) (freeing r.signer_id c)
on_shares t root r c unended = quiet (freeing r.signer_id c)
on_shares t root r c good = take_shares t root r (freeing r.signer_id c)

abbrev pub gather_shares : SignatureType → List ℕ → SignatureShareResponse → Coordinator → Outcome
gather_shares t root r c = on_shares t root r c (share_verdict r c)
