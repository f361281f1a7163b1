-- A record's responders and those who are waited for: the same ids as responses come in, one less for each waiter taken off.
-- Assumes nothing.
use Prim.Native.Nat.{ℕ}
use mathlib.Core.Path.{◌≡◌, refl, sym, ap, ◌∙◌}
use mathlib.Core.Bool.{Bool, true, false, cond, true≢false}
use mathlib.Core.List.{List, [], ◌∷◌, map}
use Rattle.std.specs.Prelude.{Option}
use lib.Dec.{eqb}
use Rattle.wire.specs.Bytes.{All, are_same_bytes}
use Rattle.layout.specs.Messages.{NonceResponse}
use Rattle.validity.specs.Keys.{member}
use Rattle.step_definition.specs.Lists.{find, change}
use Rattle.step_definition.specs.Ids.{insert, remove}
use Rattle.step_definition.specs.Coordinator.{SignRoundInfo, record_of, responses_of, waiters_of, add_response, remove_waiter, responder_id}
use Rattle.step_definition.proofs.Cases.{cond_case}
use Rattle.step_definition.proofs.Ascending.{map-insert_by}
use Rattle.step_definition.proofs.Lists.{all_change}

-- every responder of the record is waited for, and nobody else
abbrev pub Awaited : SignRoundInfo → Type 0
Awaited i = i.sign_wait_signer_ids ≡ map responder_id i.public_nonces

-- a responder's id goes where its response goes
pub add_awaited : (now : ℕ) (q : NonceResponse) (rs : List SignRoundInfo) → All Awaited rs → All Awaited (add_response now q rs)
add_awaited now q rs h =
    all_change Awaited _ _ _ rs
    (λ r a. ap (insert q.signer_id) a ∙ sym (map-insert_by responder_id q r.public_nonces))
    (refl, tt) h

-- the waiters of a message are its responders
pub awaited_of :
    (m : List ℕ) (rs : List SignRoundInfo) → All Awaited rs → waiters_of (record_of m rs) ≡ map responder_id (responses_of (record_of m rs))
awaited_of m [] h = refl
awaited_of m (r ∷ rs) h =
    cond_case (λ (i : Option SignRoundInfo). waiters_of i ≡ map responder_id (responses_of i)) (are_same_bytes m r.message)
    (λ e. h.0)
    (λ e. awaited_of m rs h.1)

-- to take off an id that is not there changes nothing
remove_none : (id : ℕ) (ids : List ℕ) → member id ids ≡ false → ids ≡ remove id ids
unfolding remove
remove_none id [] e = refl
remove_none id (x ∷ xs) e =
    cond_case (λ (l : List ℕ). x ∷ xs ≡ l) (eqb id x)
    (λ t. absurd (true≢false (rw t at e)))
    (λ t. ap (λ (l : List ℕ). x ∷ l) (remove_none id xs (rw t at e)))

pub remove_absent : (id : ℕ) (ids : List ℕ) → member id ids ≡ false → (t : Bool) → ids ≡ cond t (remove id ids) ids
remove_absent id ids e true = remove_none id ids e
remove_absent id ids e false = refl

-- taking a waiter off the record of a message takes it off that message's waiters
pub waiter_removed_law :
    (m : List ℕ) (id : ℕ) (rs : List SignRoundInfo)
    → waiters_of (record_of m (remove_waiter m id rs)) ≡ remove id (waiters_of (record_of m rs))
unfolding change remove
waiter_removed_law m id [] = refl
waiter_removed_law m id (r ∷ rs) =
    cond_case (λ (l : List SignRoundInfo). waiters_of (record_of m l) ≡ remove id (waiters_of (record_of m (r ∷ rs))))
    (are_same_bytes m r.message)
    (λ e. rw e)
    (λ e. rw e (waiter_removed_law m id rs))
