-- A coordinator within question 4's limits: how many of what it holds, and how long the lists are that are found, joined or added to.
-- Assumes nothing.
use Rattle.std.specs.Prelude.{None, Some}
use Prim.Native.Nat.{ℕ, ◌+◌, ◌*◌, ◌≤◌}
use mathlib.Core.Path.{◌≡◌}
use mathlib.Core.Bool.{true, ◌&&◌}
use mathlib.Core.List.{List, [], ◌∷◌, ◌++◌}
use native.Mathlib.Omega.{arith}
use lib.Dec.{leb}
use lib.ListN.{length, length-append}
use borrow.Author.Tests.{leb-true}
use Rattle.wire.specs.Bytes.{All}
use Rattle.wire.proofs.Lists.{and_left, and_right, every_all, all_both, all_imp}
use Rattle.layout.specs.Limits.{message_limit, list_limit, signer_limit}
use Rattle.layout.specs.Messages.{SignatureShare, NonceResponse, Message, nonce_request, nonce_response}
use Rattle.layout.specs.Messages.{signature_share_request, signature_share_response, dkg_begin, dkg_signer, dkg_coordinator}
use Rattle.layout.specs.Decode.{response_within, key_count, within}
use Rattle.layout.specs.Fits.{NonceFits, ShareFits, ResponseFits, Fits}
use Rattle.layout.proofs.Limits.{root-length}
use Rattle.layout.proofs.Lengths.{ResponseLimited, ResponsesLimited, NoncesLimited, SharesLimited}
use Rattle.state_table.specs.States.{type_in, StateType}
use Rattle.step_definition.specs.Lists.{given}
use Rattle.step_definition.specs.Ids.{insert_all}
use Rattle.step_definition.specs.Coordinator.{Coordinator, SignRoundInfo, SignerShares, is_for, record_of, responses_of, arrivals_of}
use Rattle.step_definition.specs.Coordinator.{waiters_of}
use Rattle.step_definition.specs.Coordinator.{responder_id, add_response, remove_waiter, shares_by}
use Rattle.step_definition.specs.Counts.{record_within, shares_within, within_limits, root_size, CoordinatorFits}
use Rattle.step_definition.specs.Effects.{joined_keys, joined_nonces, joined_shares}
use Rattle.step_definition.specs.Phases.{Content, a_nonce_request, a_nonce_response, a_share_response, a_dkg_begin, unheard, content_of}
use Rattle.step_definition.proofs.Lists.{found, changed, all_change, all_insert, all_append, length-insert_by}

pub length-insert_all : (xs ys : List ℕ) → length (insert_all xs ys) ≤ length xs + length ys
unfolding insert_all
length-insert_all [] ys = omega arith
length-insert_all (x ∷ xs) ys = omega (arith, length-insert_by (λ (n : ℕ). n) x (insert_all xs ys), length-insert_all xs ys)

-- The coordinator: a record's responses, its waiters, what a signer sent, and the whole
abbrev pub Responses : ℕ → SignRoundInfo → Type 0
Responses n r = ResponsesLimited n r.public_nonces

abbrev pub Waiters : SignRoundInfo → Type 0
Waiters r = length r.sign_wait_signer_ids ≤ signer_limit

abbrev pub Arrivals : SignRoundInfo → Type 0
Arrivals r = length r.arrivals ≤ signer_limit

abbrev pub Sent : SignerShares → Type 0
Sent s = SharesLimited 1 s.signature_shares

pub record Limited (c : Coordinator) : Type 0 where
  pub message : length c.round.message ≤ message_limit
  pub root : length c.position.root ≤ 32
  pub malicious : length c.standing.malicious_signer_ids ≤ signer_limit
  pub responses : All (Responses signer_limit) c.round.message_nonces
  pub waiters : All Waiters c.round.message_nonces
  pub arrivals : All Arrivals c.round.message_nonces
  pub shares : All Sent c.round.signature_shares

root_32 : (t : StateType) → root_size t ≤ 32
root_32 None = omega arith
root_32 (Some t) = root-length t

response_limited : (q : NonceResponse) → ResponseFits q × (response_within q ≡ true) → ResponseLimited q
response_limited q h = record { fits = h.0; within = h.1 }

responses_limited : (r : SignRoundInfo) → All ResponseFits r.public_nonces × (record_within r ≡ true) → Responses signer_limit r
unfolding record_within
responses_limited r h =
    let w = h.1 in
    let qs = r.public_nonces in
    let ws = every_all response_within qs (search (and_left, and_right)) in
    record {
      count = leb-true _ _ (search (and_left, and_right));
      each = all_imp qs response_limited (all_both ResponseFits _ qs h.0 ws);
    }

arrivals_limited : (r : SignRoundInfo) → record_within r ≡ true → Arrivals r
unfolding record_within
arrivals_limited r w = leb-true _ _ (search (and_left, and_right))

waiters_limited : (r : SignRoundInfo) → record_within r ≡ true → Waiters r
unfolding record_within
waiters_limited r w = leb-true _ _ (search (and_left, and_right))

shares_limited :
    (ss : List SignatureShare) → All ShareFits ss → leb (length ss) list_limit && leb (key_count ss) list_limit ≡ true → SharesLimited 1 ss
shares_limited ss f w =
    record {
      count = leb-true _ _ (and_left _ _ w);
      keys = leb-true _ _ (and_right (leb (length ss) list_limit) _ w);
      each = f;
    }

sent_limited : (s : SignerShares) → All ShareFits s.signature_shares × (shares_within s ≡ true) → Sent s
unfolding shares_within
sent_limited s h = shares_limited s.signature_shares h.0 h.1

pub limited : (c : Coordinator) → within_limits c ≡ true → CoordinatorFits c → Limited c
unfolding within_limits
limited c w f =
    let rs = c.round.message_nonces in
    let ss = c.round.signature_shares in
    let recorded = every_all record_within rs (search (and_left, and_right)) in
    let sent = every_all shares_within ss (search (and_left, and_right)) in
    record {
      message = leb-true _ _ (search (and_left, and_right));
      root = omega (arith, f.root.size, root_32 (type_in c.position.state));
      malicious = leb-true _ _ (search (and_left, and_right));
      responses = all_imp rs responses_limited (all_both _ _ rs f.responses recorded);
      waiters = all_imp rs waiters_limited recorded;
      arrivals = all_imp rs arrivals_limited recorded;
      shares = all_imp ss sent_limited (all_both _ _ ss f.shares sent);
    }

-- What a message within the limits brings
abbrev pub ContentLimited : Content → Type 0
ContentLimited (a_nonce_request r) = length r.message ≤ message_limit
ContentLimited (a_nonce_response q) = ResponseLimited q
ContentLimited (a_share_response r) = SharesLimited 1 r.signature_shares
ContentLimited (a_dkg_begin dkg) = Unit {0}
ContentLimited unheard = Unit {0}

pub content_limited : (m : Message) → Fits m → within m ≡ true → ContentLimited (content_of m)
unfolding within
content_limited (nonce_request r) f w = leb-true _ _ w
content_limited (nonce_response q) f w = record { fits = f; within = w }
content_limited (signature_share_request r) f w = tt
content_limited (signature_share_response r) f w = shares_limited r.signature_shares f.signature_shares w
content_limited (dkg_begin dkg) f w = tt
content_limited (dkg_signer signer dkg) f w = tt
content_limited (dkg_coordinator dkg) f w = tt

-- The responses and the waiters on a message's record
pub responses_found :
    {n : ℕ} (m : List ℕ) (rs : List SignRoundInfo) → All (Responses n) rs → ResponsesLimited n (responses_of (record_of m rs))
responses_found {n} m rs a =
    found (Responses n) (ResponsesLimited n) (is_for m) rs (λ r h. h) (record { count = omega arith; each = tt }) a

pub waiters_found : (m : List ℕ) (rs : List SignRoundInfo) → All Waiters rs → length (waiters_of (record_of m rs)) ≤ signer_limit
waiters_found m rs a = found Waiters (λ ids. length ids ≤ signer_limit) (is_for m) rs (λ r h. h) (omega arith) a

pub arrivals_found : (m : List ℕ) (rs : List SignRoundInfo) → All Arrivals rs → length (arrivals_of (record_of m rs)) ≤ signer_limit
arrivals_found m rs a = found Arrivals (λ arrivals. length arrivals ≤ signer_limit) (is_for m) rs (λ r h. h) (omega arith) a

-- a response recorded: 11 at most. A waiter taken off: the responses stay
pub responses_added :
    (now : ℕ) (q : NonceResponse) (rs : List SignRoundInfo)
    → ResponseLimited q → All (Responses signer_limit) rs → All (Responses 11) (add_response now q rs)
responses_added now q rs l a =
    changed (Responses signer_limit) (Responses 11) _ _ _ rs
    (λ r h. record { count = omega arith; each = h.each })
    (λ r h. record {
      count = omega (arith, length-insert_by responder_id q r.public_nonces);
      each = all_insert ResponseLimited responder_id q r.public_nonces l h.each;
    })
    (record { count = omega arith; each = (l, tt) }, tt)
    a

pub responses_kept :
    (m : List ℕ) (id : ℕ) (rs : List SignRoundInfo) → All (Responses signer_limit) rs → All (Responses signer_limit) (remove_waiter m id rs)
responses_kept m id rs a = all_change (Responses signer_limit) _ _ [] rs (λ r h. h) tt a

-- A job's lists, by the number of responses
key_count_append : (ss ts : List SignatureShare) → key_count (ss ++ ts) ≡ key_count ss + key_count ts
unfolding key_count
key_count_append [] ts = omega arith
key_count_append (s ∷ ss) ts = omega (arith, key_count_append ss ts)

pub keys-joined : (qs : List NonceResponse) → All ResponseLimited qs → length (joined_keys qs) ≤ length qs * 16
unfolding joined_keys response_within
keys-joined [] a = omega arith
keys-joined (q ∷ qs) a =
    let w = a.0.within in
    let few : length q.key_ids ≤ list_limit = leb-true _ _ (search (and_left, and_right)) in
    rw length-append (omega (arith, keys-joined qs a.1))

pub nonces-joined : (qs : List NonceResponse) → All ResponseLimited qs → NoncesLimited (length qs) (joined_nonces qs)
unfolding joined_nonces response_within
nonces-joined [] a = record { count = omega arith; each = tt }
nonces-joined (q ∷ qs) a =
    let w = a.0.within in
    let few : length q.nonces ≤ list_limit = leb-true _ _ (search (and_left, and_right)) in
    let rest = nonces-joined qs a.1 in
    record {
      count = rw length-append (omega arith);
      each = all_append NonceFits q.nonces (joined_nonces qs) a.0.fits.nonces rest.each;
    }

pub shares-joined : (qs : List NonceResponse) (held : List SignerShares) → All Sent held → SharesLimited (length qs) (joined_shares qs held)
unfolding joined_shares key_count
shares-joined [] held a = record { count = omega arith; keys = omega arith; each = tt }
shares-joined (q ∷ qs) held a =
    let here = given (shares_by q.signer_id held) (λ (s : SignerShares). s.signature_shares) [] in
    let none : SharesLimited 1 [] = record { count = omega arith; keys = omega arith; each = tt } in
    let one : SharesLimited 1 here = found Sent (SharesLimited 1) _ held (λ s h. h) none a in
    let rest = shares-joined qs held a in
    record {
      count = rw length-append (omega arith);
      keys = rw key_count_append (omega arith);
      each = all_append ShareFits here (joined_shares qs held) one.each rest.each;
    }
