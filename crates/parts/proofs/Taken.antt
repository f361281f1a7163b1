-- What a packet that is taken says, by its kind and part by part.
-- Assumes nothing.
use Prim.Native.Nat.{ℕ, zero, suc, ◌+◌, ◌*◌, ◌-◌, ◌<◌}
use mathlib.Core.Path.{◌≡◌, refl, sym, ap, ◌∙◌}
use mathlib.Core.Bool.{true, ◌&&◌}
use mathlib.Core.List.{List, [], map}
use native.Mathlib.Omega.{arith}
use borrow.Author.Tests.{eqb-true}
use lib.Dec.{eqb, leb}
use lib.ListN.{length, get_or, length-map, get_or-map}
use Rattle.wire.specs.Bytes.{every}
use Rattle.wire.proofs.Lists.{and_left, and_right, the_every_at}
use Rattle.layout.specs.Limits.{message_limit, signer_limit}
use Rattle.layout.specs.Messages.{SignatureShareRequest, SignatureShareResponse, Message, nonce_request, nonce_response, signature_share_request, signature_share_response, dkg_begin, dkg_signer, dkg_coordinator}
use Rattle.layout.specs.LaidOut.{header_in, part_at, parts_from, framed, whole_response, whole_lists, response_laid_out, is_laid_out}
use Rattle.layout.specs.Decode.{taken, decode, request_in, response_in, share_request_in, share_in, share_response_in, message_in, response_within, within}
use Rattle.layout.proofs.Headed.{laid-out-cases, length-parts_from}
use Rattle.layout.proofs.RoundTrip.{taken-laid}

-- the message that the packet says in the layout of the message's kind; nested packets are laid out
abbrev pub Says : List ℕ → Message → Type 0
Says s (nonce_request m) = request_in s ≡ m
Says s (nonce_response m) = response_in s ≡ m
Says s (signature_share_request m) = (share_request_in s ≡ m) × (every response_laid_out (parts_from s 48 ((header_in s).pairs - 2)) ≡ true)
Says s (signature_share_response m) = share_response_in s ≡ m
Says s (dkg_begin dkg) = Unit {0}
Says s (dkg_signer signer dkg) = Unit {0}
Says s (dkg_coordinator dkg) = Unit {0}

pub says : (s : List ℕ) (m : Message) → decode s ≡ taken m → Says s m
says s m e =
    let t = taken-laid s m e in
    let w : Says s (message_in s) =
    laid-out-cases s (Says s) t.0
    (λ k a p w. refl)
    (λ k t p w. refl)
    (λ k a p w ws. (refl, ws))
    (λ k t ws. refl)
    (λ k g d. tt)
    (λ k d. tt)
    (λ k g d. tt)
    in
    rw t.1 at w

-- part i of those from a place on
pub part_of : (s : List ℕ) (p n i : ℕ) → i < n → get_or (parts_from s p n) i [] ≡ part_at s (p + 8 * i)
unfolding parts_from
part_of s p zero i h = let z : ⊥ = omega arith in absurd z
part_of s p (suc n) zero h = ap (part_at s) (omega arith)
part_of s p (suc n) (suc i) h =
    let e : p + 8 + 8 * i ≡ p + 8 * suc i = omega arith in
    rw e at (part_of s (p + 8) n i (omega arith))

-- what it says, among what they all say
said_of : {A : Type 0} (f : List ℕ → A) (s : List ℕ) (p n i : ℕ) → i < n → get_or (map f (parts_from s p n)) i (f []) ≡ f (part_at s (p + 8 * i))
said_of f s p n i h = get_or-map f (parts_from s p n) i [] ∙ ap f (part_of s p n i h)

-- a response within the limits is taken as a packet of its own
pub response-taken : (s : List ℕ) → response_laid_out s ≡ true → response_within (response_in s) ≡ true → decode s ≡ taken (nonce_response (response_in s))
unfolding decode is_laid_out whole_lists message_in within response_laid_out
response-taken s l w =
    let lk : framed s && eqb (header_in s).kind 2 ≡ true = and_left _ (whole_response s) l in
    let k : (header_in s).kind ≡ 2 = eqb-true (header_in s).kind 2 (and_right (framed s) _ lk) in
    let f : framed s ≡ true = and_left (framed s) _ lk in
    let r : whole_response s ≡ true = and_right (framed s && eqb (header_in s).kind 2) _ l in
    rw (k, f, r, w)

-- response i of a share request is what its part says, and that part is taken
pub nested_says :
    (s : List ℕ) (i : ℕ) (m : SignatureShareRequest) → decode s ≡ taken (signature_share_request m) → i < length m.nonce_responses
    → decode (part_at s (48 + 8 * i)) ≡ taken (nonce_response (get_or m.nonce_responses i (response_in [])))
unfolding share_request_in within
nested_says s i m e h =
    let n = (header_in s).pairs - 2 in
    let w = says s (signature_share_request m) e in
    let q : m.nonce_responses ≡ map response_in (parts_from s 48 n) = ap (λ (r : SignatureShareRequest). r.nonce_responses) (sym w.0) in
    let hn : i < n = rw (q, length-map, length-parts_from) at h in
    let p : get_or (parts_from s 48 n) i [] ≡ part_at s (48 + 8 * i) = part_of s 48 n i hn in
    let g : get_or m.nonce_responses i (response_in []) ≡ response_in (part_at s (48 + 8 * i)) = rw q (said_of response_in s 48 n i hn) in
    let l = rw p at (the_every_at response_laid_out (parts_from s 48 n) i [] w.1 (rw length-parts_from hn)) in
    let ws = and_right (leb (length m.message) message_limit && leb (length m.nonce_responses) signer_limit) _ (taken-laid s (signature_share_request m) e).2 in
    let v = the_every_at response_within m.nonce_responses i (response_in []) ws h in
    rw g (response-taken (part_at s (48 + 8 * i)) l (rw g at v))

-- share i of a share response is what its part says
pub share-says :
    (s : List ℕ) (i : ℕ) (m : SignatureShareResponse) → decode s ≡ taken (signature_share_response m) → i < length m.signature_shares
    → share_in (part_at s (32 + 8 * i)) ≡ get_or m.signature_shares i (share_in [])
unfolding share_response_in
share-says s i m e h =
    let n = (header_in s).pairs in
    let q : m.signature_shares ≡ map share_in (parts_from s 32 n) = ap (λ (r : SignatureShareResponse). r.signature_shares) (sym (says s (signature_share_response m) e)) in
    let hn : i < n = rw (q, length-map, length-parts_from) at h in
    rw q (sym (said_of share_in s 32 n i hn))
