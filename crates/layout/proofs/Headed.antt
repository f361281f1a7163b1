-- A packet that is laid out has one of seven kinds, with what that kind's header and lists have; and the header of what it says is its own.
-- Assumes nothing.
use Prim.Native.Nat.{ℕ, zero, suc, ◌+◌, ◌*◌, ◌-◌, ◌≤◌}
use mathlib.Core.Path.{◌≡◌, refl, sym, ap}
use mathlib.Core.Bool.{Bool, true, false, cond, ◌&&◌, false≢true}
use mathlib.Core.List.{List, map}
use native.Mathlib.Omega.{arith}
use lib.Dec.{eqb, leb}
use lib.ListN.{length, length-map}
use borrow.Author.Tests.{eqb-true, leb-true}
use Rattle.wire.specs.Bytes.{every}
use Rattle.wire.proofs.Lists.{and_left, and_right}
use Rattle.layout.specs.declared.Header.{Header}
use Rattle.layout.specs.declared.Ids.{Ids}
use Rattle.layout.specs.Types.{type_number, type_of}
use Rattle.layout.specs.Messages.{Message, nonce_request, nonce_response, signature_share_request, signature_share_response, dkg_begin, dkg_signer, dkg_coordinator}
use Rattle.layout.specs.Encode.{header, header_of, dkg_ids}
use Rattle.layout.specs.LaidOut.{header_in, parts_from, headed, dkg_only, tiles, framed, response_laid_out, whole_share, whole_response, whole_root, whole_lists, is_laid_out}
use Rattle.layout.specs.Decode.{request_in, response_in, share_request_in, share_response_in, message_in}

-- what a framed packet has
pub framed_32 : (s : List ℕ) → framed s ≡ true → 32 ≤ length s
unfolding framed
framed_32 s f = leb-true 32 (length s) (and_left (leb 32 (length s)) _ (and_left _ _ f))

pub framed-headed : (s : List ℕ) → framed s ≡ true → headed (header_in s) ≡ true
unfolding framed
framed-headed s f = and_right (leb 32 (length s)) _ (and_left _ _ f)

pub framed-tiles : (s : List ℕ) → framed s ≡ true → tiles s 32 (header_in s).pairs (32 + 8 * (header_in s).pairs) ≡ true
unfolding framed
framed-tiles s f = and_right (leb 32 (length s) && headed (header_in s)) _ f

pub laid_out-framed : (s : List ℕ) → is_laid_out s ≡ true → framed s ≡ true
unfolding is_laid_out
laid_out-framed s l = and_left (framed s) (whole_lists s) l

-- one step of a choice by the kind
pub kind_case : {P : Type 0} (k i : ℕ) (a b : Bool) → cond (eqb k i) a b ≡ true → (k ≡ i → a ≡ true → P) → (b ≡ true → P) → P
kind_case {P} k i a b e f g = go (eqb k i) refl e
  where
    go : (t : Bool) → eqb k i ≡ t → cond t a b ≡ true → P
    go true q e = f (eqb-true k i q) e
    go false q e = g e

-- the header of a request: no signer, a type
pub record Asks (h : Header) : Type 0 where
  pub signer : h.signer_id ≡ 0
  pub type : h.signature_type ≤ 3

-- the header of a key-generation message
pub record DkgOnly (h : Header) : Type 0 where
  pub type : h.signature_type ≡ 0
  pub pairs : h.pairs ≡ 0
  pub sign_id : h.ids.sign_id ≡ 0
  pub sign_iter_id : h.ids.sign_iter_id ≡ 0

asks : (h : Header) (b : Bool) → eqb h.signer_id 0 && leb h.signature_type 3 && b ≡ true → Asks h
asks h b e =
    let l : eqb h.signer_id 0 && leb h.signature_type 3 ≡ true = and_left _ b e in
    record { signer = eqb-true _ 0 (and_left _ _ l); type = leb-true _ 3 (and_right (eqb h.signer_id 0) _ l) }

dkg_only_law : (h : Header) → dkg_only h ≡ true → DkgOnly h
unfolding dkg_only
dkg_only_law h e =
    let l : eqb h.signature_type 0 && eqb h.pairs 0 && eqb h.ids.sign_id 0 ≡ true = and_left _ _ e in
    let k : eqb h.signature_type 0 && eqb h.pairs 0 ≡ true = and_left _ _ l in
    record {
      type = eqb-true _ 0 (and_left _ _ k);
      pairs = eqb-true _ 0 (and_right (eqb h.signature_type 0) _ k);
      sign_id = eqb-true _ 0 (and_right (eqb h.signature_type 0 && eqb h.pairs 0) _ l);
      sign_iter_id = eqb-true _ 0 (and_right (eqb h.signature_type 0 && eqb h.pairs 0 && eqb h.ids.sign_id 0) _ e);
    }

-- what is laid out is of one of seven kinds
module _ (s : List ℕ) (P : Message → Type 0) where
  pub laid-out-cases :
      is_laid_out s ≡ true
      → ((header_in s).kind ≡ 1 → Asks (header_in s) → (header_in s).pairs ≡ 2 → whole_root s ≡ true → P (nonce_request (request_in s)))
      → ((header_in s).kind ≡ 2 → (header_in s).signature_type ≡ 0 → (header_in s).pairs ≡ 3 → whole_response s ≡ true → P (nonce_response (response_in s)))
      → ((header_in s).kind ≡ 3 → Asks (header_in s) → 2 ≤ (header_in s).pairs → whole_root s ≡ true → every response_laid_out (parts_from s 48 ((header_in s).pairs - 2)) ≡ true → P (signature_share_request (share_request_in s)))
      → ((header_in s).kind ≡ 4 → (header_in s).signature_type ≡ 0 → every whole_share (parts_from s 32 (header_in s).pairs) ≡ true → P (signature_share_response (share_response_in s)))
      → ((header_in s).kind ≡ 5 → (header_in s).signer_id ≡ 0 → DkgOnly (header_in s) → P (dkg_begin (header_in s).ids.dkg_id))
      → ((header_in s).kind ≡ 6 → DkgOnly (header_in s) → P (dkg_signer (header_in s).signer_id (header_in s).ids.dkg_id))
      → ((header_in s).kind ≡ 7 → (header_in s).signer_id ≡ 0 → DkgOnly (header_in s) → P (dkg_coordinator (header_in s).ids.dkg_id))
      → P (message_in s)
  unfolding is_laid_out whole_lists headed message_in
  laid-out-cases l f₁ f₂ f₃ f₄ f₅ f₆ f₇ =
      let h = header_in s in
      let w : whole_lists s ≡ true = and_right (framed s) _ l in
      kind_case h.kind 1 _ _ (framed-headed s (laid_out-framed s l)) (λ k e. rw k (f₁ k (asks h _ e) (eqb-true _ 2 (and_right (eqb h.signer_id 0 && leb h.signature_type 3) _ e)) (rw k at w)))
      λ e. kind_case h.kind 2 _ _ e (λ k e. rw k (f₂ k (eqb-true _ 0 (and_left _ _ e)) (eqb-true _ 3 (and_right (eqb h.signature_type 0) _ e)) (rw k at w)))
      λ e. kind_case h.kind 3 _ _ e (λ k e. rw k (f₃ k (asks h _ e) (leb-true 2 _ (and_right (eqb h.signer_id 0 && leb h.signature_type 3) _ e)) (and_left _ _ (rw k at w)) (and_right (whole_root s) _ (rw k at w))))
      λ e. kind_case h.kind 4 _ _ e (λ k e. rw k (f₄ k (eqb-true _ 0 e) (rw k at w)))
      λ e. kind_case h.kind 5 _ _ e (λ k e. rw k (f₅ k (eqb-true _ 0 (and_left _ _ e)) (dkg_only_law h (and_right (eqb h.signer_id 0) _ e))))
      λ e. kind_case h.kind 6 _ _ e (λ k e. rw k (f₆ k (dkg_only_law h e)))
      λ e. kind_case h.kind 7 _ _ e (λ k e. rw k (f₇ k (eqb-true _ 0 (and_left _ _ e)) (dkg_only_law h (and_right (eqb h.signer_id 0) _ e))))
      λ e. absurd (false≢true e)

-- a type's number stands for the type
pub type_number-type_of : (n : ℕ) → n ≤ 3 → type_number (type_of n) ≡ n
unfolding type_of
type_number-type_of zero h = refl
type_number-type_of (suc zero) h = refl
type_number-type_of (suc (suc zero)) h = refl
type_number-type_of (suc (suc (suc zero))) h = refl
type_number-type_of (suc (suc (suc (suc n)))) h = let z : ⊥ = omega arith in absurd z

pub length-parts_from : (s : List ℕ) (p n : ℕ) → length (parts_from s p n) ≡ n
unfolding parts_from
length-parts_from s p zero = refl
length-parts_from s p (suc n) = ap suc (length-parts_from s (p + 8) n)

-- a header is its fields
pub same_header :
    (h : Header) (k t p g : ℕ) (ids : Ids)
    → h.kind ≡ k → h.signature_type ≡ t → h.pairs ≡ p → h.signer_id ≡ g → h.ids ≡ ids → header_of k t p g ids ≡ h
same_header h k t p g ids ek et ep eg ei = λ i. record { kind = sym ek i; signature_type = sym et i; pairs = sym ep i; signer_id = sym eg i; ids = sym ei i }

dkg_header : (h : Header) (k g : ℕ) → h.kind ≡ k → h.signer_id ≡ g → DkgOnly h → header_of k 0 0 g (dkg_ids h.ids.dkg_id) ≡ h
dkg_header h k g ek eg d =
    same_header h k 0 0 g (dkg_ids h.ids.dkg_id) ek d.type d.pairs eg
    (λ i. record { dkg_id = h.ids.dkg_id; sign_id = d.sign_id i; sign_iter_id = d.sign_iter_id i })

pub header-message_in : (s : List ℕ) → is_laid_out s ≡ true → header (message_in s) ≡ header_in s
unfolding header request_in response_in share_request_in share_response_in
header-message_in s l =
    let h = header_in s in
    laid-out-cases s (λ m. header m ≡ header_in s) l
    (λ k a p w. same_header h 1 _ 2 0 h.ids k (sym (type_number-type_of _ a.type)) p a.signer refl)
    (λ k t p w. same_header h 2 0 3 h.signer_id h.ids k t p refl refl)
    (λ k a p w ws.
    let n : h.pairs ≡ 2 + length (map response_in (parts_from s 48 (h.pairs - 2))) = rw (length-map, length-parts_from) (omega arith) in
    same_header h 3 _ _ 0 h.ids k (sym (type_number-type_of _ a.type)) n a.signer refl)
    (λ k t ws. same_header h 4 0 _ h.signer_id h.ids k t (rw (length-map, length-parts_from)) refl refl)
    (λ k g d. dkg_header h 5 0 k g d)
    (λ k d. dkg_header h 6 h.signer_id k refl d)
    (λ k g d. dkg_header h 7 0 k g d)
