-- Demand 3, first half, from the bytes: two calls that write the same kind 1 packet at the same clock reading. "The same nonce request"
-- is then the same message too, for coordinators within the limits whose numbers fit their fields.
-- Assumes nothing.
use Prim.Native.Nat.{ℕ}
use mathlib.Core.Path.{◌≡◌, sym, ap, subst, ◌∙◌}
use mathlib.Core.Bool.{true}
use mathlib.Core.List.{List}
use lib.ListN.{get_or}
use Rattle.wire.proofs.Lists.{and_left, and_right}
use Rattle.layout.specs.Messages.{NonceRequest, nonce_request}
use Rattle.layout.specs.Encode.{encode}
use Rattle.layout.specs.Decode.{within, message_in}
use Rattle.layout.specs.Fits.{RequestFits}
use Rattle.layout.proofs.RoundTrip.{message_in-encode, within_addressable}
use Rattle.step_definition.specs.Coordinator.{Coordinator, Held, commissioned}
use Rattle.step_definition.specs.Calls.{Call, Answer}
use Rattle.step_definition.specs.Counts.{within_limits, RoundFits}
use Rattle.step_definition.specs.Demand3.{Opens, SameFour}
use Rattle.step_definition.specs.Run.{run}
use Rattle.step_definition.specs.Step.{step}
use Rattle.step_definition.proofs.Answers.{nonce_request-answer, kind_1_answer}
use Rattle.step_definition.proofs.EqualFutures.{equal_futures}
use Rattle.step_definition.proofs.Leaves.{Fresh, opening}

-- a call that writes a packet of kind 1 and leaves c, whose ids, message and root fit their fields
pub record Writes1 (k : Call) (h : Held) (c : Coordinator) : Type 0 where
  pub kind : get_or (step k h).answer.bytes 0 0 ≡ 1
  pub leaves : (step k h).after ≡ commissioned c
  pub within : within_limits c ≡ true
  pub fits : RoundFits c

-- such a call opens a round
opens-round : (k : Call) (h : Held) (c : Coordinator) → Writes1 k h c → (r : NonceRequest) × Opens k h r c
opens-round k h c w =
    let o = kind_1_answer k h w.kind in
    (o.0, record { sends = o.2.sends; leaves = w.leaves })

-- its request is what the bytes say
module _ {now : ℕ} {r : NonceRequest} {c : Coordinator} (f : Fresh now r c) (g : RoundFits c) where
  request_fits : RequestFits r
  request_fits = record { ids = rw f.ids at g.ids; message = rw f.message at g.message; root = rw f.position at g.root }

  request_said : within_limits c ≡ true → message_in (encode (nonce_request r)) ≡ nonce_request r
  unfolding within_limits within
  request_said l =
      let m : within (nonce_request r) ≡ true = rw (← f.message) (search (and_left, and_right)) in
      message_in-encode (nonce_request r) request_fits (within_addressable (nonce_request r) request_fits m)

pub equal_bytes_futures :
    (k₁ k₂ : Call) (h₁ h₂ : Held) (c₁ c₂ : Coordinator) → Writes1 k₁ h₁ c₁ → Writes1 k₂ h₂ c₂
    → (step k₁ h₁).answer.bytes ≡ (step k₂ h₂).answer.bytes → k₁.clock ≡ k₂.clock → SameFour c₁ c₂ → (ks : List Call)
    → run ks (commissioned c₁) ≡ run ks (commissioned c₂)
equal_bytes_futures k₁ k₂ h₁ h₂ c₁ c₂ w₁ w₂ e t s ks =
    let o₁ = opens-round k₁ h₁ c₁ w₁ in
    let o₂ = opens-round k₂ h₂ c₂ w₂ in
    let r₁ : NonceRequest = o₁.0 in
    let r₂ : NonceRequest = o₂.0 in
    let b : encode (nonce_request r₁) ≡ encode (nonce_request r₂) =
    ap (λ (a : Answer). a.bytes) (sym (nonce_request-answer k₁ h₁ r₁ o₁.1.sends)) ∙ e ∙ ap (λ (a : Answer). a.bytes)
    (nonce_request-answer k₂ h₂ r₂ o₂.1.sends) in
    let m : nonce_request r₁ ≡ nonce_request r₂ =
    sym (request_said (opening k₁ h₁ r₁ c₁ o₁.1) w₁.fits w₁.within) ∙ ap message_in b ∙ request_said (opening k₂ h₂ r₂ c₂ o₂.1)
    w₂.fits w₂.within in
    let p : r₁ ≡ r₂ = cc in
    equal_futures k₁ k₂ h₁ h₂ r₂ c₁ c₂ (subst (λ (r : NonceRequest). Opens k₁ h₁ r c₁) p o₁.1) o₂.1 t s ks
