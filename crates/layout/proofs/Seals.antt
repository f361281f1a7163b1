-- A packet's kind says who sealed its message; and of every number, a kind or not: even ones are a signer's, odd ones are not.
-- Assumes nothing.
use Prim.Native.Nat.{ℕ, suc, ◌+◌, ◌%◌}
use mathlib.Core.Path.{◌≡◌, refl}
use mathlib.Core.Bool.{true, false}
use native.Mathlib.Omega.{arith}
use borrow.Author.Tests.{eq-eqb, ne_eqb}
use Rattle.layout.specs.Types.{signer_kind}
use Rattle.layout.specs.Messages.{Message, nonce_request, nonce_response, signature_share_request, signature_share_response}
use Rattle.layout.specs.Messages.{dkg_begin, dkg_signer, dkg_coordinator}
use Rattle.layout.specs.Encode.{header}
use Rattle.layout.specs.Seals.{sealed_by_signer}

pub sealed-by_kind : (m : Message) → signer_kind (header m).kind ≡ sealed_by_signer m
unfolding header
sealed-by_kind (nonce_request r) = refl
sealed-by_kind (nonce_response r) = refl
sealed-by_kind (signature_share_request r) = refl
sealed-by_kind (signature_share_response r) = refl
sealed-by_kind (dkg_begin dkg) = refl
sealed-by_kind (dkg_signer signer dkg) = refl
sealed-by_kind (dkg_coordinator dkg) = refl

pub even_kinds : (k : ℕ) → signer_kind (k + k) ≡ true
even_kinds k = eq-eqb ((k + k) % 2) 0 (omega arith)

pub odd_kinds : (k : ℕ) → signer_kind (suc (k + k)) ≡ false
odd_kinds k = ne_eqb (suc (k + k) % 2) 0 (λ e. omega arith)
