-- Signature types, result kinds, and who seals which kind.
use Rattle.std.specs.Prelude.{ℕ, ◌%◌, Bool, cond, eqb}
use Rattle.layout.specs.declared.SignatureType.{SignatureType}
use Rattle.layout.specs.declared.SignatureType.TheVariants.{Frost, Schnorr, Taproot, TaprootRoot}
use Rattle.layout.specs.declared.ResultKind.{ResultKind}
use Rattle.layout.specs.declared.ResultKind.TheVariants.{Sign, SignSchnorr, SignTaproot}

-- "signature type (0 Frost or none, 1 Schnorr, 2 Taproot, 3 Taproot with root)"
abbrev pub type_number : SignatureType → ℕ
type_number Frost = 0
type_number Schnorr = 1
type_number Taproot = 2
type_number TaprootRoot = 3

-- the type that a number at most 3 stands for
unfoldable pub type_of : ℕ → SignatureType
type_of n = cond (eqb n 0) Frost (cond (eqb n 1) Schnorr (cond (eqb n 2) Taproot TaprootRoot))

-- "root (32 bytes for type 3, else 0)", by the type's number
unfoldable pub root_length : ℕ → ℕ
root_length n = cond (eqb n 3) 32 0

-- what fire.rs answers when a round of this type is signed
abbrev pub result_of : SignatureType → ResultKind
result_of Frost = Sign
result_of Schnorr = SignSchnorr
result_of Taproot = SignTaproot
result_of TaprootRoot = SignTaproot

-- "Even kinds are a signer's."
abbrev pub signer_kind : ℕ → Bool
signer_kind kind = eqb (kind % 2) 0
