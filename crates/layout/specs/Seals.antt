-- Who seals a message, in the order of the kinds. "`Packet::verify` tests NonceRequest and SignatureShareRequest under the coordinator's
-- key, responses under the signer's; an unknown signer fails." That it fails is question 14. Of key generation's messages kinds 5 and 7
-- are tested under the coordinator's key, kind 6 under the signer's.
use Rattle.std.specs.Prelude.{Bool, true, false}
use Rattle.layout.specs.Messages.{Message, nonce_request, nonce_response, signature_share_request, signature_share_response}
use Rattle.layout.specs.Messages.{dkg_begin, dkg_signer, dkg_coordinator}

-- whether the key of the signer that it names tests it; else the coordinator's does
abbrev pub sealed_by_signer : Message → Bool
sealed_by_signer (nonce_request r) = false
sealed_by_signer (nonce_response r) = true
sealed_by_signer (signature_share_request r) = false
sealed_by_signer (signature_share_response r) = true
sealed_by_signer (dkg_begin dkg) = false
sealed_by_signer (dkg_signer signer dkg) = true
sealed_by_signer (dkg_coordinator dkg) = false
