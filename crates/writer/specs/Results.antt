-- What is written of the results that are packets.
use Rattle.std.specs.Prelude.{ℕ, ◌&&◌, leb}
use Rattle.layout.specs.Encode.{encode_nonce_timeout, encode_insufficient_signers, encode_arrivals}
use Rattle.layout.specs.Limits.{signer_limit}
use Rattle.framing.specs.Writing.{Writing, writing}
use Rattle.pieces.specs.declared.places.SignerIds.{SignerIds}
use Rattle.pieces.specs.declared.places.Arrivals.{Arrivals}
use Rattle.pieces.specs.Places.{signers_of, arrivals_of}

unfoldable pub write_nonce_timeout : ℕ → SignerIds → SignerIds → Writing
write_nonce_timeout room waiters malicious =
    writing room (leb waiters.count signer_limit && leb malicious.count signer_limit)
    (encode_nonce_timeout (signers_of waiters) (signers_of malicious))

unfoldable pub write_insufficient_signers : ℕ → SignerIds → Writing
write_insufficient_signers room malicious =
    writing room (leb malicious.count signer_limit) (encode_insufficient_signers (signers_of malicious))

unfoldable pub write_arrivals : ℕ → Arrivals → Writing
write_arrivals room list = writing room (leb list.count signer_limit) (encode_arrivals (arrivals_of list))
