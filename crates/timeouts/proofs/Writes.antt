-- The writers take short lists, and write all of them.
-- Assumes nothing.
use Prim.Native.Nat.{ℕ, ◌≤◌}
use mathlib.Core.Path.{◌≡◌}
use mathlib.Core.List.{List}
use borrow.Author.Tests.{le-leb, le-ltb}
use Rattle.layout.specs.Limits.{signer_limit, answer_length}
use Rattle.layout.specs.Encode.{encode_nonce_timeout, encode_insufficient_signers}
use Rattle.framing.specs.Writing.{written, writing}
use Rattle.pieces.specs.declared.places.SignerIds.{SignerIds}
use Rattle.pieces.specs.Places.{signers_of}
use Rattle.writer.specs.Results.{write_nonce_timeout, write_insufficient_signers}

module _ (room : ℕ) (wide : answer_length ≤ room) (malicious : SignerIds) (few : malicious.count ≤ signer_limit) {ms : List ℕ} (listed : signers_of malicious ≡ ms) where
  pub writes_insufficient : write_insufficient_signers room malicious ≡ written (encode_insufficient_signers ms)
  unfolding write_insufficient_signers writing
  writes_insufficient = rw (le-ltb room answer_length wide, le-leb malicious.count signer_limit few, listed)

  pub writes_timeout : (waiters : SignerIds) → waiters.count ≤ signer_limit → {ws : List ℕ} → signers_of waiters ≡ ws
      → write_nonce_timeout room waiters malicious ≡ written (encode_nonce_timeout ws ms)
  unfolding write_nonce_timeout writing
  writes_timeout waiters short named = rw (le-ltb room answer_length wide, le-leb waiters.count signer_limit short, le-leb malicious.count signer_limit few, listed, named)
