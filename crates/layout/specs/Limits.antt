-- 01's limits and sizes, each once: of a message, of a response's lists, of signers, of recorded messages, of the two lent buffers.
use Rattle.std.specs.Prelude.{ℕ}

-- "message ≤ 256 bytes"
abbrev pub message_limit : ℕ
message_limit = 256

-- "≤ 16 key ids, ≤ 16 nonces, ≤ 16 shares with ≤ 16 key ids in all", and "Every key set at most 16 keys"
abbrev pub list_limit : ℕ
list_limit = 16

-- "at most 10 signers", "≤ 10 responses nested", "At most 10 ids"
abbrev pub signer_limit : ℕ
signer_limit = 10

-- "under 4 recorded"
abbrev pub record_limit : ℕ
record_limit = 4

-- "lent store of 52,224 bytes or more"
abbrev pub store_length : ℕ
store_length = 52224

-- "answer buffer of at least 19,232 bytes"
abbrev pub answer_length : ℕ
answer_length = 19232
