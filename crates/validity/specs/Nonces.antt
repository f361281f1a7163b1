-- "`PublicNonce::is_valid`: neither D nor E is identity or G. A point has 33 bytes: identity is 33 zero bytes, G is hexadecimal
-- 02 79BE667EF9DCBBAC55A06295CE870B07029BFCDB2DCE28D959F2815B16F81798."
use Rattle.std.specs.Prelude.{ℕ, Bool, ◌&&◌, not, List, [], ◌∷◌, replicate}
use Rattle.wire.specs.Bytes.{every, are_same_bytes}
use Rattle.layout.specs.Messages.{Nonce}

abbrev pub identity : List ℕ
identity = replicate 33 0

abbrev pub generator : List ℕ
generator =
    0x02 ∷ 0x79 ∷ 0xBE ∷ 0x66 ∷ 0x7E ∷ 0xF9 ∷ 0xDC ∷ 0xBB ∷ 0xAC ∷ 0x55 ∷ 0xA0 ∷ 0x62 ∷ 0x95 ∷ 0xCE ∷ 0x87 ∷ 0x0B ∷ 0x07
    ∷ 0x02 ∷ 0x9B ∷ 0xFC ∷ 0xDB ∷ 0x2D ∷ 0xCE ∷ 0x28 ∷ 0xD9 ∷ 0x59 ∷ 0xF2 ∷ 0x81 ∷ 0x5B ∷ 0x16 ∷ 0xF8 ∷ 0x17 ∷ 0x98 ∷ []

unfoldable pub valid_point : List ℕ → Bool
valid_point p = not (are_same_bytes p identity) && not (are_same_bytes p generator)

unfoldable pub valid_nonce : Nonce → Bool
valid_nonce n = valid_point n.D && valid_point n.E

-- "nonces valid": every nonce of a response
unfoldable pub nonces_valid : List Nonce → Bool
nonces_valid ns = every valid_nonce ns
