-- The reader's answer.
use Rattle.std.specs.Prelude.{ℕ, Result, Ok, Err}
use Rattle.layout.specs.declared.Header.{Header}
use Rattle.layout.specs.Encode.{header}
use Rattle.layout.specs.Decode.{Decoded, taken, refused}

-- the header of a packet that is taken, or 01's number
abbrev pub Read : Type 0
Read = Result Header ℕ

-- a packet that is taken gives its message's header; one that is refused, 01's number: 8 or 9
unfoldable pub reading : Decoded → Read
reading (taken m) = Ok (header m)
reading (refused n) = Err n
