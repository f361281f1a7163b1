-- The library's version: 65536 for each major, 256 for each minor and 1 for each patch number. The header's RC_VERSION is the same number.
use Rattle.std.specs.Prelude.{ℕ}

abbrev pub version : ℕ
version = 1024
