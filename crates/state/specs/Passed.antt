-- Whether questions are answered yes; else the number of the first that is not.
use Rattle.std.specs.Prelude.{ℕ, Result, Ok}

abbrev pub Passed : Type 0
Passed = Result (Unit {0}) ℕ

-- all answered yes
abbrev pub passed : Passed
passed = Ok tt
