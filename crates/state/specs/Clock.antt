-- "Clock readings and timeouts are numbers of nanoseconds": one that is there, or none.
use Rattle.std.specs.Prelude.{ℕ, Option}

abbrev pub Reading : Type 0
Reading = Option ℕ
