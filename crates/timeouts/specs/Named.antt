-- Whom the results of timeouts name, ascending, as the view lists them.
use Rattle.std.specs.Prelude.{ℕ, Bool, List}
use Rattle.state.specs.declared.fields.Config.{Config}
use Rattle.state.specs.declared.fields.SignRoundInfo.{SignRoundInfo}
use Rattle.state.specs.Slots.{collect}
use Rattle.state.specs.View.{slots_of, flagged_in, waits_in}

-- a record's waiters
abbrev pub waiters_in : Config → SignRoundInfo → List ℕ
waiters_in g row = collect (waits_in row.slots) (slots_of g)

-- the signers whose flags are set
abbrev pub flagged_signers : Config → List Bool → List ℕ
flagged_signers g flags = collect (flagged_in flags) (slots_of g)
