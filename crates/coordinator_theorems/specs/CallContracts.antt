-- A function's contract as a term: what it asks and what it promises, for the lemmas that equate it with a definition.
use base.Logic.{SProp, emp}
use prog.Memory.{Memory}
use prog.Routine.{Routine}
use types.Logic.{Logic}
use contract.Lifetimes.{Lfts}
use contract.Monad.{fact, Fun}
use borrow.Fn.World.{World}
use denote.Triple.Entry.{Res}
use denote.Triple.Clauses.{Ended, AtExit, Clauses, ClausesAt}

-- a function's contract, as it is written, at a model of the machine
abbrev pub at :
    (w : World) {T : Ended}
    → (Logic w.𝓤 → (Memory → SProp w.𝓤) → (Routine → Fun w.𝓤) → Clauses w.𝓤 T) → Clauses w.𝓤 T
at w c = c w.𝓛 w.𝓜.mem w.𝓡.run

-- the contract that asks nothing of a caller, and promises Φ of the result and of what the references hold at exit
abbrev pub promising :
    (w : World) (T : Ended) (κs : Lfts T.signature.lifetimes) → (Res T.signature κs → AtExit T κs → Type 0) → ClausesAt w.𝓤 T κs
promising w T κs Φ = record { ghost = Unit {0}; requires = λ g. emp w.𝓤; ensures = λ g r e. fact w.𝓤 (Φ r e) }
