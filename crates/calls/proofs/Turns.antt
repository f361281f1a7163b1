-- A call that answers without bytes did what its definition says.
-- Assumes nothing.
use Rattle.std.specs.Prelude.{Ok}
use Prim.Native.Nat.{ℕ}
use mathlib.Core.Path.{◌≡◌, refl}
use mathlib.Core.List.{List, []}
use Rattle.step_definition.specs.Calls as A
use Rattle.state.specs.declared.answers.Answer.{Answer}
use Rattle.state.specs.declared.answers.Done.{Done}
use Rattle.state.specs.declared.fields.Coordinator.{Coordinator}
use Rattle.state.specs.Turns.{Did, said, answer_of, turn, unless}
use Rattle.state.specs.Passed.{Passed}

pub bare_did :
    {p : Passed} {a : Answer} {t : Coordinator} {r : Done} {x : A.Answer} (s : Coordinator) (store out : List ℕ) → p ≡ (Ok tt)
    → r ≡ record { answer = a; after = t } → a ≡ answer_of x → said a out ≡ x → x.bytes ≡ [] → Did (unless p s store (turn x t store)) out r store out
unfolding unless
bare_did s store out e d x y b = rw (e, d) (record { exact = x; answered = y; after = refl; stored = refl; buffered = rw b })
