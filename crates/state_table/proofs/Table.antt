-- The table and the rule: a move is accepted where the table's entry says so and the types agree.
-- Assumes nothing.
use Rattle.std.specs.Prelude.{None, Some}
use Prim.Native.Nat.{ℕ, ◌<◌}
use mathlib.Core.Path.{◌≡◌, refl, sym, ap}
use mathlib.Core.Bool.{Bool, true, false, ◌&&◌, ◌||◌, and-true, false≢true}
use mathlib.Core.List.{List, []}
use lib.Dec.{eqb, lit<}
use lib.ListN.{get_or}
use Rattle.layout.specs.declared.SignatureType.TheVariants.{Frost}
use Rattle.state_table.specs.declared.State.{State}
use Rattle.state_table.specs.declared.State.TheVariants.{Idle, DkgPublicDistribute, DkgPublicGather, DkgPublicSharesDoneDistribute, DkgPublicSharesDoneGather, DkgPrivateDistribute, DkgPrivateGather, DkgPrivateSharesDoneDistribute, DkgPrivateSharesDoneGather, DkgEndDistribute, DkgEndGather, NonceRequest, NonceGather, SigShareRequest, SigShareGather}
use Rattle.state_table.specs.States.{Position, state_number, type_in, same_type, types_agree, same, StateType}
use Rattle.state_table.specs.Moves.{accepted, can_move_to, states, allowed}

-- the state that stands for s in `states`
abbrev rep : State → State
rep s = get_or states (state_number s) Idle

-- what is the same of a state and of the one that stands for it: its number; and one that lets a request follow whatever the type has none
record Stands (s : State) : Type 0 where
  number : state_number (rep s) ≡ state_number s
  agrees : types_agree (type_in (rep s)) [] (Some Frost) [] ≡ true
  free : (eqb (state_number s) 0 || eqb (state_number s) 10) ≡ true → type_in s ≡ None
  below : state_number s < 15

stands : (s : State) → Stands s
unfolding states types_agree same_type
stands Idle = record { number = refl; agrees = refl; free = λ e. refl; below = lit< tt }
stands DkgPublicDistribute = record { number = refl; agrees = refl; free = λ e. refl; below = lit< tt }
stands DkgPublicGather = record { number = refl; agrees = refl; free = λ e. refl; below = lit< tt }
stands DkgPublicSharesDoneDistribute = record { number = refl; agrees = refl; free = λ e. refl; below = lit< tt }
stands DkgPublicSharesDoneGather = record { number = refl; agrees = refl; free = λ e. refl; below = lit< tt }
stands DkgPrivateDistribute = record { number = refl; agrees = refl; free = λ e. refl; below = lit< tt }
stands DkgPrivateGather = record { number = refl; agrees = refl; free = λ e. refl; below = lit< tt }
stands DkgPrivateSharesDoneDistribute = record { number = refl; agrees = refl; free = λ e. refl; below = lit< tt }
stands DkgPrivateSharesDoneGather = record { number = refl; agrees = refl; free = λ e. refl; below = lit< tt }
stands DkgEndDistribute = record { number = refl; agrees = refl; free = λ e. refl; below = lit< tt }
stands DkgEndGather = record { number = refl; agrees = refl; free = λ e. refl; below = lit< tt }
stands (NonceRequest t) = record { number = refl; agrees = refl; free = λ e. absurd (false≢true e); below = lit< tt }
stands (NonceGather t) = record { number = refl; agrees = refl; free = λ e. absurd (false≢true e); below = lit< tt }
stands (SigShareRequest t) = record { number = refl; agrees = refl; free = λ e. absurd (false≢true e); below = lit< tt }
stands (SigShareGather t) = record { number = refl; agrees = refl; free = λ e. absurd (false≢true e); below = lit< tt }

pub state_below : (s : State) → state_number s < 15
state_below s = (stands s).below

or_and : (a b c : Bool) → (a && c || b && c) ≡ ((a || b) && c)
or_and true true true = refl
or_and true true false = refl
or_and true false true = refl
or_and true false false = refl
or_and false true c = refl
or_and false false c = refl

free_or : (d c a : Bool) → (d ≡ true → a ≡ true) → (d || c && a) ≡ ((d || c) && a)
free_or true c a h = sym (h refl)
free_or false c a h = refl

-- the rule at every target
table_rule : (q : State) (root : List ℕ) (p : Position) → accepted q root p ≡ (allowed (state_number p.state) (state_number q) && types_agree (type_in p.state) p.root (type_in q) root)
unfolding accepted can_move_to allowed states same types_agree
table_rule Idle root p = refl
table_rule DkgPublicDistribute root p = simp (and-true, (stands p.state).number)
table_rule DkgPublicGather root p = simp (and-true, (stands p.state).number)
table_rule DkgPublicSharesDoneDistribute root p = simp (and-true, (stands p.state).number)
table_rule DkgPublicSharesDoneGather root p = simp (and-true, (stands p.state).number)
table_rule DkgPrivateDistribute root p = simp (and-true, (stands p.state).number)
table_rule DkgPrivateGather root p = simp (and-true, (stands p.state).number)
table_rule DkgPrivateSharesDoneDistribute root p = simp (and-true, (stands p.state).number)
table_rule DkgPrivateSharesDoneGather root p = simp (and-true, (stands p.state).number)
table_rule DkgEndDistribute root p = simp (and-true, (stands p.state).number)
table_rule DkgEndGather root p = simp (and-true, (stands p.state).number)
table_rule (NonceRequest t) root p =
    simp (and-true, (stands p.state).number, (stands p.state).agrees)
    (free_or (eqb (state_number p.state) 0 || eqb (state_number p.state) 10) (eqb (state_number p.state) 14) (types_agree (type_in p.state) p.root (Some t) root) (λ e. ap (λ (a : StateType). types_agree a p.root (Some t) root) ((stands p.state).free e)))
table_rule (NonceGather t) root p = simp (and-true, (stands p.state).number, (stands p.state).agrees) (or_and (eqb (state_number p.state) 11) (eqb (state_number p.state) 12) (types_agree (type_in p.state) p.root (Some t) root))
table_rule (SigShareRequest t) root p = simp (and-true, (stands p.state).number, (stands p.state).agrees)
table_rule (SigShareGather t) root p = simp (and-true, (stands p.state).number, (stands p.state).agrees) (or_and (eqb (state_number p.state) 13) (eqb (state_number p.state) 14) (types_agree (type_in p.state) p.root (Some t) root))

-- a move is accepted where the table's entry says so and the types agree
pub move-table : (p q : Position) → can_move_to p q ≡ (allowed (state_number p.state) (state_number q.state) && types_agree (type_in p.state) p.root (type_in q.state) q.root)
unfolding can_move_to
move-table p q = table_rule q.state q.root p
