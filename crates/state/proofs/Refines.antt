-- What every call is asked first: the struct's answer is the definition's.
-- Assumes nothing.
use Rattle.std.specs.Prelude.{Option, Some, None, Err, Ok}
use Prim.Native.Nat.{ℕ}
use mathlib.Core.Path.{◌≡◌, refl, sym, ap, subst, ◌∙◌}
use mathlib.Core.Bool.{Bool, true, false, cond, not, ◌||◌}
use mathlib.Core.List.{List, []}
use lib.Dec.{leb}
use lib.ListN.{length}
use Rattle.step_definition.specs.Coordinator.{Held, uncommissioned, miscounted, commissioned}
use Rattle.step_definition.specs.Coordinator.{Coordinator as Defined}
use Rattle.step_definition.specs.Calls as A
use Rattle.layout.specs.Limits.{store_length, answer_length}
use Rattle.step_definition.specs.Lists.{given}
use Rattle.step_definition.specs.Questions as Q
use Rattle.step_definition.specs.Step as S
use Rattle.state.specs.declared.answers.Asks.{Asks}
use Rattle.state.specs.declared.fields.Coordinator.{Coordinator}
use Rattle.state.specs.Counts.{is_within_limits}
use Rattle.state.specs.View.{view, held_if, coordinator_of}
use Rattle.state.specs.Turns.{Turn, turn, error_turn, asked, asked_if, unless, Refines}
use Rattle.state.specs.Passed.{Passed}

abbrev asks_of : Asks → Q.Asks
asks_of a = record { no_job = a.no_job; a_job = a.a_job; room = a.room }

abbrev passed_of : Option ℕ → Passed
passed_of None = (Ok tt)
passed_of (Some n) = Err n

chain :
    (b₁ b₂ b₃ b₄ : Bool) → passed_of (cond b₁ (cond b₂ (cond b₃ (cond b₄ None (Some 7)) (Some 6)) (Some 5)) (Some 4))
    ≡ cond b₁ (cond b₂ (cond b₃ (cond b₄ (Ok tt) (Err 7)) (Err 6)) (Err 5)) (Err 4)
chain true true true true = refl
chain true true true false = refl
chain true true false b = refl
chain true false a b = refl
chain false c a b = refl

module _ (k : A.Call) (o : A.Operation) (a : Asks) (same : Q.asks o ≡ asks_of a) where
  before_asked : (c : Defined) → passed_of (Q.before k o c) ≡ asked_if a k.store k.room c.job true true
  unfolding Q.before asked_if Q.question4 Q.question5 Q.question6 Q.question7
  before_asked c =
      rw same
      (chain (leb store_length k.store) (not a.no_job || not c.job) (not a.a_job || c.job) (not a.room || leb answer_length k.room))

  refuses :
      (s : Coordinator) (store : List ℕ) (h : Held) (n : ℕ) (vs : List ℕ) → view s store ≡ h
      → Refines (turn (A.refusing A.error n vs) s store) (A.outcome (A.refusing A.error n vs) [] h)
  refuses s store h n vs e = record { answer = refl; events = refl; after = e }

  passed :
      (s : Coordinator) (store : List ℕ) (rest : Turn) (c : Defined) (n : Option ℕ) → view s store ≡ commissioned c
      → (passed_of n ≡ (Ok tt) → Refines rest (S.own k o c))
      → Refines (unless (passed_of n) s store rest) (given n (λ (n : ℕ). A.failing n [] c) (S.own k o c))
  unfolding unless
  passed s store rest c None e r = r refl
  passed s store rest c (Some n) e r = record { answer = refl; events = refl; after = e }

  by :
      (s : Coordinator) (store : List ℕ) (rest : Turn) (c : Defined) (b w : Bool) → k.store ≡ length store
      → view s store ≡ held_if b w c
      → (asked_if a (length store) k.room c.job b w ≡ (Ok tt) → b ≡ true → w ≡ true → Refines rest (S.own k o c))
      → Refines (unless (asked_if a (length store) k.room c.job b w) s store rest) (S.on_held k o (held_if b w c))
  unfolding S.on_held held_if unless asked_if
  by s store rest c true true l e r =
      rw (← l) (rw (before_asked c) at (passed s store rest c (Q.before k o c) e (λ y. r (rw (← l) (sym (before_asked c) ∙ y)) refl refl)))
  by s store rest c true false l e r = refuses s store miscounted 4 [] e
  by s store rest c false w l e r = refuses s store uncommissioned 4 [] e

  -- with what the questions' answers say of struct and lengths
  pub on-asked :
      (s : Coordinator) (store : List ℕ) (rest : Turn) → k.store ≡ length store
      → (asked a (length store) k.room s ≡ (Ok tt) → s.commissioned ≡ true → is_within_limits s ≡ true → Refines rest (S.own k o (coordinator_of s store)))
      → Refines (unless (asked a (length store) k.room s) s store rest) (S.on_held k o (view s store))
  unfolding asked view coordinator_of
  on-asked s store rest l r = by s store rest (coordinator_of s store) s.commissioned (is_within_limits s) l refl r

  pub on_held_law :
      (s : Coordinator) (store : List ℕ) (rest : Turn) → k.store ≡ length store
      → (s.commissioned ≡ true → is_within_limits s ≡ true → Refines rest (S.own k o (coordinator_of s store)))
      → Refines (unless (asked a (length store) k.room s) s store rest) (S.on_held k o (view s store))
  on_held_law s store rest l r = on-asked s store rest l (λ y. r)

-- a struct that is commissioned, whose counts are within the limits, stands for its coordinator
pub view_held : (s : Coordinator) (store : List ℕ) → s.commissioned ≡ true → is_within_limits s ≡ true → view s store ≡ commissioned (coordinator_of s store)
unfolding view held_if
view_held s store b w = ap (λ (x : Bool). held_if x (is_within_limits s) (coordinator_of s store)) b ∙ ap (λ (x : Bool). held_if true x (coordinator_of s store)) w

-- a call with its clock reading, verdict and the lengths of what it is lent
abbrev pub call_of : A.Request → ℕ → Bool → ℕ → ℕ → A.Call
call_of q clock verdict store room = record { request = q; clock = clock; verdict = verdict; store = store; room = room }

-- a question that the struct and the definition answer alike
pub ask_refines : {x y : Turn} {o p : A.Outcome} (a b : Bool) → a ≡ b → (a ≡ true → Refines x o) → (a ≡ false → Refines y p) → Refines (cond a x y) (cond b o p)
ask_refines {x} {y} {o} {p} a b e f g = subst (λ (b : Bool). Refines (cond a x y) (cond b o p)) e (by a f g)
  where
    by : (a : Bool) → (a ≡ true → Refines x o) → (a ≡ false → Refines y p) → Refines (cond a x y) (cond a o p)
    by true f g = f refl
    by false f g = g refl

pub error_refines :
    (n : ℕ) (s : Coordinator) (store : List ℕ) (c : Defined) → s.commissioned ≡ true → is_within_limits s ≡ true → coordinator_of s store ≡ c
    → Refines (error_turn n s store) (A.failing n [] c)
error_refines n s store c b w e = record { answer = refl; events = refl; after = view_held s store b w ∙ rw e }
