-- What a call of the library did, of what the coordinator's did on the state that was loaded.
-- Assumes nothing.
use Prim.Native.Nat.{ℕ, ◌+◌, ◌≤◌}
use mathlib.Core.Path.{◌≡◌, refl, sym, ap, ◌∙◌}
use mathlib.Core.Bool.{Bool, true, false, cond, not, ◌&&◌, ◌||◌}
use mathlib.Core.List.{List}
use native.Mathlib.Omega.{arith}
use borrow.Author.Tests.{leb-true}
use lib.Dec.{eqb, leb}
use lib.ListN.{length, take, take-append-drop}
use lib.Seq.{length-take-le}
use Rattle.wire.specs.Bytes.{put}
use Rattle.wire.proofs.Lists.{and_left}
use Rattle.wire.proofs.Buffer.{put_inside}
use Rattle.step_definition.specs.Calls as A
use Rattle.state.specs.Turns as T
use Rattle.state.specs.Turns.{Turn, Did, said}
use Rattle.state.specs.declared.answers.Class.{Class}
use Rattle.state.specs.declared.answers.Class.TheVariants.{Nothing, Packet, Job, Result, Error}
use Rattle.state.specs.declared.answers.Answer.{Answer}
use Rattle.state.specs.declared.answers.Done.{Done}
use Rattle.state.specs.declared.fields.Coordinator.{Coordinator}
use Rattle.state_bytes.specs.Saved.{state_length, saved, Saves}
use Rattle.state_bytes.specs.Loaded.{is_saved, loaded}
use Rattle.state_bytes.proofs.Loads.{load-put, saved-bytes}
use Rattle.interface.specs.declared.answers.RcAnswer.{RcAnswer}
use Rattle.interface.specs.declared.loads.Loaded.{Loaded}
use Rattle.step_definition.specs.Calls.{is_nothing}
use Rattle.step_definition.specs.Refusals.{unchanging}
use Rattle.interface.specs.Answers.{class_number, class_of, flat, told, quiet}
use Rattle.interface.specs.Called.{Called}

class-told : (k : Class) → class_of (class_number k) ≡ T.class_of k
unfolding class_of
class-told Nothing = refl
class-told Packet = refl
class-told Job = refl
class-told Result = refl
class-told Error = refl

mark-told : (b : Bool) → eqb (cond b 1 0) 1 ≡ b
mark-told true = refl
mark-told false = refl

-- an answer as plain numbers tells 01's answer
pub told-flat : (a : Answer) (out : List ℕ) → told (flat a) out ≡ said a out
unfolding told flat said
told-flat a out = rw (class-told a.class, mark-told a.mark)

-- what is put over itself stays
put_itself : (b xs : List ℕ) (n : ℕ) → n ≤ length b → take n b ≡ xs → put b 0 xs ≡ b
put_itself b xs n l e =
    let long : length xs ≡ n = ap length (sym e) ∙ length-take-le n b l in
    let k : 0 + length xs ≡ n = omega (arith, long) in
    put_inside b 0 xs (omega (arith, long)) ∙ rw (k, ← e) (take-append-drop n b)

long-saved : (b : List ℕ) → is_saved b ≡ true → state_length ≤ length b
unfolding is_saved
long-saved b y = leb-true state_length (length b) (and_left (leb state_length (length b)) _ y)

saved-over : (b : List ℕ) → is_saved b ≡ true → put b 0 (saved (loaded b)) ≡ b
saved-over b y = put_itself b (saved (loaded b)) state_length (long-saved b y) (saved-bytes b y)

-- saving over bytes what they count as leaves them as they are
pub resaved : (b : List ℕ) → cond (is_saved b) (put b 0 (saved (loaded b))) b ≡ b
resaved b = by (is_saved b) refl
  where
    by : (y : Bool) → is_saved b ≡ y → cond y (put b 0 (saved (loaded b))) b ≡ b
    by true e = saved-over b e
    by false e = refl

-- what keep promises
abbrev pub Kept : Bool → Bool → List ℕ → Done → RcAnswer → List ℕ → Type 0
Kept w still state d r state' =
    (r ≡ flat d.answer)
    × ((state' ≡ cond (w && not ((still && is_nothing (T.class_of d.answer.class)) || unchanging d.answer.number)) (put state 0 (saved d.after)) state)
    × Saves d.after)

-- the class and the number that a call answered, as the definition has them
answer-said : {t : Turn} {out store' out' : List ℕ} {d : Done} → Did t out d store' out' → (T.class_of d.answer.class ≡ t.answer.class) × (d.answer.number ≡ t.answer.number)
unfolding said
answer-said did = (ap (λ (a : A.Answer). a.class) did.answered, ap (λ (a : A.Answer). a.number) did.answered)

module _ {state out state' store' out' : List ℕ} {r : RcAnswer} {d : Done} where
  pub called : (w still : Bool) (t : Turn) → Did t out d store' out' → Kept w still state d r state'
      → (w ≡ true → quiet still t.answer ≡ true → put state 0 (saved t.after) ≡ state) → Called w t state out r state' store' out'
  called w still t did kept over =
      let k : state' ≡ cond w (put state 0 (saved t.after)) state = by w (quiet still t.answer) (rw ((answer-said did).0, (answer-said did).1, did.after) at kept.1.0) over in
      record {
        exact = kept.0 ∙ ap flat did.exact;
        answered = rw kept.0 (told-flat d.answer out' ∙ did.answered);
        kept = k;
        loads = λ y l. rw (k, y) (load-put state t.after (rw did.after at kept.1.1) l);
        stored = did.stored;
        buffered = did.buffered;
      }
    where
      by : (w q : Bool) {x : List ℕ} → state' ≡ cond (w && not q) x state → (w ≡ true → q ≡ true → x ≡ state) → state' ≡ cond w x state
      by true true e f = e ∙ sym (f refl refl)
      by true false e f = e
      by false q e f = e

  -- a call on the state that the bytes count as; an answer that tells so leaves the struct as it was
  pub call :
      (f : Coordinator → Turn) (from : Loaded) (still : Bool) →
      (from.saved ≡ is_saved state) × (from.state ≡ loaded state) →
      Did (f from.state) out d store' out' →
      Kept from.saved still state d r state' →
      ((s : Coordinator) → quiet still (f s).answer ≡ true → (f s).after ≡ s) →
      Called (is_saved state) (f (loaded state)) state out r state' store' out'
  call f from still e did kept back =
      rw (← e.0, ← e.1)
      (called from.saved still (f from.state) did kept
      (λ w q. rw (back from.state q, e.1) (saved-over state (sym e.0 ∙ w))))

module _ {state out store' out' : List ℕ} {r : RcAnswer} {d : Done} where
  -- a call that gives the struct back whatever it answers, and writes nothing over its bytes
  pub call-still :
      (f : Coordinator → Turn) (from : Loaded) →
      (from.saved ≡ is_saved state) × (from.state ≡ loaded state) →
      Did (f from.state) out d store' out' →
      r ≡ flat d.answer →
      ((s : Coordinator) → (f s).after ≡ s) →
      Called (is_saved state) (f (loaded state)) state out r state store' out'
  call-still f from e did said back =
      let here : Did (f (loaded state)) out d store' out' = rw e.1 at did in
      record {
        exact = said ∙ ap flat here.exact;
        answered = rw said (told-flat d.answer out' ∙ here.answered);
        kept = rw (back (loaded state)) (sym (resaved state));
        loads = λ y l. sym (back (loaded state));
        stored = here.stored;
        buffered = here.buffered;
      }
