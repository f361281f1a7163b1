-- What a call did, by its answer: refused, nothing, bytes sent; and what it knows once 4 to 7 are answered yes.
-- Assumes nothing.
use Rattle.std.specs.Prelude.{Err, Ok}
use Prim.Native.Nat.{ℕ, ◌≤◌}
use mathlib.Core.Path.{◌≡◌, refl, sym, ap, ◌∙◌}
use mathlib.Core.Bool.{Bool, true, false, cond, not, ◌||◌}
use mathlib.Core.List.{List, [], ◌∷◌, ◌++◌}
use native.Mathlib.Omega.{arith}
use borrow.Author.Tests.{leb-true}
use lib.Dec.{leb}
use lib.ListN.{length, drop}
use lib.Seq.{take_at}
use Rattle.layout.specs.Limits.{signer_limit, store_length, answer_length}
use Rattle.step_definition.specs.Calls as A
use Rattle.state.specs.declared.answers.Class.{Class}
use Rattle.state.specs.declared.answers.Class.TheVariants.{Nothing, Packet, Job, Result, Error}
use Rattle.state.specs.declared.answers.Asks.{Asks}
use Rattle.state.specs.declared.answers.Done.{Done}
use Rattle.state.specs.declared.fields.Coordinator.{Coordinator}
use Rattle.state.specs.Counts.{is_within_limits}
use Rattle.state.proofs.Within.{within, config_few}
use Rattle.state.specs.Turns.{Turn, turn, Did, said, class_of, class_in, answer_of, asked, asked_if, unless}
use Rattle.state.specs.Passed.{Passed, passed}
use Rattle.state.specs.Turns.{plain_answer, refused_answer, sending_answer, mismatched_answer, blaming_answer, handing_answer}
use Rattle.framing.specs.Writing.{Wrote, written, answer, buffer, Written}

class_in_law : (k : Class) → k ≡ class_in (class_of k)
class_in_law Nothing = refl
class_in_law Packet = refl
class_in_law Job = refl
class_in_law Result = refl
class_in_law Error = refl

pub refused_did :
    {p : Passed} {n : ℕ} {s : Coordinator} {r : Done} (store out : List ℕ) (rest : Turn) → p ≡ Err n → r ≡ record { answer = refused_answer n; after = s }
    → Did (unless p s store rest) out r store out
unfolding unless said answer_of
refused_did store out rest e d = rw (e, d) (record { exact = refl; answered = refl; after = refl; stored = refl; buffered = refl })

pub quiet_did :
    {p : Passed} {t : Coordinator} {r : Done} (s : Coordinator) (store store' out : List ℕ) → p ≡ (Ok tt) → r ≡ record { answer = plain_answer; after = t }
    → Did (unless p s store (turn A.plain t store')) out r store' out
unfolding unless said answer_of
quiet_did s store store' out e d = rw (e, d) (record { exact = refl; answered = refl; after = refl; stored = refl; buffered = refl })

-- an error, whatever it changed
pub error_did :
    {n : ℕ} {s : Coordinator} {r : Done} (store out : List ℕ) → r ≡ record { answer = refused_answer n; after = s }
    → Did (turn (A.refusing A.error n []) s store) out r store out
unfolding said answer_of
error_did store out d = rw d (record { exact = refl; answered = refl; after = refl; stored = refl; buffered = refl })

-- bytes sent, at the front of the buffer
pub sent_did :
    {k : Class} {n : ℕ} {s : Coordinator} {r : Done} {bs out out' : List ℕ} (es : List A.Event) (store : List ℕ)
    → r ≡ record { answer = sending_answer k n; after = s } → n ≡ length bs → out' ≡ bs ++ drop (length bs) out
    → Did (record { answer = A.sending (class_of k) bs; events = es; after = s; store = store }) out r store out'
unfolding said answer_of
sent_did {k} {n} {s} {r} {bs} {out} es store d e b =
    rw (d, e, b)
    (record {
      exact = ap (λ (x : Class). sending_answer x (length bs)) (class_in_law k);
      answered = ap (λ (xs : List ℕ). A.sending (class_of k) xs) (take_at bs (drop (length bs) out) (length bs) refl);
      after = refl;
      stored = refl;
      buffered = refl;
    })

-- nothing answered; what happened is told, and the store is what it was left as
pub plain_did :
    {s : Coordinator} {r : Done} (es : List A.Event) (store out : List ℕ) → r ≡ record { answer = plain_answer; after = s }
    → Did (record { answer = A.plain; events = es; after = s; store = store }) out r store out
unfolding said answer_of
plain_did es store out d = rw d (record { exact = refl; answered = refl; after = refl; stored = refl; buffered = refl })

-- an error, whatever happened
pub failing_did :
    {n : ℕ} {s : Coordinator} {r : Done} (es : List A.Event) (store out : List ℕ) → r ≡ record { answer = refused_answer n; after = s }
    → Did (record { answer = A.refusing A.error n []; events = es; after = s; store = store }) out r store out
unfolding said answer_of
failing_did es store out d = rw d (record { exact = refl; answered = refl; after = refl; stored = refl; buffered = refl })

pub mismatched_did :
    {k : Class} {n got expected : ℕ} {s : Coordinator} {r : Done} (store out : List ℕ) → r ≡ record { answer = mismatched_answer k n got expected; after = s }
    → Did (turn (A.refusing (class_of k) n (got ∷ (expected ∷ []))) s store) out r store out
unfolding said answer_of
mismatched_did {k} {n} {got} {expected} store out d =
    rw d
    (record { exact = ap (λ (x : Class). mismatched_answer x n got expected) (class_in_law k); answered = refl; after = refl; stored = refl; buffered = refl })

pub blaming_did :
    {n signer : ℕ} {s : Coordinator} {r : Done} (store out : List ℕ) → r ≡ record { answer = blaming_answer n signer; after = s }
    → Did (turn (A.refusing A.result n (signer ∷ [])) s store) out r store out
unfolding said answer_of
blaming_did store out d = rw d (record { exact = refl; answered = refl; after = refl; stored = refl; buffered = refl })

-- a job's bytes with its mark
pub handed_did :
    {whole : Bool} {n : ℕ} {s : Coordinator} {r : Done} {bs out out' : List ℕ} (es : List A.Event) (store : List ℕ)
    → r ≡ record { answer = handing_answer whole n; after = s } → n ≡ length bs → out' ≡ bs ++ drop (length bs) out
    → Did (record { answer = A.handing whole bs; events = es; after = s; store = store }) out r store out'
unfolding said answer_of
handed_did {whole} {n} {s} {r} {bs} {out} es store d e b =
    rw (d, e, b)
    (record {
      exact = refl;
      answered = ap (λ (xs : List ℕ). A.handing whole xs) (take_at bs (drop (length bs) out) (length bs) refl);
      after = refl;
      stored = refl;
      buffered = refl;
    })

-- what a writer wrote: how many bytes, and the buffer
module _ {bs out out' : List ℕ} {w : Written} (wrote : Wrote (written bs) out w out') where
  pub written_length : {n : ℕ} → w ≡ Ok n → n ≡ length bs
  unfolding answer
  written_length e = let z : Ok _ ≡ Ok (length bs) = sym e ∙ wrote.answered in cc

  pub written_bytes : out' ≡ bs ++ drop (length bs) out
  unfolding buffer
  written_bytes = wrote.buffered

  -- a writer that writes refuses nothing
  pub never_refused : {n : ℕ} → w ≡ Err n → ⊥
  unfolding answer
  never_refused e = let z : Err _ ≡ Ok (length bs) = sym e ∙ wrote.answered in let y : ◌≡◌ {A = ℕ} 0 1 = cc in omega arith

-- 4 to 7 answered yes
pub record Answered (a : Asks) (size room : ℕ) (s : Coordinator) : Type 0 where
  pub commissioned : s.commissioned ≡ true
  pub within : is_within_limits s ≡ true
  pub stored : store_length ≤ size
  pub roomy : (not a.room || leb answer_length room) ≡ true

never : {n : ℕ} {b : Bool} → Err n ≡ passed → b ≡ true
never e = let z : ◌≡◌ {A = ℕ} 0 1 = cc in let f : ⊥ = omega arith in absurd f

all_yes : (b w z j k r : Bool) → cond b (cond w (cond z (cond j (cond k (cond r passed (Err 7)) (Err 6)) (Err 5)) (Err 4)) (Err 4)) (Err 4) ≡ passed
    → (b ≡ true) × (w ≡ true) × (z ≡ true) × (r ≡ true)
all_yes true true true true true true e = (refl, refl, refl, refl)
all_yes true true true true true false e = (refl, refl, refl, never e)
all_yes true true true true false r e = (refl, refl, refl, never e)
all_yes true true true false k r e = (refl, refl, refl, never e)
all_yes true true false j k r e = (refl, refl, never e, never e)
all_yes true false z j k r e = (refl, never e, never e, never e)
all_yes false w z j k r e = (never e, never e, never e, never e)

pub answered_all : (a : Asks) (size room : ℕ) (s : Coordinator) → asked a size room s ≡ (Ok tt) → Answered a size room s
unfolding asked asked_if
answered_all a size room s e =
    let y = all_yes s.commissioned (is_within_limits s) (leb store_length size) (not a.no_job || not s.job) (not a.a_job || s.job) (not a.room || leb answer_length room) e in
    record { commissioned = y.0; within = y.1; stored = leb-true _ _ y.2; roomy = y.3 }

-- a call that passes the questions before its own, and what 4 says of its struct
pub passed_did :
    {p : Passed} {r : Done} {store' out out' : List ℕ} {rest : Turn} (s : Coordinator) (store : List ℕ) → p ≡ (Ok tt) → Did rest out r store' out'
    → Did (unless p s store rest) out r store' out'
unfolding unless
passed_did s store e d = rw e d

-- 4 is yes: no more signers than the limit
pub passed_few : (a : Asks) (size room : ℕ) (s : Coordinator) → asked a size room s ≡ (Ok tt) → s.config.count ≤ signer_limit
passed_few a size room s e = config_few s (within s (answered_all a size room s e).within)

-- a question answered no, and yes
module _ {store out : List ℕ} {r : Done} {out' : List ℕ} (a : Bool) (x y : Turn) where
  pub answered_no : a ≡ false → Did y out r store out' → Did (cond a x y) out r store out'
  answered_no e d = rw e d

  pub answered_yes : a ≡ true → Did x out r store out' → Did (cond a x y) out r store out'
  answered_yes e d = rw e d
