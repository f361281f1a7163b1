-- Every call that a host can make of the library is one that the theorems speak of: whatever it lends and says, there is what `Made` describes, as
-- long as the struct after it and the answer's values are of their types (`Can`; all-saves shows the first of every value of the struct's type).
-- Assumes nothing.
use Prim.Native.Nat.{ℕ, ◌+◌, ◌≤◌}
use mathlib.Core.Path.{◌≡◌, refl, sym, ap, ◌∙◌}
use mathlib.Core.Bool.{Bool, true, cond}
use mathlib.Core.List.{List, [], ◌∷◌, ◌++◌, map}
use native.Mathlib.Omega.{arith}
use lib.ListN.{length, get_or, take, drop, replicate, length-replicate}
use lib.Seq.{take-append_seam}
use Rattle.wire.specs.Bytes.{All, put}
use Rattle.step_definition.specs.Calls as A
use Rattle.step_definition.specs.Run.{Seen, malicious_in}
use Rattle.state.specs.Turns as T
use Rattle.state.specs.Turns.{Turn, said, answer_of}
use Rattle.state_bytes.specs.Saved.{state_length}
use Rattle.state_bytes.specs.Saved.{saved}
use Rattle.state_bytes.specs.Loaded.{loaded}
use Rattle.state_bytes.proofs.Loads.{load-put}
use Rattle.interface.specs.declared.answers.RcAnswer.{RcAnswer}
use Rattle.interface.specs.Answers.{flat, told}
use Rattle.interface.proofs.Call.{told-flat}
use Rattle.coordinator_theorems.specs.Host.{viewed}
use Rattle.library_theorems.specs.Library.{Buffers, counted, LibraryCall, saves, Made, Ran}
use Rattle.library_theorems.specs.Can.{turn_by, left, Can, CanAll}

-- an answer with at most two values is told by the struct and the bytes that it is made of
class_back : (k : A.Class) → T.class_of (T.class_in k) ≡ k
class_back A.nothing = refl
class_back A.packet = refl
class_back A.job = refl
class_back A.result = refl
class_back A.error = refl

values_back : (vs : List ℕ) → length vs ≤ 2 → take (length vs) (get_or vs 0 0 ∷ (get_or vs 1 0 ∷ [])) ≡ vs
values_back [] l = refl
values_back (a ∷ []) l = refl
values_back (a ∷ b ∷ []) l = refl
values_back (a ∷ b ∷ c ∷ vs) l = let no : ⊥ = omega arith in absurd no

answer-told : (a : A.Answer) (rest : List ℕ) → length a.values ≤ 2 → told (flat (answer_of a)) (a.bytes ++ rest) ≡ a
unfolding said answer_of
answer-told a rest l = told-flat (answer_of a) (a.bytes ++ rest) ∙ rw (class_back a.class, values_back a.values l, take-append_seam a.bytes rest)

module _ (k : LibraryCall) (b : Buffers) where
  abbrev lent : List ℕ
  lent = take k.state b.state

  abbrev turn : Turn
  turn = turn_by k b

  abbrev kept : List ℕ
  kept = cond (saves k.request lent) (put lent 0 (saved turn.after)) lent

  pub library_makes : Can k b → Made k b turn.answer (left k b)
  library_makes c =
      let out : List ℕ = replicate k.room 0 in
      let long : length out ≡ k.room = length-replicate {A = ℕ} k.room 0 in
      let back = answer-told turn.answer (drop (length turn.answer.bytes) out) c.values in
      record {
        plain = flat (answer_of turn.answer);
        out = out;
        out' = turn.answer.bytes ++ drop (length turn.answer.bytes) out;
        state' = kept;
        store' = turn.store;
        room = long;
        lends_state = c.state;
        lends_store = c.store;
        arrays = c.arrays;
        gave = rw long (record {
          exact = refl;
          answered = back;
          kept = refl;
          loads = λ y l. rw y (load-put lent turn.after c.saves l);
          stored = refl;
          buffered = refl;
        });
        answered = sym back;
        state_beyond = refl;
        store_beyond = refl;
      }

-- lists: each call on what the last left
pub library_runs : (ks : List LibraryCall) (b : Buffers) → CanAll ks b → (seen : List Seen) × (e : Buffers) × Ran ks b seen e
unfolding Ran
library_runs [] b c = ([], b, (refl, refl))
library_runs (k ∷ ks) b c =
    let rest = library_runs ks (left k b) c.1 in (
      record { answer = (turn_by k b).answer; malicious = malicious_in (viewed (counted (left k b))) } ∷ rest.0,
      rest.1,
      ((turn_by k b).answer, left k b, rest.0, library_makes k b c.0, rest.2, refl),
    )
