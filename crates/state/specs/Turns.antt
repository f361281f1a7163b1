-- What a call gives at the level of struct and store, exactly: answer, struct, store, answer buffer.
use Rattle.std.specs.Prelude.{ℕ, ◌≡◌, Bool, false, cond, not, ◌||◌, List, [], ◌∷◌, ◌++◌, leb, length, get_or, take, drop, Err, Ok}
use Rattle.layout.specs.Limits.{store_length, answer_length}
use Rattle.step_definition.specs.Calls as A
use Rattle.state.specs.Passed.{Passed}
use Rattle.state.specs.declared.answers.Class.{Class}
use Rattle.state.specs.declared.answers.Class.TheVariants.{Nothing, Packet, Job, Result, Error}
use Rattle.state.specs.declared.answers.Answer.{Answer}
use Rattle.state.specs.declared.answers.Done.{Done}
use Rattle.state.specs.declared.answers.Asks.{Asks}
use Rattle.state.specs.declared.fields.Coordinator.{Coordinator}
use Rattle.state.specs.Counts.{is_within_limits}
use Rattle.state.specs.View.{view}

abbrev pub plain_answer : Answer
plain_answer = record { class = Nothing; number = 0; first = 0; second = 0; values = 0; mark = false; length = 0 }

abbrev pub refused_answer : ℕ → Answer
refused_answer n = record { class = Error; number = n; first = 0; second = 0; values = 0; mark = false; length = 0 }

-- a result with a number, and one that tells a value
abbrev pub failed_answer : ℕ → Answer
failed_answer n = record { class = Result; number = n; first = 0; second = 0; values = 0; mark = false; length = 0 }

abbrev pub telling_answer : ℕ → Answer
telling_answer v = record { class = Result; number = 0; first = v; second = 0; values = 1; mark = false; length = 0 }

-- bytes in the answer buffer
abbrev pub sending_answer : Class → ℕ → Answer
sending_answer k n = record { class = k; number = 0; first = 0; second = 0; values = 0; mark = false; length = n }

-- an id that is not current, with what was got and what was expected; a result about a signer
abbrev pub mismatched_answer : Class → ℕ → ℕ → ℕ → Answer
mismatched_answer k n got expected =
    record { class = k; number = n; first = got; second = expected; values = 2; mark = false; length = 0 }

abbrev pub blaming_answer : ℕ → ℕ → Answer
blaming_answer n signer = record { class = Result; number = n; first = signer; second = 0; values = 1; mark = false; length = 0 }

-- a job in the answer buffer, with its mark
abbrev pub handing_answer : Bool → ℕ → Answer
handing_answer whole n = record { class = Job; number = 0; first = 0; second = 0; values = 0; mark = whole; length = n }

-- a struct's answer as 01's
abbrev pub class_of : Class → A.Class
class_of Nothing = A.nothing
class_of Packet = A.packet
class_of Job = A.job
class_of Result = A.result
class_of Error = A.error

unfoldable pub said : Answer → List ℕ → A.Answer
said a out =
    record {
      class = class_of a.class;
      number = a.number;
      values = take a.values (a.first ∷ (a.second ∷ []));
      mark = a.mark;
      bytes = take a.length out;
    }

-- the struct that tells an answer of 01's, whole: what no value of the answer fills is 0
abbrev pub class_in : A.Class → Class
class_in A.nothing = Nothing
class_in A.packet = Packet
class_in A.job = Job
class_in A.result = Result
class_in A.error = Error

unfoldable pub answer_of : A.Answer → Answer
answer_of a =
    record {
      class = class_in a.class;
      number = a.number;
      first = get_or a.values 0 0;
      second = get_or a.values 1 0;
      values = length a.values;
      mark = a.mark;
      length = length a.bytes;
    }

-- what a call gives, and what happened in it
pub record Turn : Type 0 where
  pub answer : A.Answer
  pub events : List A.Event
  pub after : Coordinator
  pub store : List ℕ

-- a call in which nothing happened that is told
abbrev pub turn : A.Answer → Coordinator → List ℕ → Turn
turn a s store = record { answer = a; events = []; after = s; store = store }

-- an error; s is the struct after, and nothing is sent
abbrev pub error_turn : ℕ → Coordinator → List ℕ → Turn
error_turn n s store = turn (A.refusing A.error n []) s store

-- the call did what the definition says. `exact` leaves nothing of the struct's answer open; `answered` is what a host reads off it
pub record Did (t : Turn) (out : List ℕ) (r : Done) (store' out' : List ℕ) : Type 0 where
  pub exact : r.answer ≡ answer_of t.answer
  pub answered : said r.answer out' ≡ t.answer
  pub after : r.after ≡ t.after
  pub stored : store' ≡ t.store
  pub buffered : out' ≡ t.answer.bytes ++ drop (length t.answer.bytes) out

-- 4, then 5, 6 and 7 where they are asked; of a struct that is commissioned, whose counts are within the limits, with a job out
unfoldable pub asked_if : Asks → ℕ → ℕ → Bool → Bool → Bool → Passed
asked_if a size room job commissioned within =
    cond commissioned
    (cond within
    (cond (leb store_length size)
    (cond (not a.no_job || not job)
    (cond (not a.a_job || job)
    (cond (not a.room || leb answer_length room) (Ok tt) (Err 7))
    (Err 6))
    (Err 5))
    (Err 4))
    (Err 4))
    (Err 4)

unfoldable pub asked : Asks → ℕ → ℕ → Coordinator → Passed
asked a size room s = asked_if a size room s.job s.commissioned (is_within_limits s)

unfoldable pub unless : Passed → Coordinator → List ℕ → Turn → Turn
unless (Ok tt) s store rest = rest
unless (Err n) s store rest = turn (A.refusing A.error n []) s store

-- the same answer, the same events, and the struct and the store after stand for what the step says
pub record Refines (t : Turn) (o : A.Outcome) : Type 0 where
  pub answer : t.answer ≡ o.answer
  pub events : t.events ≡ o.events
  pub after : view t.after t.store ≡ o.after
