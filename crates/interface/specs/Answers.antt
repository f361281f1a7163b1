-- An answer as plain numbers, and the answer that plain numbers and a buffer tell.
use Rattle.std.specs.Prelude.{ℕ, Bool, cond, ◌&&◌, ◌||◌, List, [], ◌∷◌, eqb, take}
use Rattle.step_definition.specs.Calls as A
use Rattle.step_definition.specs.Refusals.{unchanging}
use Rattle.state.specs.declared.answers.Class.{Class}
use Rattle.state.specs.declared.answers.Class.TheVariants.{Nothing, Packet, Job, Result, Error}
use Rattle.state.specs.declared.answers.Answer.{Answer}
use Rattle.interface.specs.declared.answers.RcAnswer.{RcAnswer}

abbrev pub class_number : Class → ℕ
class_number Nothing = 0
class_number Packet = 1
class_number Job = 2
class_number Result = 3
class_number Error = 4

unfoldable pub flat : Answer → RcAnswer
flat a =
    record {
      class = class_number a.class;
      number = a.number;
      first = a.first;
      second = a.second;
      values = a.values;
      mark = cond a.mark 1 0;
      length = a.length;
    }

-- Which answers tell that a call gave back the struct that it was given: a refusal's number after which nothing differs; and, of calls of
-- which it is known (`still`), that they answer nothing.
abbrev pub quiet : Bool → A.Answer → Bool
quiet still a = (still && A.is_nothing a.class) || unchanging a.number

-- the class of a number; one that no answer has counts as nothing
unfoldable pub class_of : ℕ → A.Class
class_of n = cond (eqb n 1) A.packet (cond (eqb n 2) A.job (cond (eqb n 3) A.result (cond (eqb n 4) A.error A.nothing)))

-- 01's answer, of the numbers and of the buffer after the call
unfoldable pub told : RcAnswer → List ℕ → A.Answer
told r out =
    record {
      class = class_of r.class;
      number = r.number;
      values = take r.values (r.first ∷ (r.second ∷ []));
      mark = eqb r.mark 1;
      bytes = take r.length out;
    }
