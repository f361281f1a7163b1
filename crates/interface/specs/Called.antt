-- What a call of the library did: answer, all bytes of state, store and answer buffer.
use Rattle.std.specs.Prelude.{ℕ, ◌≤◌, ◌≡◌, Bool, true, cond, List, ◌++◌, length, drop}
use Rattle.state.specs.Turns.{Turn, answer_of}
use Rattle.wire.specs.Bytes.{put}
use Rattle.state_bytes.specs.Saved.{state_length}
use Rattle.state_bytes.specs.Saved.{saved}
use Rattle.state_bytes.specs.Loaded.{loaded}
use Rattle.interface.specs.declared.answers.RcAnswer.{RcAnswer}
use Rattle.interface.specs.Answers.{flat, told}

-- `exact` leaves nothing of the plain numbers open; `answered` is what a host reads off them and off the buffer.
-- t: what the call gives on the state that the bytes count as, and the store. writes: whether the state after is saved over the bytes; it is
-- then what they count as from now on. Otherwise they stay.
pub record Called (writes : Bool) (t : Turn) (state out : List ℕ) (r : RcAnswer) (state' store' out' : List ℕ) : Type 0 where
  pub exact : r ≡ flat (answer_of t.answer)
  pub answered : told r out' ≡ t.answer
  pub kept : state' ≡ cond writes (put state 0 (saved t.after)) state
  pub loads : writes ≡ true → state_length ≤ length state → loaded state' ≡ t.after
  pub stored : store' ≡ t.store
  pub buffered : out' ≡ t.answer.bytes ++ drop (length t.answer.bytes) out
