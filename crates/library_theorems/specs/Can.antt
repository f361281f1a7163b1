-- The calls that a host can make of the library, and what each leaves: what `library_makes` and `library_runs` suppose, and give.
use Rattle.std.specs.Prelude.{◌≤◌, cond, List, [], ◌∷◌, ◌++◌, length, take, drop}
use Rattle.wire.specs.Bytes.{put}
use Rattle.state.specs.Turns.{Turn}
use Rattle.state_bytes.specs.Saved.{saved}
use Rattle.state_bytes.specs.Saved.{Saves}
use Rattle.coordinator_theorems.specs.Host.{GivenArrays}
use Rattle.library_theorems.specs.Library.{Buffers, LibraryCall, request_of, library_turn, saves}

-- the turn of a call on what a host holds
abbrev pub turn_by : LibraryCall → Buffers → Turn
turn_by k b = library_turn k.request k.clock k.verdict k.room (take k.state b.state) (take k.lent b.store)

-- the bytes after it: the state saved where the call saves it, the store as the turn has it, and what isn't lent as it was
abbrev pub left : LibraryCall → Buffers → Buffers
left k b =
    let lent = take k.state b.state in
    record {
      state = cond (saves k.request lent) (put lent 0 (saved (turn_by k b).after)) lent ++ drop k.state b.state;
      store = (turn_by k b).store ++ drop k.lent b.store;
    }

-- a host lends no more than it has, and its arrays have their types' lengths. The struct after is a value of its type, and the answer has no more
-- values than the two places for them: the code's own types see to both
pub record Can (k : LibraryCall) (b : Buffers) : Type 0 where
  pub state : k.state ≤ length b.state
  pub store : k.lent ≤ length b.store
  pub arrays : GivenArrays (request_of k.request)
  pub values : length (turn_by k b).answer.values ≤ 2
  pub saves : Saves (turn_by k b).after

-- each call of a list on what the last left
abbrev pub CanAll : List LibraryCall → Buffers → Type 0
CanAll [] b = Unit {0}
CanAll (k ∷ ks) b = Can k b × CanAll ks (left k b)
