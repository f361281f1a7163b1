-- The library's calls as a host in C makes them on its bytes, one after the other: every call of the header, with any arguments and any
-- lengths; and what they stand for.
use Rattle.std.specs.Prelude.{Option, Some, None, ℕ, ◌≤◌, ◌≡◌, Bool, true, cond, ◌&&◌, List, [], ◌∷◌, ◌++◌, leb, eqb, length, get_or, take, drop}
use Rattle.layout.specs.Types.{type_of}
use Rattle.step_definition.specs.Lists.{given}
use Rattle.step_definition.specs.Calls as A
use Rattle.step_definition.specs.Run.{Seen, malicious_in}
use Rattle.state.specs.Turns.{Turn, error_turn}
use Rattle.calls.specs.declared.held_keys.HeldKey.{HeldKey}
use Rattle.packet_entry.specs.declared.Entry.{Entry}
use Rattle.state_bytes.specs.Saved.{state_length}
use Rattle.state_bytes.specs.Description.{state_for}
use Rattle.state_bytes.specs.Loaded.{unsaved, is_saved, loaded}
use Rattle.interface.specs.declared.answers.RcAnswer.{RcAnswer}
use Rattle.interface.specs.declared.configs.RcConfig.{RcConfig}
use Rattle.interface.specs.Answers.{told}
use Rattle.interface.specs.Called.{Called}
use Rattle.interface.specs.Configs.{config_of, is_yes}
use Rattle.library_start.specs.Given.{last_state, type_said, root_given, given_sign_id}
use Rattle.coordinator_theorems.specs.Host as H
use Rattle.coordinator_theorems.specs.Host.{HostRequest, HostCall, Host, turn_for, viewed, GivenArrays}
use Rattle.coordinator_theorems.specs.Refusals as R
use Rattle.coordinator_theorems.specs.Demand3.{Written, later}

-- what a host of the library holds between calls
pub record Buffers : Type 0 where
  pub state : List ℕ
  pub store : List ℕ

-- the struct that the bytes count as, beside the store
abbrev pub counted : Buffers → Host
counted b = record { struct = loaded b.state; store = b.store }

-- a call of the header with its own arguments, as plain numbers and bytes: a start's are message, type, root, whether a sign id is given,
-- sign id; the move question's are state, type, root
pub data LibraryRequest : Type 0 where
  commission : RcConfig → LibraryRequest
  set_key : HeldKey → ℕ → LibraryRequest
  take_results : ℕ → List ℕ → LibraryRequest
  start_signing_round : List ℕ → ℕ → List ℕ → ℕ → ℕ → LibraryRequest
  receive : Entry → List ℕ → LibraryRequest
  process_timeout : LibraryRequest
  aggregated : ℕ → LibraryRequest
  reset : LibraryRequest
  tell_arrivals : LibraryRequest
  can_move_to : ℕ → ℕ → List ℕ → LibraryRequest

-- with the clock reading, the verdict on the packet's seal, how many bytes of state and store are lent, and the answer buffer's length; a
-- call that takes no answer buffer has an empty one
pub record LibraryCall : Type 0 where
  pub request : LibraryRequest
  pub clock : ℕ
  pub verdict : ℕ
  pub state : ℕ
  pub lent : ℕ
  pub room : ℕ

-- the call of 01 that it is
unfoldable pub request_of : LibraryRequest → HostRequest
request_of (commission g) = H.commission (config_of g)
request_of (set_key which held) = H.set_key which (is_yes held)
request_of (take_results dkg ended) = H.take_results dkg ended
request_of (start_signing_round m t root given id) =
    H.start m (record { signature_type = type_of t; root = root_given root; sign_id = given_sign_id given id })
request_of (receive entry p) = H.receive entry p
request_of process_timeout = H.process_timeout
request_of (aggregated ok) = H.aggregated (is_yes ok)
request_of reset = H.reset
request_of tell_arrivals = H.tell_arrivals
request_of (can_move_to next t root) = H.can_move (state_for next (type_of t)) (root_given root)

-- whether its numbers are some that 01's call can say
unfoldable pub is_said : LibraryRequest → Bool
is_said (commission g) = true
is_said (set_key which held) = true
is_said (take_results dkg ended) = true
is_said (start_signing_round m t root given id) = type_said t root
is_said (receive entry p) = true
is_said process_timeout = true
is_said (aggregated ok) = true
is_said reset = true
is_said tell_arrivals = true
is_said (can_move_to next t root) = leb next last_state && type_said t root

-- commissioning is the one call that takes bytes that no save left
abbrev pub commissions : LibraryRequest → Bool
commissions q = R.commissions (request_of q)

-- what a call gives, as its contract says, of the bytes of state and store that are lent
unfoldable pub library_turn : LibraryRequest → ℕ → ℕ → ℕ → List ℕ → List ℕ → Turn
library_turn q clock verdict room state store =
    cond (is_said q)
    (cond (cond (commissions q) (leb state_length (length state)) true)
    (turn_for (request_of q) clock (is_yes verdict) room (loaded state) store)
    (error_turn 4 unsaved store))
    (error_turn 8 (loaded state) store)

-- whether a call saves the state after it: commissioning where there is room, any other where a save left the bytes
unfoldable pub saves : LibraryRequest → List ℕ → Bool
saves q state = cond (commissions q) (leb state_length (length state)) (is_saved state)

-- a function's contract: the bytes lent and the answer buffer, then the answer and all bytes after it
abbrev pub Gave : LibraryRequest → ℕ → ℕ → List ℕ → List ℕ → List ℕ → RcAnswer → List ℕ → List ℕ → List ℕ → Type 0
Gave q clock verdict state store out r state' store' out' =
    Called (saves q state) (library_turn q clock verdict (length out) state store) state out r state' store' out'

-- a call that a host made on what it holds, just as the contracts say it: the answer, and what it holds after. It lends no more than it
-- has, and what it doesn't lend stays
pub record Made (k : LibraryCall) (b : Buffers) (answer : A.Answer) (b' : Buffers) : Type 0 where
  pub plain : RcAnswer
  pub out : List ℕ
  pub out' : List ℕ
  pub state' : List ℕ
  pub store' : List ℕ
  pub room : length out ≡ k.room
  pub lends_state : k.state ≤ length b.state
  pub lends_store : k.lent ≤ length b.store
  pub arrays : GivenArrays (request_of k.request)
  pub gave : Gave k.request k.clock k.verdict (take k.state b.state) (take k.lent b.store) out plain state' store' out'
  pub answered : answer ≡ told plain out'
  pub state_beyond : b'.state ≡ state' ++ drop k.state b.state
  pub store_beyond : b'.store ≡ store' ++ drop k.lent b.store

-- a list of calls, each on what the last left: what the host sees, and what it holds at the end
unfoldable pub Ran : List LibraryCall → Buffers → List Seen → Buffers → Type 0
Ran [] b seen b' = (seen ≡ []) × (b' ≡ b)
Ran (k ∷ ks) b seen b' =
    (answer : A.Answer)
    × (next : Buffers)
    × (rest : List Seen)
    × Made k b answer next
    × Ran ks next rest b'
    × (seen ≡ record { answer = answer; malicious = malicious_in (viewed (counted next)) } ∷ rest)

-- What C can say and 01's calls can't is refused outright: a type above 3, a state above 14, with type 3 a root of another length than 32
-- (8); a state buffer that is too short (4).
unfoldable pub outright : LibraryCall → Option ℕ
outright k = cond (is_said k.request) (cond (leb state_length k.state) None (Some 4)) (Some 8)

-- the host's call that it is; one that is refused outright is, to 01, a call that lends nothing: it is refused, changes nothing, enters
-- nothing
abbrev pub host_call : LibraryCall → HostCall
host_call k = record { request = request_of k.request; clock = k.clock; verdict = is_yes k.verdict; lent = k.lent; room = k.room }

abbrev pub lending_nothing : LibraryCall → HostCall
lending_nothing k = record { request = H.process_timeout; clock = k.clock; verdict = is_yes k.verdict; lent = 0; room = k.room }

unfoldable pub as_host : LibraryCall → HostCall
as_host k = given (outright k) (λ (n : ℕ). lending_nothing k) (host_call k)

-- what the host sees of it: the number that it is refused with
unfoldable pub numbered : LibraryCall → Seen → Seen
numbered k s = given (outright k) (λ (n : ℕ). record { answer = A.refusing A.error n []; malicious = s.malicious }) s

unfoldable pub numbered_in : List LibraryCall → List Seen → List Seen
numbered_in [] seen = []
numbered_in (k ∷ ks) [] = []
numbered_in (k ∷ ks) (s ∷ seen) = numbered k s ∷ numbered_in ks seen

-- the first answer of a run that has a packet of kind 3, by its place, with the bytes
unfoldable pub first_share_request_in : List Seen → Option Written
first_share_request_in [] = None
first_share_request_in (s ∷ rest) =
    cond (eqb (get_or s.answer.bytes 0 0) 3) (Some (record { call = 0; bytes = s.answer.bytes })) (later (first_share_request_in rest))

-- where a watch begins: at a commissioning, or at a call that writes a nonce request
pub data LibraryBegins : Buffers → Type 0 where
  commissioning :
      (k : LibraryCall) (b c : Buffers) (a : A.Answer) (g : RcConfig) → Made k b a c → k.request ≡ commission g → outright k ≡ None
      → LibraryBegins c
  opening : (k : LibraryCall) (b c : Buffers) (a : A.Answer) → Made k b a c → get_or a.bytes 0 0 ≡ 1 → LibraryBegins c
