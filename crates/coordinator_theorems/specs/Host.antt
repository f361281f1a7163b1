-- The calls as a host makes them on a struct and a store, one after the other: "Each call gets the state and store that the last left".
use Rattle.std.specs.Prelude.{Option, ℕ, Bool, List, [], ◌∷◌, ◌++◌, ◌≡◌, ◌≤◌, length, take, drop, None, Some}
use Rattle.wire.specs.Bytes.{All}
use Rattle.layout.specs.Limits.{message_limit, signer_limit, record_limit}
use Rattle.state_table.specs.declared.State.{State}
use Rattle.step_definition.specs.Coordinator.{Held}
use Rattle.step_definition.specs.Coordinator.{Coordinator as Defined}
use Rattle.step_definition.specs.Calls as A
use Rattle.step_definition.specs.Run.{Seen, malicious_in}
use Rattle.step_definition.specs.Step.{step}
use Rattle.state.specs.declared.fields.SignRoundInfo.{SignRoundInfo}
use Rattle.state.specs.declared.fields.Coordinator.{Coordinator}
use Rattle.state.specs.View.{view, coordinator_of, position_of}
use Rattle.state.specs.Turns.{Turn}
use Rattle.configuration.specs.declared.new_config.NewConfig.{NewConfig}
use Rattle.configuration.specs.NewConfig.{new_config_of}
use Rattle.commission.specs.Commission.{commission_turn}
use Rattle.calls.specs.declared.held_keys.HeldKey.{HeldKey}
use Rattle.calls.specs.declared.held_keys.HeldKey.TheVariants as Which
use Rattle.calls.specs.Calls.{set_key_turn, move_turn, aggregated_turn}
use Rattle.calls.specs.Resets.{reset_turn}
use Rattle.results.specs.Results.{results_turn}
use Rattle.starts.specs.declared.naming.Start.{Start}
use Rattle.starts.specs.Starts.{start_turn, SignId}
use Rattle.arrivals.specs.Query.{arrivals_turn}
use Rattle.process_timeout.specs.ProcessTimeout.{process_timeout_turn}
use Rattle.packet_entry.specs.declared.Entry.{Entry}
use Rattle.packet_entry.specs.Entries.{entry_of}
use Rattle.process.specs.Process.{receive_turn}

-- a call with its own arguments, as the code takes them
pub data HostRequest : Type 0 where
  commission : NewConfig → HostRequest
  set_key : HeldKey → Bool → HostRequest
  take_results : ℕ → List ℕ → HostRequest
  can_move : State → List ℕ → HostRequest
  start : List ℕ → Start → HostRequest
  receive : Entry → List ℕ → HostRequest
  process_timeout : HostRequest
  aggregated : Bool → HostRequest
  reset : HostRequest
  tell_arrivals : HostRequest

-- the clock reading, the host's verdict on the packet's seal, how many bytes of the store are lent, and the answer buffer's length
pub record HostCall : Type 0 where
  pub request : HostRequest
  pub clock : ℕ
  pub verdict : Bool
  pub lent : ℕ
  pub room : ℕ

-- what a host holds between calls
pub record Host : Type 0 where
  pub struct : Coordinator
  pub store : List ℕ

-- what each call's contract says, of the struct and of the bytes that are lent
unfoldable pub turn_for : HostRequest → ℕ → Bool → ℕ → Coordinator → List ℕ → Turn
turn_for (commission g) clock verdict room s store = commission_turn g store
turn_for (set_key which held) clock verdict room s store = set_key_turn which held s store
turn_for (take_results dkg ended) clock verdict room s store = results_turn dkg ended s store
turn_for (can_move next root) clock verdict room s store = move_turn next root s store
turn_for (start m by) clock verdict room s store = start_turn clock m by room s store
turn_for (receive entry p) clock verdict room s store = receive_turn entry clock verdict p room s store
turn_for process_timeout clock verdict room s store = process_timeout_turn clock room s store
turn_for (aggregated ok) clock verdict room s store = aggregated_turn ok s store
turn_for reset clock verdict room s store = reset_turn s store
turn_for tell_arrivals clock verdict room s store = arrivals_turn room s store

-- "A call is lent as much of the store as its length says"
abbrev pub turn_of : HostCall → Host → Turn
turn_of k x = turn_for k.request k.clock k.verdict k.room x.struct (take k.lent x.store)

-- the bytes beyond stay
abbrev pub left : ℕ → Turn → List ℕ → Host
left lent t store = record { struct = t.after; store = t.store ++ drop lent store }

unfoldable pub host_step : HostCall → Host → Host
host_step k x = left k.lent (turn_of k x) x.store

-- what the host's struct and store stand for
abbrev pub viewed : Host → Held
viewed x = view x.struct x.store

-- the coordinator that they stand for, where they are commissioned and within the limits
abbrev pub seen : Host → Defined
seen x = coordinator_of x.struct x.store

-- what a host sees of a run: each call's answer, and the malicious list after it
unfoldable pub host_run : List HostCall → Host → List Seen
host_run [] x = []
host_run (k ∷ ks) x = record { answer = (turn_of k x).answer; malicious = malicious_in (viewed (host_step k x)) } ∷ host_run ks (host_step k x)

unfoldable pub host_final : List HostCall → Host → Host
host_final [] x = x
host_final (k ∷ ks) x = host_final ks (host_step k x)

-- the definition's call
abbrev pub held_key : HeldKey → A.HeldKey
held_key Which.Coordinator = A.coordinator_key
held_key Which.Aggregate = A.aggregate_key

abbrev pub host_sign_id : SignId → Option ℕ
host_sign_id None = None
host_sign_id (Some n) = Some n

unfoldable pub as_request : HostRequest → A.Request
as_request (commission g) = A.commission (new_config_of g)
as_request (set_key which held) = A.other (A.set_key (held_key which) held)
as_request (take_results dkg ended) = A.other (A.take_results dkg ended)
as_request (can_move next root) = A.other (A.can_move (position_of (record { state = next; root = root })))
as_request (start m by) =
    let sign_id = host_sign_id by.sign_id in
    A.other (A.start_signing (record { message = m; signature_type = by.signature_type; root = by.root; sign_id = sign_id }))
as_request (receive entry p) = A.other (A.receive (entry_of entry) p)
as_request process_timeout = A.other A.process_timeout
as_request (aggregated ok) = A.other (A.aggregated ok)
as_request reset = A.other A.reset
as_request tell_arrivals = A.other A.tell_arrivals

unfoldable pub as_call : HostCall → A.Call
as_call k =
    record { request = as_request k.request; clock = k.clock; verdict = k.verdict; store = k.lent; room = k.room }

-- the lengths of a struct's arrays, and of a request's: those of their types
pub record Formed (s : Coordinator) : Type 0 where
  pub signers : length s.config.signers ≡ signer_limit
  pub rows : length s.records.rows ≡ record_limit
  pub slots : All (λ (row : SignRoundInfo). length row.slots ≡ signer_limit) s.records.rows
  pub shares : length s.shares.slots ≡ signer_limit
  pub bytes : length s.message.bytes ≡ message_limit
  pub root : length s.position.root ≡ 32

abbrev pub GivenArrays : HostRequest → Type 0
GivenArrays (commission g) = length g.signers ≡ 11
GivenArrays (set_key which held) = Unit {0}
GivenArrays (take_results dkg ended) = Unit {0}
GivenArrays (can_move next root) = length root ≡ 32
GivenArrays (start m by) = length by.root ≡ 32
GivenArrays (receive entry p) = Unit {0}
GivenArrays process_timeout = Unit {0}
GivenArrays (aggregated ok) = Unit {0}
GivenArrays reset = Unit {0}
GivenArrays tell_arrivals = Unit {0}

-- a call that a host with a store of n bytes can make: it lends no more than there is
pub record Makeable (n : ℕ) (k : HostCall) : Type 0 where
  pub given : GivenArrays k.request
  pub lent : k.lent ≤ n

-- the same answer, the same events, and the host's struct and store after stand for what the step says
pub record HostRefines (k : HostCall) (x : Host) : Type 0 where
  pub answer : (turn_of k x).answer ≡ (step (as_call k) (viewed x)).answer
  pub events : (turn_of k x).events ≡ (step (as_call k) (viewed x)).events
  pub after : viewed (host_step k x) ≡ (step (as_call k) (viewed x)).after
