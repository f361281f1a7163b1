-- Each call's turn is the step's, of what the struct stands for beside the bytes that are lent.
-- Assumes nothing.
use Rattle.starts.specs.Starts.{SignId}
use Rattle.std.specs.Prelude.{None, Some}
use Prim.Native.Nat.{ℕ}
use mathlib.Core.Path.{◌≡◌, refl}
use mathlib.Core.Bool.{Bool}
use mathlib.Core.List.{List}
use lib.ListN.{length}
use Rattle.step_definition.specs.Step.{step}
use Rattle.state.specs.declared.fields.Coordinator.{Coordinator}
use Rattle.state.specs.View.{view}
use Rattle.state.specs.Turns.{Refines}
use Rattle.state.proofs.Shape.{Shaped}
use Rattle.state.proofs.Refines.{call_of}
use Rattle.commission.proofs.Refines.{commission-refines}
use Rattle.calls.specs.declared.held_keys.HeldKey.TheVariants as Which
use Rattle.calls.proofs.Refines.{set-key-refines, can-move-refines, aggregated_refines, reset_refines}
use Rattle.results.proofs.Refines.{results-refines}
use Rattle.starts.proofs.Refines.{id_given, start-refines}
use Rattle.arrivals.proofs.Refines.{tell-arrivals-refines}
use Rattle.process_timeout.proofs.Refines.{process-timeout-refines}
use Rattle.process.proofs.Refines.{receive-refines}
use Rattle.coordinator_theorems.specs.Host.{HostRequest, commission, set_key, take_results, can_move, start, receive, process_timeout}
use Rattle.coordinator_theorems.specs.Host.{aggregated, reset, tell_arrivals}
use Rattle.coordinator_theorems.specs.Host.{turn_for, host_sign_id, as_request, Formed, GivenArrays}

pub as_shaped : {s : Coordinator} → Formed s → Shaped s
as_shaped f = record { signers = f.signers; rows = f.rows; slots = f.slots; shares = f.shares }

same_id : (i : SignId) → host_sign_id i ≡ id_given i
same_id None = refl
same_id (Some n) = refl

pub turn_refines :
    (q : HostRequest) (clock : ℕ) (verdict : Bool) (room : ℕ) (s : Coordinator) (store : List ℕ) → Formed s → GivenArrays q
    → Refines (turn_for q clock verdict room s store) (step (call_of (as_request q) clock verdict (length store) room) (view s store))
unfolding turn_for as_request
turn_refines (commission g) clock verdict room s store f a = commission-refines g store a (view s store) clock room verdict
turn_refines (set_key Which.Coordinator held) clock verdict room s store f a = set-key-refines clock room verdict s store Which.Coordinator held
turn_refines (set_key Which.Aggregate held) clock verdict room s store f a = set-key-refines clock room verdict s store Which.Aggregate held
turn_refines (take_results dkg ended) clock verdict room s store f a = results-refines dkg ended s store clock room verdict
turn_refines (can_move next root) clock verdict room s store f a = can-move-refines clock room verdict s store next root a f.root
turn_refines (start m by) clock verdict room s store f a =
    rw (same_id by.sign_id) (start-refines clock m by s store (record { bytes = f.bytes; kept = f.root; given = a }) room verdict)
turn_refines (receive entry p) clock verdict room s store f a = receive-refines clock verdict p s store (as_shaped f) f.bytes f.root entry room
turn_refines process_timeout clock verdict room s store f a = process-timeout-refines clock s store (as_shaped f) room verdict
turn_refines (aggregated ok) clock verdict room s store f a = aggregated_refines clock room verdict s store ok
turn_refines reset clock verdict room s store f a = reset_refines clock room verdict s store
turn_refines tell_arrivals clock verdict room s store f a = tell-arrivals-refines s store (as_shaped f) clock room verdict
