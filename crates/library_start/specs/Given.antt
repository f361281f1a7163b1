-- What the library's calls give where a host can say more than 01's calls take: a type above 3, a root of another length, a state above 14.
use Rattle.std.specs.Prelude.{ℕ, Bool, cond, not, ◌&&◌, ◌||◌, List, eqb, leb, length, replicate, None, Some}
use Rattle.wire.specs.Bytes.{put}
use Rattle.layout.specs.Types.{type_of, root_length}
use Rattle.state.specs.declared.fields.Coordinator.{Coordinator}
use Rattle.state.specs.Turns.{Turn, error_turn}
use Rattle.calls.specs.Calls.{move_turn}
use Rattle.starts.specs.Starts.{start_turn, SignId}
use Rattle.state_bytes.specs.Description.{state_for}

-- the last type, Taproot with a root, and the last state, SigShareGather, by number
abbrev pub last_type : ℕ
last_type = 3

abbrev pub last_state : ℕ
last_state = 14

-- the first 32 bytes of a root, zeros where there are fewer
unfoldable pub root_given : List ℕ → List ℕ
root_given root = put (replicate (root_length last_type) 0) 0 root

-- a sign id where one is given
unfoldable pub given_sign_id : ℕ → ℕ → SignId
given_sign_id given n = cond (eqb given 0) None (Some n)

-- whether C says a type that 01 has: at most 3, and with the last one a root of 32 bytes; beside other types the root isn't looked at
unfoldable pub type_said : ℕ → List ℕ → Bool
type_said n root = leb n last_type && (not (eqb n last_type) || eqb (length root) (root_length last_type))

-- a type that isn't said is refused with 8, before anything else
unfoldable pub started_turn : ℕ → List ℕ → ℕ → List ℕ → SignId → ℕ → Coordinator → List ℕ → Turn
started_turn clock message n root id room s store =
    cond (type_said n root)
    (start_turn clock message (record { signature_type = type_of n; root = root_given root; sign_id = id }) room s store)
    (error_turn 8 s store)

-- so is a state above 14; type and root are asked whatever the state
unfoldable pub moved_turn : ℕ → ℕ → List ℕ → Coordinator → List ℕ → Turn
moved_turn next n root s store =
    cond (leb next last_state && type_said n root) (move_turn (state_for next (type_of n)) (root_given root) s store) (error_turn 8 s store)
