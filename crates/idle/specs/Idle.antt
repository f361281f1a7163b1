-- Idle, on a message that is taken, at the level of struct and bytes. The store stays.
use Rattle.std.specs.Prelude.{◌≡◌, ℕ, ◌≤◌, cond, List, length, replicate, ◌==◌, Some}
use Rattle.wire.specs.Bytes.{put}
use Rattle.layout.specs.Limits.{message_limit, answer_length}
use Rattle.layout.specs.declared.Header.{Header}
use Rattle.layout.specs.Types.{type_of}
use Rattle.layout.specs.LaidOut.{header_in, part_at}
use Rattle.step_definition.specs.Ids.{previous}
use Rattle.step_definition.specs.Calls as A
use Rattle.state.specs.declared.fields.Coordinator.{Coordinator}
use Rattle.state.specs.Setters.{set_ids}
use Rattle.state.specs.Turns.{Turn, turn, error_turn}
use Rattle.starts.specs.declared.naming.Start.{Start}
use Rattle.starts.specs.Starts.{round_turn}

-- what 7, 8 and 9 have found, and the packet's header
pub record Heard (p : List ℕ) (h : Header) (room : ℕ) : Type 0 where
  pub header : h ≡ header_in p
  pub short : h.kind ≡ 1 → length (part_at p 32) ≤ message_limit
  pub wide : answer_length ≤ room

-- the root of a kind 1 packet, before zeros
abbrev pub root_in : List ℕ → List ℕ
root_in p = put (replicate 32 0) 0 (part_at p 40)

-- the start that a kind 1 packet asks for
abbrev pub start_in : List ℕ → Start
start_in p =
    record {
      signature_type = type_of (header_in p).signature_type;
      root = root_in p;
      sign_id = Some (header_in p).ids.sign_id;
    }

-- "sets the iteration to its number minus 1, wrapping"
unfoldable pub iterated : ℕ → Coordinator → Coordinator
iterated n s =
    set_ids (record { dkg_id = s.ids.dkg_id; sign_id = s.ids.sign_id; sign_iter_id = previous n }) s

-- "An Idle NonceRequest with the current sign id does nothing. Another ..."
unfoldable pub idle_request_turn : ℕ → List ℕ → Coordinator → List ℕ → Turn
idle_request_turn clock p s store =
    cond ((header_in p).ids.sign_id == s.ids.sign_id)
    (turn A.plain s store)
    (round_turn clock (part_at p 32) (start_in p) (iterated (header_in p).ids.sign_iter_id s) store)

-- "DkgBegin only with the current dkg id (15)?" No other kind is heard
unfoldable pub idle_turn : ℕ → List ℕ → Coordinator → List ℕ → Turn
idle_turn clock p s store =
    cond ((header_in p).kind == 1) (idle_request_turn clock p s store)
    (cond ((header_in p).kind == 5)
    (cond ((header_in p).ids.dkg_id == s.ids.dkg_id) (turn A.plain s store) (error_turn 15 s store))
    (turn A.plain s store))
