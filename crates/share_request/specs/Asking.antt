-- request_sig_shares at the level of struct and store. The store stays.
use Rattle.std.specs.Prelude.{ℕ, ◌<◌, ◌≤◌, ◌≡◌, true, List, [], ◌∷◌, get_or, Some}
use Rattle.layout.specs.Limits.{message_limit, record_limit, store_length, answer_length}
use Rattle.layout.specs.declared.SignatureType.{SignatureType}
use Rattle.state_table.specs.declared.State.TheVariants.{SigShareGather}
use Rattle.step_definition.specs.Calls as A
use Rattle.state.specs.declared.fields.Coordinator.{Coordinator}
use Rattle.state.specs.Counts.{is_within_limits, row_within_limits}
use Rattle.state.specs.View.{no_row}
use Rattle.state.specs.Setters.{set_message, set_position, set_shares, set_clocks}
use Rattle.state.specs.Turns.{Turn}
use Rattle.state.specs.Replaced.{message_with, none_held}
use Rattle.share_request.specs.ShareRequest.{request_for, request_bytes}

-- "The answered message replaces the current one"
abbrev pub with_current : List ℕ → Coordinator → Coordinator
with_current m s = set_message (message_with m s.message) s

-- the shares are emptied and the share clock is started
unfoldable pub shares_requested : ℕ → SignatureType → List ℕ → Coordinator → Coordinator
shares_requested clock t m s =
    set_clocks (record { nonce_start = s.clocks.nonce_start; sign_start = Some clock })
    (set_position (record { state = SigShareGather t; root = s.position.root }) (set_shares none_held (with_current m s)))

-- what is known of a record whose shares are asked for
pub record Known (s : Coordinator) (r store message room : ℕ) : Type 0 where
  pub within : is_within_limits s ≡ true
  pub row : r < record_limit
  pub row_within : row_within_limits s.config.count (get_or s.records.rows r no_row) ≡ true
  pub stored : store_length ≤ store
  pub short : message ≤ message_limit
  pub wide : answer_length ≤ room

-- the share request, of the coordinator after
unfoldable pub share_request_turn : ℕ → SignatureType → ℕ → List ℕ → ℕ → Coordinator → List ℕ → Turn
share_request_turn clock t id m r s store =
    let after = shares_requested clock t m s in
    record {
      answer = A.sending A.packet (request_bytes after store r m t);
      events = A.recorded id ∷ (A.share_requested (request_for after store r m t) ∷ []);
      after = after;
      store = store;
    }
