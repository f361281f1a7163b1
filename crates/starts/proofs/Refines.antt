-- A start gives what the step says of what the struct and the store stand for.
-- Assumes nothing.
use Rattle.std.specs.Prelude.{Option, None, Some}
use Rattle.std.proofs.Common.{◌≡◌, ℕ, ◌≤◌, Bool, true, cond, leb, List, [], ◌∷◌, length, refl, subst, le-leb, leb-true}
use Rattle.wire.specs.Bytes.{every}
use Rattle.layout.specs.declared.SignatureType.{SignatureType}
use Rattle.layout.specs.Limits.{message_limit}
use Rattle.state_table.specs.declared.State.TheVariants.{NonceRequest}
use Rattle.state_table.specs.States.{position}
use Rattle.state_table.specs.Moves.{can_move_to}
use Rattle.step_definition.specs.Coordinator.{Coordinator as Defined}
use Rattle.step_definition.specs.Calls as A
use Rattle.step_definition.specs.Effects.{root_for, request_nonces, nonce_request_of}
use Rattle.step_definition.specs.Questions.{asks, question9, question10, question11}
use Rattle.step_definition.specs.Starts.{sends_nonce_request, naming, start_round}
use Rattle.step_definition.specs.Step.{own, step_of, step}
use Rattle.state.specs.declared.fields.Coordinator.{Coordinator}
use Rattle.state.specs.Counts.{is_within_limits, records_within}
use Rattle.state.specs.View.{view, coordinator_of, standing_of, round_of, rows_from, position_of, root_bytes, reading}
use Rattle.state.specs.Turns.{Refines}
use Rattle.state.proofs.Viewed.{message_read}
use Rattle.state.proofs.Within.{within, is_within}
use Rattle.state.proofs.Moves.{move-viewed}
use Rattle.state.proofs.Refines.{on_held_law, view_held, call_of, ask_refines, error_refines}
use Rattle.starts.specs.declared.naming.Start.{Start}
use Rattle.starts.specs.Starts.{sign_id_of, start_named, start_requested, request_bytes, request_turn, named_turn, round_turn, asking_start, start_turn, SignId}

-- the definition's arguments
abbrev pub id_given : SignId → Option ℕ
id_given None = None
id_given (Some n) = Some n

abbrev pub as_start : List ℕ → Start → A.Start
as_start message by = record { message = message; signature_type = by.signature_type; root = by.root; sign_id = id_given by.sign_id }

-- the arrays' lengths that a start looks at
pub record Sized (s : Coordinator) (by : Start) : Type 0 where
  pub bytes : length s.message.bytes ≡ message_limit
  pub kept : length s.position.root ≡ 32
  pub given : length by.root ≡ 32

-- the nonces asked for, in the definition
abbrev pub asks_nonces : ℕ → SignatureType → List ℕ → Defined → A.Outcome
asks_nonces clock t root c =
    let after = request_nonces clock t root c in
    sends_nonce_request t root after (A.requested (nonce_request_of t root after) ∷ [])

requested-within : (clock : ℕ) (t : SignatureType) (root : List ℕ) (s : Coordinator) → is_within_limits s ≡ true → is_within_limits (start_requested clock t root s) ≡ true
unfolding start_requested records_within
requested-within clock t root s w =
    let held = within s w in
    is_within (start_requested clock t root s) (record { config = held.config; message = held.message; records = refl; shares = held.shares })

pub request_refines :
    (clock : ℕ) (t : SignatureType) (root : List ℕ) (s : Coordinator) (store : List ℕ) → s.commissioned ≡ true → is_within_limits s ≡ true
    → Refines (request_turn clock t root s store) (asks_nonces clock t (root_for t root) (coordinator_of s store))
unfolding request_turn request_bytes start_requested coordinator_of standing_of round_of rows_from position_of root_bytes root_for
request_refines clock t root s store b w =
    record { answer = refl; events = refl; after = view_held (start_requested clock t root s) store b (requested-within clock t root s w) }

-- message and sign id stored
module _ (message : List ℕ) (few : length message ≤ message_limit) (s : Coordinator) (long : length s.message.bytes ≡ message_limit) where
  named_within : (id : SignId) → is_within_limits s ≡ true → is_within_limits (start_named message id s) ≡ true
  unfolding start_named
  named_within id w =
      let held = within s w in
      is_within (start_named message id s) (record { config = held.config; message = le-leb _ _ few; records = held.records; shares = held.shares })

  named-viewed :
      (t : SignatureType) (root store : List ℕ) (id : SignId)
      → coordinator_of (start_named message id s) store
      ≡ naming (record { message = message; signature_type = t; root = root; sign_id = id_given id }) (coordinator_of s store)
  unfolding start_named sign_id_of coordinator_of standing_of round_of
  named-viewed t root store None = rw (message_read message few s long)
  named-viewed t root store (Some n) = rw (message_read message few s long)

-- 11, of a struct with message and sign id stored that stands for c
pub named_refines :
    (clock : ℕ) (t : SignatureType) (root : List ℕ) (s : Coordinator) (store : List ℕ) (c : Defined)
    → length s.position.root ≡ 32 → length root ≡ 32 → s.commissioned ≡ true → is_within_limits s ≡ true → coordinator_of s store ≡ c
    → Refines (named_turn clock t root s store) (cond (question11 c t (root_for t root)) (asks_nonces clock t (root_for t root) c) (A.failing 11 [] c))
unfolding named_turn question11 coordinator_of position_of root_bytes root_for
named_refines clock t root s store c kept given b w e =
    let seen = coordinator_of s store in
    subst (λ (c : Defined). Refines (named_turn clock t root s store) (cond (question11 c t (root_for t root)) (asks_nonces clock t (root_for t root) c) (A.failing 11 [] c))) e
    (ask_refines (can_move_to (position s.position.state s.position.root) (position (NonceRequest t) root)) (question11 seen t (root_for t root))
    (move-viewed s.position.root root kept given s.position.state (NonceRequest t))
    (λ y. request_refines clock t root s store b w)
    (λ n. error_refines 11 s store seen b w refl))

module _ (clock : ℕ) (message : List ℕ) (by : Start) (s : Coordinator) (store : List ℕ) (sized : Sized s by) where
  pub round-refines :
      length message ≤ message_limit → s.commissioned ≡ true → is_within_limits s ≡ true
      → Refines (round_turn clock message by s store) (start_round clock (as_start message by) (coordinator_of s store))
  unfolding round_turn start_round start_named question10 coordinator_of standing_of
  round-refines few b w =
      let t = by.signature_type in
      let id = by.sign_id in
      let seen = coordinator_of s store in
      ask_refines s.keys.aggregate (question10 seen) refl
      (λ y. named_refines clock t by.root (start_named message id s) store (naming (as_start message by) seen) sized.kept sized.given b
      (named_within message few s sized.bytes id w) (named-viewed message few s sized.bytes t by.root store id))
      (λ n. error_refines 10 s store seen b w refl)

  pub start-refines :
      (room : ℕ) (verdict : Bool)
      → Refines (start_turn clock message by room s store)
      (step (call_of (A.other (A.start_signing (as_start message by))) clock verdict (length store) room) (view s store))
  unfolding step_of asks own question9 start_turn
  start-refines room verdict =
      let o = A.start_signing (as_start message by) in
      on_held_law (call_of (A.other o) clock verdict (length store) room) o asking_start refl s store _ refl
      (λ b w. ask_refines (leb (length message) message_limit) (leb (length message) message_limit) refl
      (λ few. round-refines (leb-true _ _ few) b w)
      (λ more. error_refines 9 s store (coordinator_of s store) b w refl))
