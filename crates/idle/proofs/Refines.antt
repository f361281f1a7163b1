-- Idle on a message gives what the definition says of what the struct and the store stand for.
-- Assumes nothing.
use Rattle.std.proofs.Common.{◌≡◌, ℕ, ◌≤◌, Bool, true, false, cond, eqb, List, length, replicate, sym, refl, ◌∙◌, arith, eqb-true, leb-true}
use Rattle.std.specs.Prelude.{Option, Some}
use lib.ListN.{length-replicate}
use lib.Seq.{take-length}
use Rattle.wire.proofs.Buffer.{length-put}
use Rattle.layout.specs.Limits.{message_limit}
use Rattle.layout.specs.Types.{type_of, root_length}
use Rattle.layout.specs.declared.SignatureType.{SignatureType}
use Rattle.layout.specs.declared.Header.{Header}
use Rattle.layout.specs.Messages.{Message}
use Rattle.layout.specs.LaidOut.{header_in, part_at, is_laid_out, whole_root}
use Rattle.layout.specs.Decode.{message_in, request_in, within}
use Rattle.layout.proofs.Headed.{laid-out-cases, type_number-type_of}
use Rattle.step_definition.specs.Ids.{previous}
use Rattle.step_definition.specs.Coordinator.{with_iteration}
use Rattle.step_definition.specs.Coordinator.{Coordinator as Defined}
use Rattle.step_definition.specs.Calls as A
use Rattle.step_definition.specs.Effects.{root_for}
use Rattle.step_definition.specs.Phases.{content_of}
use Rattle.step_definition.specs.Questions.{question15}
use Rattle.step_definition.specs.Starts.{start_round, idle_request, idle}
use Rattle.state.specs.declared.fields.Coordinator.{Coordinator}
use Rattle.state.specs.Counts.{is_within_limits}
use Rattle.state.specs.View.{coordinator_of, standing_of, round_of}
use Rattle.state.specs.Turns.{turn, Refines}
use Rattle.state.proofs.Refines.{view_held, ask_refines, error_refines}
use Rattle.state.proofs.Store.{put_read}
use Rattle.starts.proofs.Refines.{round-refines}
use Rattle.idle.specs.Idle.{root_in, start_in, iterated, idle_request_turn, idle_turn}

-- a start looks at the root of a Taproot root alone
start_root :
    (clock : ℕ) (m : List ℕ) (t : SignatureType) (a b : List ℕ) (id : Option ℕ) (c : Defined) → root_for t a ≡ root_for t b
    → start_round clock (record { message = m; signature_type = t; root = a; sign_id = id }) c
    ≡ start_round clock (record { message = m; signature_type = t; root = b; sign_id = id }) c
unfolding start_round
start_root clock m t a b id c e = rw e

-- no root is longer than 32 bytes
pub root-few : (n : ℕ) → root_length n ≤ 32
unfolding root_length
root-few n = by (eqb n 3)
  where
    by : (x : Bool) → cond x 32 0 ≤ 32
    by true = omega arith
    by false = omega arith

-- the packet's root, of the length that its type has
same_root :
    (p : List ℕ) → (header_in p).signature_type ≤ 3 → whole_root p ≡ true
    → root_for (type_of (header_in p).signature_type) (root_in p) ≡ root_for (type_of (header_in p).signature_type) (part_at p 40)
unfolding root_for whole_root
same_root p l w =
    let n = (header_in p).signature_type in
    let root = part_at p 40 in
    let long : length root ≡ root_length n = eqb-true _ _ w in
    let few = root-few n in
    rw (type_number-type_of n l, ← long)
    (put_read (replicate 32 0) 0 root (length root) refl (omega (arith, length-replicate {A = ℕ} 32 0))
    ∙ sym (take-length root))

-- the iteration set
iterated-seen : (n : ℕ) (s : Coordinator) (store : List ℕ) → coordinator_of (iterated n s) store ≡ with_iteration (previous n) (coordinator_of s store)
unfolding iterated coordinator_of standing_of round_of
iterated-seen n s store = refl

module _ (clock : ℕ) (p : List ℕ) (s : Coordinator) (store : List ℕ) (bytes : length s.message.bytes ≡ message_limit) (kept : length s.position.root ≡ 32)
    (b : s.commissioned ≡ true) (w : is_within_limits s ≡ true) where
  abbrev c : Defined
  c = coordinator_of s store

  abbrev h : Header
  h = header_in p

  plainly : Refines (turn A.plain s store) (A.quiet c)
  plainly = record { answer = refl; events = refl; after = view_held s store b w }

  request_refines :
      h.signature_type ≤ 3 → whole_root p ≡ true → length (part_at p 32) ≤ message_limit
      → Refines (idle_request_turn clock p s store) (idle_request clock (request_in p) c)
  unfolding idle_request_turn idle_request request_in iterated coordinator_of is_within_limits
  request_refines l root short =
      ask_refines (eqb h.ids.sign_id s.ids.sign_id) (eqb h.ids.sign_id c.ids.sign_id) refl
      (λ same. plainly)
      (λ other.
      rw (start_root clock (part_at p 32) (type_of h.signature_type) (part_at p 40) (root_in p) (Some h.ids.sign_id) _ (sym (same_root p l root)), ← iterated-seen h.ids.sign_iter_id s store)
      (round-refines clock (part_at p 32) (start_in p) (iterated h.ids.sign_iter_id s) store
      (record { bytes = bytes; kept = kept; given = length-put (replicate 32 0) 0 (part_at p 40) ∙ length-replicate {A = ℕ} 32 0 }) short b w))

  pub idle_refines : is_laid_out p ≡ true → within (message_in p) ≡ true → Refines (idle_turn clock p s store) (idle clock (content_of (message_in p)) c)
  unfolding idle_turn idle within request_in question15 coordinator_of
  idle_refines l =
      laid-out-cases p (λ (m : Message). within m ≡ true → Refines (idle_turn clock p s store) (idle clock (content_of m) c)) l
      (λ k a n r ok. rw k (request_refines a.type r (leb-true _ _ ok)))
      (λ k t n r ok. rw k plainly)
      (λ k a n r e ok. rw k plainly)
      (λ k t e ok. rw k plainly)
      (λ k g d ok. rw k
      (ask_refines (eqb h.ids.dkg_id s.ids.dkg_id) (eqb h.ids.dkg_id c.ids.dkg_id) refl (λ y. plainly) (λ y. error_refines 15 s store c b w refl)))
      (λ k d ok. rw k plainly)
      (λ k g d ok. rw k plainly)
