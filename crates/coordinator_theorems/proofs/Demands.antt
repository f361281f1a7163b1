-- Demand 3, who may be excluded, and what a refusal changes, of the calls as a host makes them: "for real".
-- Assumes nothing.
use Rattle.std.proofs.lemmas.Option.{none-some}
use Rattle.std.specs.Prelude.{Option, None, Some}
use Prim.Native.Nat.{ℕ, suc}
use mathlib.Core.Path.{◌≡◌, refl, sym, ap, subst, ◌∙◌}
use mathlib.Core.Bool.{Bool, true, false, cond}
use mathlib.Core.List.{List, [], ◌∷◌, map}
use native.Mathlib.Omega.{arith}
use borrow.Author.Tests.{eqb-true}
use lib.Dec.{eqb}
use lib.ListN.{length, get_or}
use lib.Seq.{length-take-le}
use Rattle.wire.specs.Bytes.{All, Bytes, le}
use Rattle.wire.proofs.Numbers.{bytes_take}
use Rattle.layout.specs.Types.{type_number, root_length}
use Rattle.layout.specs.Fits as L
use Rattle.layout.specs.Messages.{NonceRequest, SignatureShareRequest, nonce_request, signature_share_request}
use Rattle.layout.specs.Encode.{encode, header, header_bytes, packet as laid}
use Rattle.validity.specs.Keys.{member}
use Rattle.step_definition.specs.Coordinator.{Held, commissioned}
use Rattle.step_definition.specs.Coordinator.{Coordinator as Defined}
use Rattle.step_definition.specs.Calls as A
use Rattle.step_definition.specs.Refusals.{after_refusal}
use Rattle.step_definition.specs.Run.{malicious_in, run, final}
use Rattle.step_definition.specs.ResponseLog.{Place, or_later, first_named, empty, log_after}
use Rattle.step_definition.specs.Demand3.{Opens, SameFour, Plain, opened_by, first_share_request, Authentic}
use Rattle.step_definition.specs.Silence.{unasked, watched, is_commission}
use Rattle.step_definition.specs.Step.{step}
use Rattle.step_definition.proofs.Answers.{nonce_request-answer, kind_1_answer, share_request-answer, kind_3_answer}
use Rattle.step_definition.proofs.EqualBytes.{Writes1, equal_bytes_futures}
use Rattle.step_definition.proofs.NextShareRequest.{RecordsLogged, next_share_request, log_is_records, share_request_authentic}
use Rattle.step_definition.proofs.Refusals.{refusal_changes}
use Rattle.step_definition.proofs.Malicious.{malicious_kept, malicious_grows}
use Rattle.step_definition.proofs.Silence.{Begins, Adds, only_the_silent}
use Rattle.step_definition.proofs.Silence as S
use Rattle.step_definition.specs.Counts.{RoundFits, root_size}
use Rattle.state_table.specs.States.{type_in, StateType}
use Rattle.state.specs.declared.fields.Coordinator.{Coordinator}
use Rattle.state.specs.Counts.{is_within_limits}
use Rattle.state.specs.View.{coordinator_of, round_of, position_of, root_bytes, view, held_if}
use Rattle.state.proofs.Limits.{view_limits}
use Rattle.idle.proofs.Refines.{root-few}
use Rattle.configuration.specs.NewConfig.{new_config_of}
use Rattle.coordinator_theorems.specs.Host.{HostCall, Host, seen, turn_of, host_step, viewed, host_run, host_final, as_request, as_call, Formed}
use Rattle.coordinator_theorems.specs.Demand3.{HostBegins, commissioning, opening}
use Rattle.coordinator_theorems.specs.Demand3.{Fits, kind_written, HostPlain, later, first_kind3, named}
use Rattle.coordinator_theorems.specs.Host.{HostRefines, Makeable}
use Rattle.coordinator_theorems.proofs.Refines.{call_refines, step_formed, final-formed, run_refines}

-- What a refusal changes, and who is excluded

module _ (k : HostCall) (x : Host) (formed : Formed x.struct) (m : Makeable (length x.store) k) where
  abbrev r : HostRefines k x
  r = call_refines k x formed m

  pub host-refusal-changes :
      (n : ℕ) → (turn_of k x).answer.number ≡ suc n
      → (viewed (host_step k x) ≡ after_refusal k.clock (suc n) (as_request k.request) (viewed x)) × ((turn_of k x).answer.bytes ≡ [])
  unfolding as_call
  host-refusal-changes n e =
      let told = refusal_changes (as_call k) (viewed x) n (sym (ap (λ (a : A.Answer). a.number) r.answer) ∙ e) in
      (r.after ∙ told.0, ap (λ (a : A.Answer). a.bytes) r.answer ∙ told.1)

  -- "only a share timeout adds"
  pub host-malicious-kept :
      is_commission (as_request k.request) ≡ false → A.newly_malicious_in (turn_of k x).events ≡ None → malicious_in (viewed (host_step k x)) ≡ malicious_in (viewed x)
  unfolding as_call
  host-malicious-kept nc e =
      ap malicious_in r.after ∙ malicious_kept (as_call k) (viewed x) nc (sym (ap A.newly_malicious_in r.events) ∙ e)

  -- "only commissioning removes"
  pub host-malicious-grows :
      (id : ℕ) → is_commission (as_request k.request) ≡ false → member id (malicious_in (viewed x)) ≡ true → member id (malicious_in (viewed (host_step k x))) ≡ true
  unfolding as_call
  host-malicious-grows id nc e = ap (λ (h : Held). member id (malicious_in h)) r.after ∙ malicious_grows (as_call k) (viewed x) id nc e

  -- a call that writes a packet of kind 1 opens a round
  opens-round : kind_written k x ≡ 1 → (q : NonceRequest) × (c : Defined) × Opens (as_call k) (viewed x) q c
  opens-round e = kind_1_answer (as_call k) (viewed x) (sym (ap (λ (a : A.Answer). get_or a.bytes 0 0) r.answer) ∙ e)

begun : (y : Host) → HostBegins y → Begins (viewed y)
unfolding as_call as_request
begun y (commissioning k x g e f m) =
    subst Begins (sym (call_refines k x f m).after) (S.commissioning (as_call k) (viewed x) (new_config_of g) (ap as_request e))
begun y (opening k x e f m) =
    let o = opens-round k x f m e in
    subst Begins (sym ((call_refines k x f m).after ∙ o.2.leaves)) (S.opening (as_call k) (viewed x) o.0 o.1 o.2)

pub host_only_the_silent :
    (y : Host) → HostBegins y → Formed y.struct → (ks : List HostCall) (k : HostCall) → All (Makeable (length y.store)) (k ∷ ks)
    → (ids : List ℕ) → A.newly_malicious_in (turn_of k (host_final ks y)).events ≡ Some ids
    → Adds (watched (map as_call ks) (viewed y) unasked) ids (malicious_in (viewed (host_step k (host_final ks y)))) (malicious_in (viewed (host_final ks y)))
host_only_the_silent y b f ks k a ids e =
    let end = final-formed ks y f a.1 in
    let last = call_refines k (host_final ks y) end.0 (subst (λ (n : ℕ). Makeable n k) (sym end.1) a.0) in
    let same = (run_refines ks y f a.1).1 in
    let newly : A.newly_malicious_in (step (as_call k) (final (map as_call ks) (viewed y))).events ≡ Some ids =
    rw same at (sym (ap A.newly_malicious_in last.events) ∙ e) in
    rw (last.after, same) (only_the_silent (viewed y) (begun y b) (map as_call ks) (as_call k) ids newly)

-- Demand 3, first half: "any two coordinators ... in all that follows"

-- what a struct stands for, in numbers of their types
root-fits : (t : StateType) (root : List ℕ) → length root ≡ 32 → Bytes root → L.Sized (root_size t) (root_bytes t root)
unfolding root_bytes
root-fits None root long b = record { bytes = λ i. omega arith; size = refl }
root-fits (Some t) root long b =
    record { bytes = bytes_take (root_length (type_number t)) root b; size = length-take-le (root_length (type_number t)) root (omega (arith, root-few (type_number t))) }

round-fits : (s : Coordinator) (store : List ℕ) → length s.position.root ≡ 32 → Fits s → RoundFits (coordinator_of s store)
unfolding coordinator_of round_of position_of
round-fits s store long f =
    record {
      ids = f.ids;
      message = bytes_take s.message.len s.message.bytes f.message;
      root = root-fits (type_in s.position.state) s.position.root long f.root;
    }

-- a struct that stands for a coordinator stands for what its fields say
pub held_seen : (s : Coordinator) (store : List ℕ) (c : Defined) → view s store ≡ commissioned c → c ≡ coordinator_of s store
unfolding view held_if
held_seen s store c e = by s.commissioned (is_within_limits s) e
  where
    by : (b w : Bool) → held_if b w (coordinator_of s store) ≡ commissioned c → c ≡ coordinator_of s store
    by false w e = let z : ◌≡◌ {A = ℕ} 0 1 = cc in let f : ⊥ = omega arith in absurd f
    by true false e = let z : ◌≡◌ {A = ℕ} 0 1 = cc in let f : ⊥ = omega arith in absurd f
    by true true e = cc

-- the coordinator after a call that wrote a nonce request
module _ (k : HostCall) (x : Host) (f : Formed x.struct) (m : Makeable (length x.store) k) (one : kind_written k x ≡ 1) where
  abbrev y : Host
  y = host_step k x

  abbrev sent : NonceRequest
  sent = (opens-round k x f m one).0

  leaves : viewed y ≡ commissioned (opens-round k x f m one).1
  leaves = (call_refines k x f m).after ∙ (opens-round k x f m one).2.leaves

  after_seen : viewed y ≡ commissioned (seen y)
  after_seen = leaves ∙ ap commissioned (held_seen y.struct y.store (opens-round k x f m one).1 leaves)

  opens_seen : Opens (as_call k) (viewed x) sent (seen y)
  opens_seen = record { sends = (opens-round k x f m one).2.sends; leaves = sym (call_refines k x f m).after ∙ after_seen }

  writes_1 : Fits y.struct → Writes1 (as_call k) (viewed x) (seen y)
  writes_1 fits =
      record {
        kind = sym (ap (λ (a : A.Answer). get_or a.bytes 0 0) (call_refines k x f m).answer) ∙ one;
        leaves = opens_seen.leaves;
        within = view_limits y.struct y.store (seen y) after_seen;
        fits = round-fits y.struct y.store (step_formed k x f m).0.root fits;
      }

  makeable_after : (ks : List HostCall) → All (Makeable (length x.store)) ks → All (Makeable (length y.store)) ks
  makeable_after ks a = subst (λ (n : ℕ). All (Makeable n) ks) (sym (step_formed k x f m).1) a

  run_after : (ks : List HostCall) → All (Makeable (length x.store)) ks → host_run ks y ≡ run (map as_call ks) (commissioned (seen y))
  run_after ks a = (run_refines ks y (step_formed k x f m).0 (makeable_after ks a)).0 ∙ ap (run (map as_call ks)) after_seen

same_clock : (k₁ k₂ : HostCall) → k₁.clock ≡ k₂.clock → (as_call k₁).clock ≡ (as_call k₂).clock
unfolding as_call
same_clock k₁ k₂ e = e

pub host_equal_futures :
    (k₁ k₂ : HostCall) (x₁ x₂ : Host) → Formed x₁.struct → Formed x₂.struct → Makeable (length x₁.store) k₁ → Makeable (length x₂.store) k₂
    → kind_written k₁ x₁ ≡ 1 → (turn_of k₁ x₁).answer.bytes ≡ (turn_of k₂ x₂).answer.bytes → k₁.clock ≡ k₂.clock
    → Fits (host_step k₁ x₁).struct → Fits (host_step k₂ x₂).struct → SameFour (seen (host_step k₁ x₁)) (seen (host_step k₂ x₂))
    → (ks : List HostCall) → All (Makeable (length x₁.store)) ks → All (Makeable (length x₂.store)) ks
    → host_run ks (host_step k₁ x₁) ≡ host_run ks (host_step k₂ x₂)
host_equal_futures k₁ k₂ x₁ x₂ f₁ f₂ m₁ m₂ one same clock fits₁ fits₂ four ks a₁ a₂ =
    let one₂ : kind_written k₂ x₂ ≡ 1 = sym (ap (λ (bs : List ℕ). get_or bs 0 0) same) ∙ one in
    let bytes : (k : HostCall) (x : Host) → Formed x.struct → Makeable (length x.store) k → (turn_of k x).answer.bytes ≡ (step (as_call k) (viewed x)).answer.bytes =
    λ k x f m. ap (λ (a : A.Answer). a.bytes) (call_refines k x f m).answer in
    run_after k₁ x₁ f₁ m₁ one ks a₁
    ∙ equal_bytes_futures (as_call k₁) (as_call k₂) (viewed x₁) (viewed x₂) (seen (host_step k₁ x₁)) (seen (host_step k₂ x₂)) (writes_1 k₁ x₁ f₁ m₁ one fits₁)
    (writes_1 k₂ x₂ f₂ m₂ one₂ fits₂) (sym (bytes k₁ x₁ f₁ m₁) ∙ same ∙ bytes k₂ x₂ f₂ m₂) (same_clock k₁ k₂ clock) four (map as_call ks)
    ∙ sym (run_after k₂ x₂ f₂ m₂ one₂ ks a₂)

-- Demand 3, second half: the share request that the round's book names

later-named : (rest : Option Place) → named (or_later None rest) ≡ later (named rest)
unfolding named or_later later
later-named None = refl
later-named (Some p) = refl

module _ (k : HostCall) (x : Host) (r : HostRefines k x) where
  by_event : (e : Option SignatureShareRequest) → A.share_request_in (step (as_call k) (viewed x)).events ≡ e → (rest : Option Place)
      → cond (eqb (kind_written k x) 3) (Some (record { call = 0; bytes = (turn_of k x).answer.bytes })) (later (named rest)) ≡ named (or_later e rest)
  unfolding encode header laid header_bytes le named or_later
  by_event (Some q) e rest =
      let wrote : (turn_of k x).answer.bytes ≡ encode (signature_share_request q) =
      ap (λ (a : A.Answer). a.bytes) (r.answer ∙ share_request-answer (as_call k) (viewed x) q e) in
      rw wrote
  by_event None e rest = by (eqb (kind_written k x) 3) refl
    where
      by : (b : Bool) → eqb (kind_written k x) 3 ≡ b → cond b (Some (record { call = 0; bytes = (turn_of k x).answer.bytes })) (later (named rest)) ≡ named (or_later None rest)
      by true t =
          let q = kind_3_answer (as_call k) (viewed x) (sym (ap (λ (a : A.Answer). get_or a.bytes 0 0) r.answer) ∙ eqb-true _ _ t) in
          let z : ◌≡◌ {A = Option SignatureShareRequest} None (Some q.0) = sym e ∙ q.1 in
          let y : ◌≡◌ {A = ℕ} 0 1 = cc in
          let w : ⊥ = omega arith in
          absurd w
      by false t = sym (later-named rest)

pub first_kind_3 :
    (ks : List HostCall) (x : Host) → Formed x.struct → All (Makeable (length x.store)) ks
    → first_kind3 ks x ≡ named (first_share_request (map as_call ks) (viewed x))
unfolding first_kind3 first_share_request named
first_kind_3 [] x f a = refl
first_kind_3 (k ∷ ks) x f a =
    let r = call_refines k x f a.0 in
    let kept = step_formed k x f a.0 in
    let rest = first_kind_3 ks (host_step k x) kept.0 (subst (λ (n : ℕ). All (Makeable n) ks) (sym kept.1) a.1) in
    rw (rest, r.after) (by_event k x r (A.share_request_in (step (as_call k) (viewed x)).events) refl (first_share_request (map as_call ks) (step (as_call k) (viewed x)).after))

plain-seen : (ks : List HostCall) (x : Host) → Formed x.struct → All (Makeable (length x.store)) ks → HostPlain ks x → Plain (map as_call ks) (viewed x)
unfolding as_call
plain-seen [] x f a p = tt
plain-seen (k ∷ ks) x f a p =
    let kept = step_formed k x f a.0 in
    (p.0, p.1, subst (Plain (map as_call ks)) (call_refines k x f a.0).after (plain-seen ks (host_step k x) kept.0 (subst (λ (n : ℕ). All (Makeable n) ks) (sym kept.1) a.1) p.2))

-- and back: a list that is plain for what struct and store stand for is plain for the host
pub plain_host :
    (ks : List HostCall) (x : Host) → Formed x.struct → All (Makeable (length x.store)) ks → Plain (map as_call ks) (viewed x) → HostPlain ks x
unfolding as_call
plain_host [] x f a p = tt
plain_host (k ∷ ks) x f a p =
    let kept = step_formed k x f a.0 in
    let rest : Plain (map as_call ks) (viewed (host_step k x)) = subst (Plain (map as_call ks)) (sym (call_refines k x f a.0).after) p.2 in
    (p.0, p.1, plain_host ks (host_step k x) kept.0 (subst (λ (n : ℕ). All (Makeable n) ks) (sym kept.1) a.1) rest)

-- the opening call wrote the nonce request q; what is held after it is the coordinator that its struct and store stand for
pub host_next_share_request :
    (k : HostCall) (x : Host) → Formed x.struct → Makeable (length x.store) k → kind_written k x ≡ 1
    → (ks : List HostCall) → All (Makeable (length x.store)) ks → HostPlain ks (host_step k x)
    → (q : NonceRequest) × ((turn_of k x).answer ≡ A.sending A.packet (encode (nonce_request q)))
    × (first_kind3 ks (host_step k x) ≡ named (first_named (opened_by (as_call k) q (seen (host_step k x))) (empty (opened_by (as_call k) q (seen (host_step k x)))) (map as_call ks)))
    × ((p : Place) → first_named (opened_by (as_call k) q (seen (host_step k x))) (empty (opened_by (as_call k) q (seen (host_step k x)))) (map as_call ks) ≡ Some p
    → Authentic (seen (host_step k x)).standing q.ids p.request)
host_next_share_request k x f m one ks a p =
    let y = host_step k x in
    let o = opens_seen k x f m one in
    let plain : Plain (map as_call ks) (commissioned (seen y)) =
    subst (Plain (map as_call ks)) (after_seen k x f m one) (plain-seen ks y (step_formed k x f m).0 (makeable_after k x f m one ks a) p) in
    let next = next_share_request (as_call k) (viewed x) (sent k x f m one) (seen y) o (map as_call ks) plain in (
      sent k x f m one,
      (call_refines k x f m).answer ∙ nonce_request-answer (as_call k) (viewed x) (sent k x f m one) o.sends,
      first_kind_3 ks y (step_formed k x f m).0 (makeable_after k x f m one ks a) ∙ ap (λ (h : Held). named (first_share_request (map as_call ks) h)) (after_seen k x f m one) ∙ ap named next,
      λ at e. share_request_authentic (as_call k) (viewed x) (sent k x f m one) (seen y) o (map as_call ks) plain at (next ∙ e),
    )

-- "which is then recorded": up to the first share request the book's entries are the records that struct and store stand for

named_none : (o : Option Place) → named o ≡ None → o ≡ None
unfolding named
named_none None e = refl
named_none (Some p) e = absurd (none-some _ (sym e))

pub host_log_is_records :
    (k : HostCall) (x : Host) → Formed x.struct → Makeable (length x.store) k → kind_written k x ≡ 1
    → (ks : List HostCall) → All (Makeable (length x.store)) ks → HostPlain ks (host_step k x) → first_kind3 ks (host_step k x) ≡ None
    → (q : NonceRequest) × ((turn_of k x).answer ≡ A.sending A.packet (encode (nonce_request q)))
    × RecordsLogged (viewed (host_final ks (host_step k x)))
    (log_after (opened_by (as_call k) q (seen (host_step k x))) (empty (opened_by (as_call k) q (seen (host_step k x)))) (map as_call ks))
host_log_is_records k x f m one ks a p none_left =
    let y = host_step k x in
    let q = sent k x f m one in
    let o = opens_seen k x f m one in
    let seen_after = after_seen k x f m one in
    let makeable = makeable_after k x f m one ks a in
    let kept = (step_formed k x f m).0 in
    let plain : Plain (map as_call ks) (commissioned (seen y)) =
    subst (Plain (map as_call ks)) seen_after (plain-seen ks y kept makeable p) in
    let nothing : first_share_request (map as_call ks) (commissioned (seen y)) ≡ None =
    named_none _
    (ap (λ (h : Held). named (first_share_request (map as_call ks) h)) (sym seen_after) ∙ sym (first_kind_3 ks y kept makeable) ∙ none_left) in
    let end : viewed (host_final ks y) ≡ final (map as_call ks) (commissioned (seen y)) =
    (run_refines ks y kept makeable).1 ∙ ap (final (map as_call ks)) seen_after in (
      q,
      (call_refines k x f m).answer ∙ nonce_request-answer (as_call k) (viewed x) q o.sends,
      rw end (log_is_records (as_call k) (viewed x) q (seen y) o (map as_call ks) plain nothing),
    )
