-- Demand 3 for the library's bytes: what its calls answer and leave.
-- Assumes nothing.
use Prim.Native.Nat.{ℕ}
use mathlib.Core.Path.{◌≡◌, refl, sym, ap, ◌∙◌, subst}
use mathlib.Core.List.{List, [], ◌∷◌, map}
use Rattle.std.specs.Prelude.{Option, Some, None}
use native.Mathlib.Omega.{arith}
use lib.ListN.{length, get_or}
use Rattle.wire.specs.Bytes.{All, Bytes}
use Rattle.layout.specs.Messages.{NonceRequest, nonce_request}
use Rattle.layout.specs.Encode.{encode}
use Rattle.step_definition.specs.Lists.{given}
use Rattle.step_definition.specs.Calls as A
use Rattle.step_definition.specs.Run.{Seen}
use Rattle.step_definition.specs.ResponseLog.{Place, first_named, empty, log_after}
use Rattle.step_definition.specs.Demand3.{SameFour, opened_by, Authentic}
use Rattle.step_definition.proofs.NextShareRequest.{RecordsLogged}
use Rattle.coordinator_theorems.specs.Host.{HostCall, Host, turn_of, host_step, host_final, viewed, seen, as_call, host_run, Makeable}
use Rattle.coordinator_theorems.specs.Demand3.{Fits, HostPlain, Written, first_kind3, named}
use Rattle.coordinator_theorems.proofs.Demands.{host_equal_futures, host_next_share_request, host_log_is_records}
use Rattle.library_theorems.specs.Library.{Buffers, counted, LibraryCall, Made, Ran, outright, host_call, lending_nothing, as_host, numbered, numbered_in}
use Rattle.library_theorems.specs.Library.{first_share_request_in}
use Rattle.library_theorems.proofs.Formed.{loaded-formed, loaded-fits}
use Rattle.library_theorems.proofs.Calls.{nothing-answered, outright_kept, taken_answer, library_step, library_bytes, library_makeable, store_length}
use Rattle.library_theorems.proofs.Calls.{library_run, library_all_makeable}

same_clock : (k : LibraryCall) → (as_host k).clock ≡ k.clock
unfolding as_host
same_clock k = by (outright k)
  where
    by : (o : Option ℕ) → (given o (λ (n : ℕ). lending_nothing k) (host_call k)).clock ≡ k.clock
    by (Some n) = refl
    by None = refl

-- the calls of a list that follows a call can be made of what the host held before it
follows :
    (k : LibraryCall) (b : Buffers) {a : A.Answer} {c : Buffers} → Made k b a c → (ks : List LibraryCall) (told : List Seen) (e : Buffers) → Ran ks c told e
    → All (Makeable (length b.store)) (map as_host ks)
follows k b {a} {c} m ks told e r =
    subst (λ (n : ℕ). All (Makeable n) (map as_host ks)) (store_length k b m) (library_all_makeable ks c told e r)

-- a call that wrote something was not refused outright: its answer is the host's call's
wrote_answer :
    (k : LibraryCall) (b : Buffers) {a : A.Answer} {c : Buffers} → Made k b a c → get_or a.bytes 0 0 ≡ 1 → a ≡ (turn_of (as_host k) (counted b)).answer
unfolding as_host
wrote_answer k b {a} {c} m one = by (outright k) refl
  where
    by : (o : Option ℕ) → outright k ≡ o → a ≡ (turn_of (given o (λ (n : ℕ). lending_nothing k) (host_call k)) (counted b)).answer
    by (Some n) e =
        let z : ◌≡◌ {A = ℕ} 0 1 = sym (ap (λ (x : A.Answer). get_or x.bytes 0 0) (outright_kept k b m n e).0) ∙ one in
        let f : ⊥ = omega arith in absurd f
    by None e = taken_answer k b m e

-- first half: two hosts whose calls wrote the same nonce request at the same clock reading, with the same four fields after, see the same in all
-- that follows, call for call
pub library_equal_futures :
    (k₁ k₂ : LibraryCall) (b₁ b₂ c₁ c₂ : Buffers) (a₁ a₂ : A.Answer) → Made k₁ b₁ a₁ c₁ → Made k₂ b₂ a₂ c₂
    → get_or a₁.bytes 0 0 ≡ 1 → a₁.bytes ≡ a₂.bytes → k₁.clock ≡ k₂.clock
    → Bytes c₁.state → Bytes c₂.state → SameFour (seen (counted c₁)) (seen (counted c₂))
    → (ks : List LibraryCall) (seen₁ seen₂ : List Seen) (e₁ e₂ : Buffers) → Ran ks c₁ seen₁ e₁ → Ran ks c₂ seen₂ e₂ → seen₁ ≡ seen₂
library_equal_futures k₁ k₂ b₁ b₂ c₁ c₂ a₁ a₂ m₁ m₂ one same clock f₁ f₂ four ks seen₁ seen₂ e₁ e₂ r₁ r₂ =
    let s₁ = library_step k₁ b₁ m₁ in
    let s₂ = library_step k₂ b₂ m₂ in
    let t₁ = library_bytes k₁ b₁ m₁ in
    let t₂ = library_bytes k₂ b₂ m₂ in
    let future =
    host_equal_futures (as_host k₁) (as_host k₂) (counted b₁) (counted b₂) (loaded-formed b₁.state) (loaded-formed b₂.state)
    (library_makeable k₁ b₁ m₁) (library_makeable k₂ b₂ m₂)
    (sym (ap (λ (bs : List ℕ). get_or bs 0 0) t₁) ∙ one) (sym t₁ ∙ same ∙ t₂) (same_clock k₁ ∙ clock ∙ sym (same_clock k₂))
    (subst (λ (x : Host). Fits x.struct) s₁ (loaded-fits c₁.state f₁)) (subst (λ (x : Host). Fits x.struct) s₂ (loaded-fits c₂.state f₂))
    (rw (← s₁, ← s₂) four) (map as_host ks) (follows k₁ b₁ m₁ ks seen₁ e₁ r₁) (follows k₂ b₂ m₂ ks seen₂ e₂ r₂) in
    (library_run ks c₁ seen₁ e₁ r₁).0 ∙ (rw (s₁, s₂) (ap (numbered_in ks) future) ∙ sym (library_run ks c₂ seen₂ e₂ r₂).0)

-- second half: the first share request of a run is the one that the round's book names
first_seen : (ks : List LibraryCall) (x : Host) → first_share_request_in (numbered_in ks (host_run (map as_host ks) x)) ≡ first_kind3 (map as_host ks) x
unfolding first_share_request_in host_run first_kind3 numbered_in numbered as_host
first_seen [] x = refl
first_seen (k ∷ ks) x = by (outright k) refl (first_seen ks (host_step (as_host k) x))
  where
    by : (o : Option ℕ) → outright k ≡ o
        → first_share_request_in (numbered_in ks (host_run (map as_host ks) (host_step (as_host k) x))) ≡ first_kind3 (map as_host ks) (host_step (as_host k) x)
        → first_share_request_in (numbered_in (k ∷ ks) (host_run (map as_host (k ∷ ks)) x)) ≡ first_kind3 (map as_host (k ∷ ks)) x
    by (Some n) e rest = rw (rest, e, nothing-answered k x)
    by None e rest = rw (rest, e)

-- a: the answer that opened the round; first: the first share request after it; y: what is held between
abbrev pub Next : HostCall → List HostCall → A.Answer → Option Written → Host → Type 0
Next k ks a first y =
    (q : NonceRequest) × (a ≡ A.sending A.packet (encode (nonce_request q)))
    × (first ≡ named (first_named (opened_by (as_call k) q (seen y)) (empty (opened_by (as_call k) q (seen y))) (map as_call ks)))
    × ((p : Place) → first_named (opened_by (as_call k) q (seen y)) (empty (opened_by (as_call k) q (seen y))) (map as_call ks) ≡ Some p
    → Authentic (seen y).standing q.ids p.request)

pub library_next_share_request :
    (k : LibraryCall) (b c : Buffers) (a : A.Answer) → Made k b a c → get_or a.bytes 0 0 ≡ 1
    → (ks : List LibraryCall) → HostPlain (map as_host ks) (counted c) → (told : List Seen) (e : Buffers) → Ran ks c told e
    → Next (as_host k) (map as_host ks) a (first_share_request_in told) (counted c)
library_next_share_request k b c a m one ks plain told e r =
    let s = library_step k b m in
    let t = wrote_answer k b m one in
    let hs = map as_host ks in
    let next : Next (as_host k) hs (turn_of (as_host k) (counted b)).answer (first_kind3 hs (host_step (as_host k) (counted b))) (host_step (as_host k) (counted b)) =
    host_next_share_request (as_host k) (counted b) (loaded-formed b.state) (library_makeable k b m)
    (sym (ap (λ (bs : List ℕ). get_or bs 0 0) (library_bytes k b m)) ∙ one) hs (follows k b m ks told e r) (subst (HostPlain hs) s plain) in
    let held : Next (as_host k) hs (turn_of (as_host k) (counted b)).answer (first_kind3 hs (counted c)) (counted c) =
    subst (λ (y : Host). Next (as_host k) hs (turn_of (as_host k) (counted b)).answer (first_kind3 hs y) y) (sym s) next in
    let first = ap first_share_request_in (library_run ks c told e r).0 ∙ first_seen ks (counted c) in
    (held.0, t ∙ held.1, first ∙ held.2, held.3)

-- "which is then recorded": up to the first share request the book's entries are the records that the bytes stand for
pub library_log_is_records :
    (k : LibraryCall) (b c : Buffers) (a : A.Answer) → Made k b a c → get_or a.bytes 0 0 ≡ 1
    → (ks : List LibraryCall) → HostPlain (map as_host ks) (counted c) → (told : List Seen) (e : Buffers) → Ran ks c told e → first_share_request_in told ≡ None
    → (q : NonceRequest) × (a ≡ A.sending A.packet (encode (nonce_request q)))
    × RecordsLogged (viewed (counted e))
    (log_after (opened_by (as_call (as_host k)) q (seen (counted c))) (empty (opened_by (as_call (as_host k)) q (seen (counted c)))) (map as_call (map as_host ks)))
library_log_is_records k b c a m one ks plain told e r none_left =
    let s = library_step k b m in
    let t = wrote_answer k b m one in
    let hs = map as_host ks in
    let first : first_kind3 hs (host_step (as_host k) (counted b)) ≡ None =
    ap (first_kind3 hs) (sym s) ∙ sym (ap first_share_request_in (library_run ks c told e r).0 ∙ first_seen ks (counted c)) ∙ none_left in
    let logged =
    host_log_is_records (as_host k) (counted b) (loaded-formed b.state) (library_makeable k b m)
    (sym (ap (λ (bs : List ℕ). get_or bs 0 0) (library_bytes k b m)) ∙ one) hs (follows k b m ks told e r) (subst (HostPlain hs) s plain) first in
    let P : Host → Host → Type 0 =
    λ y z. RecordsLogged (viewed z) (log_after (opened_by (as_call (as_host k)) logged.0 (seen y)) (empty (opened_by (as_call (as_host k)) logged.0 (seen y))) (map as_call hs)) in
    let end : counted e ≡ host_final hs (host_step (as_host k) (counted b)) = (library_run ks c told e r).1 ∙ ap (host_final hs) s in
    (logged.0, t ∙ logged.1, subst (λ (y : Host). P y (counted e)) (sym s) (subst (P (host_step (as_host k) (counted b))) (sym end) logged.2))
