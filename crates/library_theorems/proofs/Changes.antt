-- What a refusal changes, and who is excluded, in the library's bytes.
-- Assumes nothing.
use Prim.Native.Nat.{ℕ, suc}
use mathlib.Core.Path.{◌≡◌, refl, sym, ap, subst, ◌∙◌}
use mathlib.Core.Bool.{true, false}
use mathlib.Core.List.{List, [], ◌∷◌, map}
use Rattle.std.specs.Prelude.{Option, Some, None}
use lib.ListN.{length, get_or, take, drop}
use Rattle.wire.specs.Bytes.{All}
use Rattle.validity.specs.Keys.{member}
use Rattle.step_definition.specs.Lists.{given}
use Rattle.step_definition.specs.Calls as A
use Rattle.step_definition.specs.Coordinator.{Held, uncommissioned, miscounted, commissioned}
use Rattle.step_definition.specs.Refusals.{changed_in, held_after, after_refusal}
use Rattle.step_definition.specs.Run.{Seen, malicious_in}
use Rattle.step_definition.specs.Silence.{unasked, watched, is_commission}
use Rattle.step_definition.proofs.Silence.{Adds}
use Rattle.coordinator_theorems.specs.Host.{HostCall, Host, turn_of, host_step, host_final, viewed, as_request, as_call, Makeable}
use Rattle.coordinator_theorems.specs.Demand3.{HostBegins}
use Rattle.coordinator_theorems.specs.Refusals.{changing, RefusalLeaves}
use Rattle.coordinator_theorems.proofs.Leaves.{host-refusal-leaves}
use Rattle.state_bytes.specs.Loaded.{loaded}
use Rattle.coordinator_theorems.specs.Demand3 as H
use Rattle.coordinator_theorems.proofs.Demands.{host-refusal-changes, host-malicious-kept, host-malicious-grows, host_only_the_silent}
use Rattle.interface.specs.Configs.{config_of}
use Rattle.library_theorems.specs.Library.{Buffers, counted, LibraryCall, request_of, Made, Ran, outright, host_call, lending_nothing, as_host}
use Rattle.library_theorems.specs.Library.{LibraryBegins, commissioning, opening}
use Rattle.library_theorems.proofs.Calls.{outright_kept, taken_answer, taken_step, taken_kept, library_bytes, library_step, library_makeable, library_run, library_all_makeable, ran_length}
use Rattle.library_theorems.proofs.Formed.{loaded-formed}

-- a timeout that is refused changes nothing of what is held
timeout-refused : (clock n : ℕ) (h : Held) → after_refusal clock n (A.other A.process_timeout) h ≡ h
unfolding after_refusal held_after changed_in
timeout-refused clock n uncommissioned = refl
timeout-refused clock n miscounted = refl
timeout-refused clock n (commissioned c) = refl

module _ (k : LibraryCall) (b : Buffers) {a : A.Answer} {c : Buffers} (m : Made k b a c) where
  -- a refusal changes exactly what 01 lists, nothing where it is outright, and writes no byte
  pub library-refusal-changes :
      (n : ℕ) → a.number ≡ suc n
      → (viewed (counted c) ≡ after_refusal k.clock (suc n) (as_request (as_host k).request) (viewed (counted b))) × (a.bytes ≡ [])
  unfolding as_host as_request
  library-refusal-changes n e = by (outright k) refl
    where
      by : (o : Option ℕ) → outright k ≡ o
          → (viewed (counted c) ≡ after_refusal k.clock (suc n) (as_request (given o (λ (n : ℕ). lending_nothing k) (host_call k)).request) (viewed (counted b)))
          × (a.bytes ≡ [])
      by (Some r) is =
          let kept = outright_kept k b m r is in (
            ap (λ (x : Buffers). viewed (counted x)) kept.1 ∙ sym (timeout-refused k.clock (suc n) (viewed (counted b))),
            ap (λ (x : A.Answer). x.bytes) kept.0,
          )
      by None is =
          let t = taken_answer k b m is in
          let same : as_host k ≡ host_call k = rw is in
          let told = host-refusal-changes (host_call k) (counted b) (loaded-formed b.state) (subst (Makeable (length b.store)) same (library_makeable k b m)) n
          (sym (ap (λ (x : A.Answer). x.number) t) ∙ e) in
          (ap viewed (library_step k b m ∙ ap (λ (h : HostCall). host_step h (counted b)) same) ∙ told.0, ap (λ (x : A.Answer). x.bytes) t ∙ told.1)

  -- a refusal leaves of the struct that the bytes count as, and of the lent bytes of the store, exactly what `RefusalLeaves` says; the others stay
  pub library-refusal-leaves :
      outright k ≡ None → (n : ℕ) → a.number ≡ suc n
      → RefusalLeaves k.clock (loaded b.state) (take k.lent b.store) (request_of k.request) (suc n) (loaded c.state) (take k.lent c.store)
      × (drop k.lent c.store ≡ drop k.lent b.store)
  unfolding as_host
  library-refusal-leaves is n e =
      let made : Makeable (length b.store) (host_call k) = record { given = m.arrays; lent = m.lends_store } in
      let number = sym (ap (λ (x : A.Answer). x.number) (taken_answer k b m is)) ∙ e in
      subst (λ (x : Host). RefusalLeaves k.clock (loaded b.state) (take k.lent b.store) (request_of k.request) (suc n) x.struct (take k.lent x.store)
      × (drop k.lent x.store ≡ drop k.lent b.store)) (sym (taken_step k b m is))
      (host-refusal-leaves (host_call k) (counted b) made n number)

  -- "Otherwise nothing": every byte of state and store is as it was
  pub library_refusal_nothing : (n : ℕ) → a.number ≡ suc n → changing (suc n) ≡ false → c ≡ b
  library_refusal_nothing n e quiet = by (outright k) refl
    where
      by : (o : Option ℕ) → outright k ≡ o → c ≡ b
      by (Some r) is = (outright_kept k b m r is).1
      by None is = taken_kept k b m is (sym (ap (λ (x : A.Answer). x.number) (taken_answer k b m is)) ∙ e) quiet

  -- only a share timeout adds to the malicious, only commissioning removes
  pub library-malicious-kept :
      is_commission (as_request (as_host k).request) ≡ false → A.newly_malicious_in (turn_of (as_host k) (counted b)).events ≡ None
      → malicious_in (viewed (counted c)) ≡ malicious_in (viewed (counted b))
  library-malicious-kept nc e =
      ap (λ (x : Host). malicious_in (viewed x)) (library_step k b m)
      ∙ host-malicious-kept (as_host k) (counted b) (loaded-formed b.state) (library_makeable k b m) nc e

  pub library-malicious-grows :
      (id : ℕ) → is_commission (as_request (as_host k).request) ≡ false → member id (malicious_in (viewed (counted b))) ≡ true
      → member id (malicious_in (viewed (counted c))) ≡ true
  library-malicious-grows id nc e =
      ap (λ (x : Host). member id (malicious_in (viewed x))) (library_step k b m)
      ∙ host-malicious-grows (as_host k) (counted b) (loaded-formed b.state) (library_makeable k b m) id nc e

begun : (c : Buffers) → LibraryBegins c → HostBegins (counted c)
unfolding as_host request_of
begun c (commissioning k b d a g m e is) =
    let asked : (as_host k).request ≡ request_of k.request = rw is in
    subst HostBegins (sym (library_step k b m))
    (H.commissioning (as_host k) (counted b) (config_of g) (asked ∙ ap request_of e) (loaded-formed b.state) (library_makeable k b m))
begun c (opening k b d a m one) =
    subst HostBegins (sym (library_step k b m))
    (H.opening (as_host k) (counted b) (sym (ap (λ (bs : List ℕ). get_or bs 0 0) (library_bytes k b m)) ∙ one) (loaded-formed b.state) (library_makeable k b m))

-- whom a share timeout adds: the responders of the last share request from whom no share packet has come since
pub library_only_the_silent :
    (c : Buffers) → LibraryBegins c → (ks : List LibraryCall) (seen : List Seen) (d : Buffers) → Ran ks c seen d
    → (k : LibraryCall) (a : A.Answer) (e : Buffers) → Made k d a e → (ids : List ℕ) → A.newly_malicious_in (turn_of (as_host k) (counted d)).events ≡ Some ids
    → Adds (watched (map as_call (map as_host ks)) (viewed (counted c)) unasked) ids (malicious_in (viewed (counted e))) (malicious_in (viewed (counted d)))
library_only_the_silent c begins ks seen d r k a e m ids newly =
    let hs = map as_host ks in
    let end : counted d ≡ host_final hs (counted c) = (library_run ks c seen d r).1 in
    let step : counted e ≡ host_step (as_host k) (host_final hs (counted c)) = library_step k d m ∙ ap (host_step (as_host k)) end in
    let P : Host → Host → Type 0 =
    λ x y. Adds (watched (map as_call hs) (viewed (counted c)) unasked) ids (malicious_in (viewed x)) (malicious_in (viewed y)) in
    let last : Makeable (length c.store) (as_host k) = subst (λ (n : ℕ). Makeable n (as_host k)) (ran_length ks c seen d r) (library_makeable k d m) in
    let silent : P (host_step (as_host k) (host_final hs (counted c))) (host_final hs (counted c)) =
    host_only_the_silent (counted c) (begun c begins) (loaded-formed c.state) hs (as_host k) (last, library_all_makeable ks c seen d r) ids
    (sym (ap (λ (x : Host). A.newly_malicious_in (turn_of (as_host k) x).events) end) ∙ newly) in
    subst (λ (x : Host). P x (counted d)) (sym step) (subst (P (host_step (as_host k) (host_final hs (counted c)))) (sym end) silent)
