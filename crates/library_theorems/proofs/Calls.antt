-- The library's calls are a host's: what they answer and leave is what its struct and store would.
-- Assumes nothing.
use Prim.Native.Nat.{ℕ, suc, ◌≤◌}
use mathlib.Core.Path.{◌≡◌, refl, sym, ap, subst, ◌∙◌}
use mathlib.Core.Bool.{Bool, true, false, cond}
use mathlib.Core.List.{List, [], ◌∷◌, ◌++◌, map}
use Rattle.std.specs.Prelude.{Option, Some, None}
use native.Mathlib.Omega.{arith}
use borrow.Author.Tests.{le-leb}
use lib.Dec.{leb}
use lib.ListN.{length, take, drop, take-append-drop}
use lib.Seq.{length-take-le, take-append_seam}
use Rattle.wire.specs.Bytes.{All, put}
use Rattle.wire.proofs.Buffer.{length-put}
use Rattle.step_definition.specs.Lists.{given}
use Rattle.step_definition.specs.Calls as A
use Rattle.step_definition.specs.Run.{Seen, run, final, malicious_in}
use Rattle.state.specs.Turns.{Turn, asked, unless}
use Rattle.process_timeout.specs.ProcessTimeout.{asking_timeout, process_timeout_turn}
use Rattle.state_bytes.specs.Saved.{state_length}
use Rattle.state_bytes.specs.Saved.{saved}
use Rattle.state_bytes.specs.Loaded.{is_saved, loaded, unsaved}
use Rattle.state_bytes.proofs.Loads.{unsaved-loaded, unsaved-uncommissioned}
use Rattle.state_bytes.proofs.Front.{loaded_front}
use Rattle.interface.specs.Configs.{is_yes}
use Rattle.interface.proofs.Call.{resaved}
use Rattle.coordinator_theorems.specs.Host.{HostCall, Host, turn_for, turn_of, host_step, viewed, host_run, host_final, as_call, GivenArrays, Makeable}
use Rattle.coordinator_theorems.specs.Refusals.{changing}
use Rattle.coordinator_theorems.proofs.Leaves.{turn_unchanged}
use Rattle.coordinator_theorems.proofs.Lent.{short-asked}
use Rattle.coordinator_theorems.proofs.Refines.{step_formed, run_refines}
use Rattle.library_theorems.specs.Library.{Buffers, counted, LibraryCall, request_of, is_said, commissions, library_turn, saves, Made, Ran}
use Rattle.library_theorems.specs.Library.{outright, host_call, lending_nothing, as_host, numbered, numbered_in}
use Rattle.library_theorems.proofs.Unsaved.{uncommissioned_turn}
use Rattle.library_theorems.proofs.Outright.{Outright, unsaid, short, long, outright_case, refused-turn, refused_saves}
use Rattle.library_theorems.proofs.Formed.{loaded-formed}

said-long : (k : LibraryCall) {o : Option ℕ} → Outright k o → o ≡ None → (is_said k.request ≡ true) × (state_length ≤ k.state)
said-long k (unsaid e) is = let z : ◌≡◌ {A = ℕ} 0 1 = cc in let f : ⊥ = omega arith in absurd f
said-long k (short said l) is = let z : ◌≡◌ {A = ℕ} 0 1 = cc in let f : ⊥ = omega arith in absurd f
said-long k (long said l) is = (said, l)

length_kept : (w : Bool) (b bs : List ℕ) → length (cond w (put b 0 bs) b) ≡ length b
length_kept true b bs = length-put b 0 bs
length_kept false b bs = refl

-- what stands behind enough bytes does not count
loaded-before : (b rest : List ℕ) → state_length ≤ length b → loaded (b ++ rest) ≡ loaded b
loaded-before b rest l = sym (loaded_front (length b) (b ++ rest) l) ∙ ap loaded (take-append_seam b rest)

abbrev seeing : A.Answer → Host → Seen
seeing a x = record { answer = a; malicious = malicious_in (viewed x) }

-- a call that lends nothing is refused and leaves everything
nothing_lent : (k : LibraryCall) (x : Host) → host_step (lending_nothing k) x ≡ x
unfolding host_step turn_for process_timeout_turn unless
nothing_lent k x = rw (short-asked asking_timeout 0 k.room x.struct (omega arith))

pub nothing-answered : (k : LibraryCall) (x : Host) → (turn_of (lending_nothing k) x).answer ≡ A.refusing A.error 4 []
unfolding turn_for process_timeout_turn unless
nothing-answered k x = rw (short-asked asking_timeout 0 k.room x.struct (omega arith))

module _ (k : LibraryCall) (b : Buffers) {answer : A.Answer} {b' : Buffers} (m : Made k b answer b') where
  abbrev lent : List ℕ
  lent = take k.state b.state

  abbrev stored : List ℕ
  stored = take k.lent b.store

  abbrev turn : Turn
  turn = library_turn k.request k.clock k.verdict (length m.out) lent stored

  lent_length : length lent ≡ k.state
  lent_length = length-take-le k.state b.state m.lends_state

  -- refused outright: the number, and every byte as it was
  pub outright_kept : (n : ℕ) → outright k ≡ Some n → (answer ≡ A.refusing A.error n []) × (b' ≡ b)
  outright_kept n is =
      let refused = refused-turn k lent stored lent_length (length m.out) n (outright_case k) is in
      let as_saved = refused_saves k lent stored lent_length n (outright_case k) is in
      let state : b'.state ≡ b.state =
      m.state_beyond ∙ rw ((rw (refused, as_saved) at m.gave.kept) ∙ resaved lent) (take-append-drop k.state b.state) in
      let store : b'.store ≡ b.store = m.store_beyond ∙ rw (rw refused at m.gave.stored) (take-append-drop k.lent b.store) in
      (m.answered ∙ (rw refused at m.gave.answered), λ i. record { state = state i; store = store i })

  module _ (is : outright k ≡ None) where
    abbrev fits : (is_said k.request ≡ true) × (state_length ≤ k.state)
    fits = said-long k (outright_case k) is

    lent_long : state_length ≤ length lent
    lent_long = omega (arith, lent_length, fits.1)

    roomy : cond (commissions k.request) (leb state_length (length lent)) true ≡ true
    roomy = by (commissions k.request)
      where
        by : (c : Bool) → cond c (leb state_length (length lent)) true ≡ true
        by true = le-leb state_length (length lent) lent_long
        by false = refl

    on_loaded : turn ≡ turn_for (request_of k.request) k.clock (is_yes k.verdict) k.room (loaded lent) stored
    unfolding library_turn
    on_loaded = rw (fits.0, roomy, m.room)

    taken_turn : turn ≡ turn_of (host_call k) (counted b)
    taken_turn = on_loaded ∙ rw (loaded_front k.state b.state fits.1)

    -- the state's bytes after the call count as the struct after it
    saved_after : loaded m.state' ≡ turn.after
    unfolding saves
    saved_after = by (commissions k.request) refl (is_saved lent) refl
      where
        by : (c : Bool) → commissions k.request ≡ c → (y : Bool) → is_saved lent ≡ y → loaded m.state' ≡ turn.after
        by true e y s = m.gave.loads (rw (e, le-leb state_length (length lent) lent_long)) lent_long
        by false e true s = m.gave.loads (rw (e, s)) lent_long
        by false e false s =
            let None : loaded lent ≡ unsaved = unsaved-loaded lent s in
            let uncommissioned = ap (λ s. s.commissioned) None ∙ unsaved-uncommissioned in
            let stays = uncommissioned_turn k.clock (is_yes k.verdict) k.room (loaded lent) stored uncommissioned (request_of k.request) e in
            let left : m.state' ≡ lent = rw (e, s) at m.gave.kept in
            ap loaded left ∙ sym (ap (λ (t : Turn). t.after) (on_loaded ∙ stays))

    after : loaded b'.state ≡ turn.after
    after =
        let n : length m.state' ≡ length lent = ap length m.gave.kept ∙ length_kept (saves k.request lent) lent (saved turn.after) in
        ap loaded m.state_beyond ∙ loaded-before m.state' (drop k.state b.state) (omega (arith, n, lent_long)) ∙ saved_after

    pub taken_answer : answer ≡ (turn_of (host_call k) (counted b)).answer
    taken_answer = m.answered ∙ m.gave.answered ∙ ap (λ (t : Turn). t.answer) taken_turn

    pub taken_step : counted b' ≡ host_step (host_call k) (counted b)
    unfolding host_step
    taken_step = rw (after, m.store_beyond, m.gave.stored, taken_turn)

    -- a refusal after which nothing differs leaves every byte as it was
    pub taken_kept : {n : ℕ} → (turn_of (host_call k) (counted b)).answer.number ≡ suc n → changing (suc n) ≡ false → b' ≡ b
    unfolding saves
    taken_kept {n} e quiet =
        let same = turn_unchanged (host_call k) (counted b) n e quiet in
        let front = loaded_front k.state b.state fits.1 in
        let left : turn.after ≡ loaded lent = ap (λ (t : Turn). t.after) taken_turn ∙ same.1.0 ∙ sym front in
        let other : commissions k.request ≡ false = same.0 in
        let state : b'.state ≡ b.state =
        m.state_beyond ∙ rw ((rw (left, other) at m.gave.kept) ∙ resaved lent) (take-append-drop k.state b.state) in
        let stays : m.store' ≡ stored = m.gave.stored ∙ ap (λ (t : Turn). t.store) taken_turn ∙ same.1.1 in
        let store : b'.store ≡ b.store = m.store_beyond ∙ rw stays (take-append-drop k.lent b.store) in
        λ i. record { state = state i; store = store i }

  pub library-answer :
      answer ≡ given (outright k) (λ (n : ℕ). A.refusing A.error n []) (turn_of (host_call k) (counted b)).answer
  library-answer = by (outright k) refl
    where
      by : (o : Option ℕ) → outright k ≡ o → answer ≡ given o (λ (n : ℕ). A.refusing A.error n []) (turn_of (host_call k) (counted b)).answer
      by (Some n) e = (outright_kept n e).0
      by None e = taken_answer e

  pub library_step : counted b' ≡ host_step (as_host k) (counted b)
  unfolding as_host
  library_step = by (outright k) refl
    where
      by : (o : Option ℕ) → outright k ≡ o → counted b' ≡ host_step (given o (λ (n : ℕ). lending_nothing k) (host_call k)) (counted b)
      by (Some n) e = ap counted (outright_kept n e).1 ∙ sym (nothing_lent k (counted b))
      by None e = taken_step e

  -- what a host sees of the call, and that it can be made of what the bytes stand for
  pub library-sees :
      seeing answer (counted b') ≡ numbered k (seeing (turn_of (as_host k) (counted b)).answer (host_step (as_host k) (counted b)))
  unfolding numbered as_host
  library-sees = rw (library-answer, ← library_step) (by (outright k))
    where
      by : (o : Option ℕ)
          → seeing (given o (λ (n : ℕ). A.refusing A.error n []) (turn_of (host_call k) (counted b)).answer) (counted b')
          ≡ given o (λ (n : ℕ). seeing (A.refusing A.error n []) (counted b'))
          (seeing (turn_of (given o (λ (n : ℕ). lending_nothing k) (host_call k)) (counted b)).answer (counted b'))
      by (Some n) = refl
      by None = refl

  -- the bytes written are those of the host's call: none where it is refused outright
  pub library_bytes : answer.bytes ≡ (turn_of (as_host k) (counted b)).answer.bytes
  unfolding as_host
  library_bytes = ap (λ (a : A.Answer). a.bytes) library-answer ∙ by (outright k)
    where
      by : (o : Option ℕ)
          → (given o (λ (n : ℕ). A.refusing A.error n []) (turn_of (host_call k) (counted b)).answer).bytes
          ≡ (turn_of (given o (λ (n : ℕ). lending_nothing k) (host_call k)) (counted b)).answer.bytes
      by (Some n) = sym (ap (λ (a : A.Answer). a.bytes) (nothing-answered k (counted b)))
      by None = refl

  pub library_makeable : Makeable (length b.store) (as_host k)
  unfolding as_host
  library_makeable = by (outright k)
    where
      by : (o : Option ℕ) → Makeable (length b.store) (given o (λ (n : ℕ). lending_nothing k) (host_call k))
      by (Some n) = record { given = tt; lent = omega arith }
      by None = record { given = m.arrays; lent = m.lends_store }

  pub store_length : length b'.store ≡ length b.store
  store_length =
      ap (λ (x : Host). length x.store) library_step ∙ (step_formed (as_host k) (counted b) (loaded-formed b.state) library_makeable).1

-- lists of calls
pub library_run :
    (ks : List LibraryCall) (b : Buffers) (seen : List Seen) (b' : Buffers) → Ran ks b seen b'
    → (seen ≡ numbered_in ks (host_run (map as_host ks) (counted b))) × (counted b' ≡ host_final (map as_host ks) (counted b))
unfolding Ran host_run host_final numbered_in
library_run [] b seen b' r = (r.0, ap counted r.1)
library_run (k ∷ ks) b seen b' r =
    let m = r.3 in
    let step = library_step k b m in
    let rest = library_run ks r.1 r.2 b' r.4 in (
      r.5 ∙ rw (library-sees k b m, rest.0, step),
      rest.1 ∙ ap (host_final (map as_host ks)) step,
    )

-- a host that lends no more than it has in each call of a list has never lent more than it had at first
pub library_all_makeable :
    (ks : List LibraryCall) (b : Buffers) (seen : List Seen) (b' : Buffers) → Ran ks b seen b' → All (Makeable (length b.store)) (map as_host ks)
unfolding Ran
library_all_makeable [] b seen b' r = tt
library_all_makeable (k ∷ ks) b seen b' r =
    let m = r.3 in
    let n = store_length k b m in
    (library_makeable k b m, subst (λ (n : ℕ). All (Makeable n) (map as_host ks)) n (library_all_makeable ks r.1 r.2 b' r.4))

pub ran_length : (ks : List LibraryCall) (b : Buffers) (seen : List Seen) (b' : Buffers) → Ran ks b seen b' → length b'.store ≡ length b.store
unfolding Ran
ran_length [] b seen b' r = ap (λ (x : Buffers). length x.store) r.1
ran_length (k ∷ ks) b seen b' r = ran_length ks r.1 r.2 b' r.4 ∙ store_length k b r.3

-- "the view of the bytes after is what the step says", for lists of calls
pub library_refines :
    (ks : List LibraryCall) (b : Buffers) (seen : List Seen) (b' : Buffers) → Ran ks b seen b'
    → (seen ≡ numbered_in ks (run (map as_call (map as_host ks)) (viewed (counted b))))
    × (viewed (counted b') ≡ final (map as_call (map as_host ks)) (viewed (counted b)))
library_refines ks b seen b' r =
    let host = library_run ks b seen b' r in
    let refines = run_refines (map as_host ks) (counted b) (loaded-formed b.state) (library_all_makeable ks b seen b' r) in
    (host.0 ∙ ap (numbered_in ks) refines.0, ap viewed host.1 ∙ refines.1)
