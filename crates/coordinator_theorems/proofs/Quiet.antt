-- Calls that give back the struct that they were given: refused with a number after which nothing differs, a timeout that isn't due, the move question.
-- Assumes nothing.
use Rattle.std.specs.Prelude.{Err, Ok}
use Prim.Native.Nat.{ℕ, ◌<◌}
use mathlib.Core.Path.{◌≡◌, refl, sym}
use mathlib.Core.Bool.{Bool, true, false, cond, not, ◌&&◌, ◌||◌, false≢true}
use mathlib.Core.List.{List, map}
use native.Mathlib.Omega.{arith}
use borrow.Author.Tests.{le-leb, leb-false}
use lib.Dec.{eqb, leb}
use lib.ListN.{length}
use Rattle.step_definition.specs.Calls.{is_nothing}
use Rattle.step_definition.specs.Refusals.{unchanging}
use Rattle.state.specs.declared.fields.Coordinator.{Coordinator}
use Rattle.state.specs.Turns.{Turn, unless, asked}
use Rattle.state.specs.Passed.{Passed}
use Rattle.layout.specs.declared.SignatureType.{SignatureType}
use Rattle.state.specs.declared.fields.SignRoundInfo.{SignRoundInfo}
use Rattle.configuration.specs.declared.new_config.NewConfig.{NewConfig}
use Rattle.commission.specs.Commission.{commission_turn, uncommissioned_struct}
use Rattle.starts.specs.Starts.{request_turn}
use Rattle.timeouts.specs.NonceTimeout.{record_asked, nonce_timeout_turn}
use Rattle.signer_ids.specs.Flags.{is_waiting}
use Rattle.share_timeout.specs.Exclusion.{excluded_in, too_few_keys}
use Rattle.share_timeout.specs.ShareTimeout.{insufficient_turn, retry_turn, excluded_turn, row_turn, share_timeout_turn}
use Rattle.process_timeout.specs.declared.dues.Due.{Due}
use Rattle.process_timeout.specs.declared.dues.Due.TheVariants.{Nothing, Nonces, Shares}
use Rattle.process_timeout.specs.Due.{due_of, due_turn, quiet_turn}
use Rattle.process_timeout.specs.ProcessTimeout.{asking_timeout, process_timeout_turn}
use Rattle.coordinator_theorems.specs.Host.{HostRequest, commission, process_timeout, turn_for}
use Rattle.coordinator_theorems.specs.Refusals.{changing, RefusalLeaves, commissioning, otherwise}
use Rattle.coordinator_theorems.proofs.Ends.{Ended, took, refused}
use Rattle.coordinator_theorems.proofs.EndsCalls.{commission_ends}
use Rattle.coordinator_theorems.proofs.EndsPackets.{turn_ends}
use Rattle.coordinator_theorems.proofs.Leaves.{unchanged}

none_of : (a b c d : Bool) → not (a || (b || (c || d))) ≡ true → (a ≡ false) × ((b ≡ false) × ((c ≡ false) × (d ≡ false)))
none_of true b c d e = absurd (false≢true e)
none_of false true c d e = absurd (false≢true e)
none_of false false true d e = absurd (false≢true e)
none_of false false false true e = absurd (false≢true e)
none_of false false false false e = (refl, (refl, (refl, refl)))

is_refusal : (n : ℕ) → unchanging n ≡ true → (3 < n) × (changing n ≡ false)
is_refusal n e =
    let f = none_of (leb n 3) (eqb n 10) (eqb n 11) (leb 20 n && leb n 23) e in
    let past : 3 < n = leb-false n 3 f.0 in
    let one : leb 1 n ≡ true = le-leb 1 n (omega arith) in
    (past, rw (one, f.0, f.1.0, f.1.1.0, f.1.1.1))

quiet_end : {clock : ℕ} {q : HostRequest} {s : Coordinator} {store : List ℕ} {t : Turn} → Ended clock q s store t → unchanging t.answer.number ≡ true → t.after ≡ s
quiet_end {t = t} (took z k) e = let past = (is_refusal t.answer.number e).0 in absurd (omega arith)
quiet_end {t = t} (refused r) e = (unchanged r (is_refusal t.answer.number e).1).0

-- a refused call gives the struct back
pub refused-quiet :
    (q : HostRequest) (clock : ℕ) (verdict : Bool) (room : ℕ) (s : Coordinator) (store : List ℕ)
    → unchanging (turn_for q clock verdict room s store).answer.number ≡ true → (turn_for q clock verdict room s store).after ≡ s
refused-quiet q clock verdict room s store e = quiet_end (turn_ends q clock verdict room s store) e

-- commissioning is refused with 1 to 3 alone, after which the struct is another
loud : {clock : ℕ} {g : NewConfig} {s s' : Coordinator} {store store' : List ℕ} {n : ℕ} → RefusalLeaves clock s store (commission g) n s' store' → unchanging n ≡ true → ⊥
loud (commissioning g n l h) e = let past = (is_refusal n e).0 in omega arith
loud (otherwise q n o c) e = absurd (false≢true (sym o))

pub commission_loud : (g : NewConfig) (store : List ℕ) → unchanging (commission_turn g store).answer.number ≡ true → ⊥
commission_loud g store = ended (commission_ends 0 g uncommissioned_struct store)
  where
    ended : {t : Turn} → Ended 0 (commission g) uncommissioned_struct store t → unchanging t.answer.number ≡ true → ⊥
    ended {t} (took z k) e = let past = (is_refusal t.answer.number e).0 in omega arith
    ended (refused r) e = loud r e

-- so does a timeout that is answered with nothing: a turn that gives the struct back where it is answered with nothing
module _ (clock : ℕ) (s : Coordinator) (store : List ℕ) where
  record Still (t : Turn) : Type 0 where
    still : is_nothing t.answer.class ≡ true → t.after ≡ s

  still_unless : (p : Passed) {rest : Turn} → Still rest → Still (unless p s store rest)
  unfolding unless
  still_unless (Ok tt) k = k
  still_unless (Err n) k = record { still = λ e. refl }

  still_cond : (b : Bool) {x y : Turn} → Still x → Still y → Still (cond b x y)
  still_cond true k l = k
  still_cond false k l = l

  row_still : (t : SignatureType) (row : SignRoundInfo) → Still (row_turn clock t row s store)
  unfolding row_turn excluded_turn insufficient_turn retry_turn request_turn
  row_still t row =
      let s' = excluded_in (map is_waiting row.slots) s in
      still_cond (too_few_keys s'.marks.malicious s') (record { still = λ e. absurd (false≢true e) }) (record { still = λ e. absurd (false≢true e) })

  due_still : (due : Due) → Still (due_turn clock due s store (quiet_turn s store))
  unfolding due_turn nonce_timeout_turn share_timeout_turn
  due_still Nothing = record { still = λ e. refl }
  due_still Nonces = still_unless (record_asked s store) (record { still = λ e. refl })
  due_still (Shares t) = still_unless (record_asked s store) (row_still t _)

  timeout_quiet : (room : ℕ) → is_nothing (process_timeout_turn clock room s store).answer.class ≡ true → (process_timeout_turn clock room s store).after ≡ s
  unfolding process_timeout_turn
  timeout_quiet room = (still_unless (asked asking_timeout (length store) room s) (due_still (due_of clock s))).still

  -- a timeout that is refused with nothing changed, or that is answered with nothing
  pub timeout-still :
      (room : ℕ) → let t = process_timeout_turn clock room s store in (is_nothing t.answer.class || unchanging t.answer.number) ≡ true → t.after ≡ s
  unfolding turn_for
  timeout-still room e = by (is_nothing (process_timeout_turn clock room s store).answer.class) refl e
    where
      by :
          (b : Bool) → is_nothing (process_timeout_turn clock room s store).answer.class ≡ b
          → (b || unchanging (process_timeout_turn clock room s store).answer.number) ≡ true → (process_timeout_turn clock room s store).after ≡ s
      by true f e = timeout_quiet room f
      by false f e = refused-quiet process_timeout clock false room s store e
