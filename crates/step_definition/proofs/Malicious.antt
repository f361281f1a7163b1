-- The malicious list: only a share timeout adds to it, and only commissioning removes from it.
-- Assumes nothing.
use Prim.Native.Nat.{ℕ}
use mathlib.Core.Path.{◌≡◌}
use mathlib.Core.Bool.{Bool, true, false, cond, or-true}
use mathlib.Core.List.{List}
use Rattle.std.specs.Prelude.{Some, None}
use native.Mathlib.Omega.{arith}
use Rattle.layout.specs.declared.SignatureType.{SignatureType}
use Rattle.state_table.specs.declared.State.TheVariants.{SigShareGather}
use Rattle.validity.specs.Keys.{member}
use Rattle.step_definition.specs.Coordinator.{Coordinator, Held, uncommissioned, commissioned, waiters_of, current_record}
use Rattle.step_definition.specs.Calls.{Call, newly_malicious_in}
use Rattle.step_definition.specs.Questions.{fires}
use Rattle.step_definition.specs.Run.{malicious_in}
use Rattle.step_definition.specs.Silence.{is_commission}
use Rattle.step_definition.specs.Step.{step}
use Rattle.step_definition.proofs.Ascending.{member-insert_all}
use Rattle.step_definition.proofs.Outcomes.{malicious_after, MaliciousChange, kept, added, step_told}

-- what became of the list, where the call was no commissioning
malicious_change : (k : Call) (h : Held) → is_commission k.request ≡ false → MaliciousChange k.clock h (step k h)
malicious_change k h nc = rw nc at (step_told k h).malicious_change

-- without a share timeout, and without commissioning, the list stays as it is
pub malicious_kept :
    (k : Call) (h : Held) → is_commission k.request ≡ false → newly_malicious_in (step k h).events ≡ None
    → malicious_in (step k h).after ≡ malicious_in h
malicious_kept k h nc e = from (malicious_change k h nc)
  where
    from : MaliciousChange k.clock h (step k h) → malicious_in (step k h).after ≡ malicious_in h
    from (kept m s) = s
    from (added c ids held f m a) = cc

-- a share timeout fires in SigShareGather, and adds the waiters of the current message's record
pub record ShareTimeout (k : Call) (h : Held) : Type 0 where
  pub coordinator : Coordinator
  pub holds : h ≡ commissioned coordinator
  pub type : SignatureType
  pub gathers : coordinator.position.state ≡ SigShareGather type
  pub elapsed : fires k.clock coordinator.round.clocks.sign_start coordinator.standing.config.timeouts.sign ≡ true
  pub adds : malicious_in (step k h).after ≡ malicious_after coordinator

pub malicious_by_timeout : (k : Call) (h : Held) (ids : List ℕ) → newly_malicious_in (step k h).events ≡ Some ids → ShareTimeout k h
malicious_by_timeout k h ids e = from (is_commission k.request) (step_told k h).malicious_change
  where
    from : (b : Bool) → MaliciousChange k.clock (cond b uncommissioned h) (step k h) → ShareTimeout k h
    from b (kept m s) = let z : ◌≡◌ {A = ℕ} 0 1 = cc in absurd (omega arith)
    from true (added c ids held f m a) = let z : ◌≡◌ {A = ℕ} 0 1 = cc in absurd (omega arith)
    from false (added c ids held f m a) =
        record { coordinator = c; holds = held; type = f.type; gathers = f.gathers; elapsed = f.elapsed; adds = a }

-- nobody is taken off but by commissioning
pub malicious_grows :
    (k : Call) (h : Held) (id : ℕ) → is_commission k.request ≡ false → member id (malicious_in h) ≡ true
    → member id (malicious_in (step k h).after) ≡ true
unfolding malicious_in
malicious_grows k h id nc m = from (malicious_change k h nc)
  where
    from : MaliciousChange k.clock h (step k h) → member id (malicious_in (step k h).after) ≡ true
    from (kept n s) = rw s m
    from (added c ids held f n a) = rw (a, member-insert_all, rw held at m) (or-true (member id (waiters_of (current_record c))))
