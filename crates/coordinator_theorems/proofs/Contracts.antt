-- The contracts of crate coordinator are what the theorems about a host's calls speak of: each is equated, whole, with the turn of its call. A
-- contract that asks something of its caller, or promises something else, is refused here.
-- Assumes nothing.
use Prim.Native.Nat.{ℕ}
use mathlib.Core.Path.{◌≡◌, refl}
use mathlib.Core.Bool.{Bool}
use mathlib.Core.List.{List, []}
use lib.ListN.{length}
use contract.Lifetimes.{Lfts}
use borrow.Fn.World.{World}
use denote.Ref.{Bor}
use denote.MutBor.{MutBor}
use Rattle.state_table.specs.declared.State.{State}
use Rattle.state.specs.declared.answers.Done.{Done}
use Rattle.state.specs.declared.fields.Coordinator.{Coordinator}
use Rattle.state.specs.Turns.{Did}
use Rattle.configuration.specs.declared.new_config.NewConfig.{NewConfig}
use Rattle.calls.specs.declared.held_keys.HeldKey.{HeldKey}
use Rattle.starts.specs.declared.naming.Start.{Start}
use Rattle.packet_entry.specs.declared.Entry.TheVariants.{Process, ProcessMessage}
use Rattle.coordinator.specs.contracts.commission as commission'
use Rattle.coordinator.specs.contracts.set_key as set_key'
use Rattle.coordinator.specs.contracts.take_results as take_results'
use Rattle.coordinator.specs.contracts.can_move_to as can_move_to
use Rattle.coordinator.specs.contracts.start_signing_round as start_signing_round
use Rattle.coordinator.specs.contracts.process as process
use Rattle.coordinator.specs.contracts.process_message as process_message
use Rattle.coordinator.specs.contracts.process_timeout as process_timeout'
use Rattle.coordinator.specs.contracts.aggregated as aggregated'
use Rattle.coordinator.specs.contracts.reset as reset'
use Rattle.coordinator.specs.contracts.tell_arrivals as tell_arrivals'
use Rattle.coordinator_theorems.specs.CallContracts.{at, promising}
use Rattle.coordinator_theorems.specs.Host.{HostRequest, commission, set_key, take_results, can_move, start, receive, process_timeout}
use Rattle.coordinator_theorems.specs.Host.{aggregated, reset, tell_arrivals, turn_for}

module _ (w : World) where
  -- calls that are lent no answer buffer: their turn looks at no clock, no verdict and no buffer's length
  pub commission-is :
      (clock : ℕ) (verdict : Bool) (room : ℕ) (s : Coordinator) (store : MutBor (List ℕ)) (κs : Lfts 1) (g : NewConfig)
      → at w commission'.clauses κs (g, (store, tt))
      ≡ promising w commission'.ended κs (λ r e. Did (turn_for (commission g) clock verdict room s store.now) [] r e.1.0.now [])
  unfolding turn_for
  commission-is clock verdict room s store κs g = refl

  module _ (clock : ℕ) (verdict : Bool) (room : ℕ) (s : Coordinator) (store : Bor (List ℕ)) (κs : Lfts 1) where
    abbrev Gives : HostRequest → Done → List ℕ → Type 0
    Gives q r after = Did (turn_for q clock verdict room s store.now) [] r after []

    pub set-key-is :
        (which : HeldKey) (held : Bool)
        → at w set_key'.clauses κs (s, (store, (which, (held, tt))))
        ≡ promising w set_key'.ended κs (λ r e. Gives (set_key which held) r store.now)
    unfolding turn_for
    set-key-is which held = refl

    pub can-move-is :
        (next : State) (root : List ℕ)
        → at w can_move_to.clauses κs (s, (store, (next, (root, tt))))
        ≡ promising w can_move_to.ended κs (λ r e. Gives (can_move next root) r store.now)
    unfolding turn_for
    can-move-is next root = refl

    pub aggregated-is :
        (ok : Bool)
        → at w aggregated'.clauses κs (s, (store, (ok, tt))) ≡ promising w aggregated'.ended κs (λ r e. Gives (aggregated ok) r store.now)
    unfolding turn_for
    aggregated-is ok = refl

    pub reset_is : at w reset'.clauses κs (s, (store, tt)) ≡ promising w reset'.ended κs (λ r e. Gives reset r store.now)
    unfolding turn_for
    reset_is = refl

  pub results-is :
      (clock : ℕ) (verdict : Bool) (room : ℕ) (κs : Lfts 2) (s : Coordinator) (store ended : Bor (List ℕ)) (dkg : ℕ)
      → at w take_results'.clauses κs (s, (store, (dkg, (ended, tt))))
      ≡ promising w take_results'.ended κs
      (λ r e. Did (turn_for (take_results dkg ended.now) clock verdict room s store.now) [] r store.now [])
  unfolding turn_for
  results-is clock verdict room κs s store ended dkg = refl

  -- calls that are lent one
  module _ (s : Coordinator) (out : MutBor (List ℕ)) (clock : ℕ) where
    abbrev Writes : HostRequest → Bool → List ℕ → Done → List ℕ → List ℕ → Type 0
    Writes q verdict store r after written = Did (turn_for q clock verdict (length out.now) s store) out.now r after written

    pub start_is :
        (store : Bor (List ℕ)) (κs : Lfts 3) (verdict : Bool) (message : Bor (List ℕ)) (by : Start)
        → at w start_signing_round.clauses κs (s, (store, (out, (clock, (message, (by, tt))))))
        ≡ promising w start_signing_round.ended κs (λ r e. Writes (start message.now by) verdict store.now r store.now e.1.1.0.now)
    unfolding turn_for
    start_is store κs verdict message by = refl

    pub process-is :
        (store : MutBor (List ℕ)) (κs : Lfts 3) (verdict : Bool) (bytes : Bor (List ℕ))
        → at w process.clauses κs (s, (store, (out, (clock, (verdict, (bytes, tt))))))
        ≡ promising w process.ended κs (λ r e. Writes (receive Process bytes.now) verdict store.now r e.1.0.now e.1.1.0.now)
    unfolding turn_for
    process-is store κs verdict bytes = refl

    pub process-message-is :
        (store : MutBor (List ℕ)) (κs : Lfts 3) (verdict : Bool) (bytes : Bor (List ℕ))
        → at w process_message.clauses κs (s, (store, (out, (clock, (verdict, (bytes, tt))))))
        ≡ promising w process_message.ended κs (λ r e. Writes (receive ProcessMessage bytes.now) verdict store.now r e.1.0.now e.1.1.0.now)
    unfolding turn_for
    process-message-is store κs verdict bytes = refl

    pub process-timeout-is :
        (store : Bor (List ℕ)) (κs : Lfts 2) (verdict : Bool)
        → at w process_timeout'.clauses κs (s, (store, (out, (clock, tt))))
        ≡ promising w process_timeout'.ended κs (λ r e. Writes process_timeout verdict store.now r store.now e.1.1.0.now)
    unfolding turn_for
    process-timeout-is store κs verdict = refl

    pub tell-arrivals-is :
        (store : Bor (List ℕ)) (κs : Lfts 2) (verdict : Bool)
        → at w tell_arrivals'.clauses κs (s, (store, (out, tt)))
        ≡ promising w tell_arrivals'.ended κs (λ r e. Writes tell_arrivals verdict store.now r store.now e.1.1.0.now)
    unfolding turn_for
    tell-arrivals-is store κs verdict = refl
