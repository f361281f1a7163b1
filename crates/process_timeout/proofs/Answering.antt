-- What was done with the timeout that is due.
-- Assumes nothing.
use Prim.Native.Nat.{ℕ}
use mathlib.Core.Path.{◌≡◌, refl}
use mathlib.Core.List.{List, [], ◌∷◌}
use borrow.Author.Tests.{leb-true}
use denote.Enum.Declared.{tag_of}
use types.Run.{OneOf, miss}
use Rattle.layout.specs.declared.SignatureType.{SignatureType}
use Rattle.state.specs.declared.answers.Done.{Done}
use Rattle.state.specs.declared.fields.Coordinator.{Coordinator}
use Rattle.state.specs.Turns.{Turn, Did, plain_answer}
use Rattle.state.proofs.Turns.{plain_did}
use Rattle.state.proofs.Within.{within, config_few, records_few}
use Rattle.timeouts.specs.NonceTimeout.{TimeoutReady, nonce_timeout_turn}
use Rattle.share_timeout.specs.ShareTimeout.{Late, share_timeout_turn}
use Rattle.process_timeout.specs.declared.dues.Due.{Due}
use Rattle.process_timeout.specs.declared.dues.Due.TheVariants.{Nothing, Nonces, Shares}
use Rattle.process_timeout.specs.Due.{due_turn, quiet_turn}
use Rattle.process_timeout.specs.contracts.dues.Due as Due-type

pub ready : (s : Coordinator) (room : ℕ) → Late s room → TimeoutReady s room
ready s room l =
    let w = within s l.within in
    record { signers = config_few s w; records = records_few s w; message = leb-true _ _ w.message; wide = l.wide }

module _ (clock : ℕ) (due : Due) (s : Coordinator) (store : List ℕ) {d : Done} {out : List ℕ} where
  pub nothing_did : due ≡ Nothing → d ≡ record { answer = plain_answer; after = s } → Did (due_turn clock due s store (quiet_turn s store)) out d store out
  unfolding due_turn
  nothing_did e f = rw e (plain_did [] store out f)

  pub nonces_did : (rest : Turn) (out' : List ℕ) → due ≡ Nonces → Did (nonce_timeout_turn s store) out d store out' → Did (due_turn clock due s store rest) out d store out'
  unfolding due_turn
  nonces_did rest out' e f = rw e f

  pub shares_did :
      (t : SignatureType) (rest : Turn) (out' : List ℕ) → due ≡ Shares t → Did (share_timeout_turn clock t s store) out d store out'
      → Did (due_turn clock due s store rest) out d store out'
  unfolding due_turn
  shares_did t rest out' e f = rw e f

-- "When it yields a packet, a result or an error, `process` drops the inbound packet": where a timeout is due, the rest is not looked at
abbrev late : List ℕ
late = 1 ∷ (2 ∷ [])

pub drops_rest :
    (clock : ℕ) (due : Due) (s : Coordinator) (store : List ℕ) (rest rest' : Turn) → OneOf late (tag_of Due-type.the_type due)
    → due_turn clock due s store rest ≡ due_turn clock due s store rest'
unfolding due_turn
drops_rest clock Nothing s store rest rest' h = absurd (miss late 0 tt h)
drops_rest clock Nonces s store rest rest' h = refl
drops_rest clock (Shares t) s store rest rest' h = refl
